-- The rows that a row of the table names, where it names only rows before it.
use Rattle.std.specs.Prelude.{ℕ, ◌*◌, ◌≤◌, ◌≡◌, List, length}
use Rattle.std.proofs.Common.{subst, arith}
use Rattle.formula.specs.declared.Shape.{Shape}
use Rattle.formula.specs.declared.Shape.TheVariants.{Pair}
use Rattle.formula.specs.Sheet.{shape_at, named_in}
use Rattle.formula.specs.TreeLaws.{AllBetween}
use Rattle.sheet_sorts.specs.Shapes.{Known}

-- The rows that a pair names.
pub pair-known : (t : List ℕ) (r a b : ℕ) → Known t r → shape_at t r ≡ Pair a b
    → ((1 ≤ a) × (5 * a ≤ length t)) × ((1 ≤ b) × (5 * b ≤ length t))
unfolding named_in
pair-known t r a b k e =
    let named : AllBetween r (named_in (Pair a b)) = subst (λ (s : Shape). AllBetween r (named_in s)) e k.2 in (
      (named.0.0, omega (arith, named.0.1, k.1)),
      (named.1.0.0, omega (arith, named.1.0.1, k.1)),
    )
