-- Document 02, Job 6, 18: "when a row breaks the kinds, lowest row given", said of the sheet's rows: each row stands in one place with one kind
-- for each identifier, and the row given is the lowest that breaks its rule there. Rests on test 5, a row names only rows before it, and,
-- where each row is to stand somewhere and in one place only, on test 6, each is named once.
use Prim.Native.Nat.{ℕ, zero, suc, ◌+◌, ◌≤◌, ◌<◌}
use Rattle.std.specs.Prelude.{◌≡◌, ◌↔◌, ◌⊎◌, true, cond, eqb}
use Rattle.std.proofs.Math.Bool.{Bool, false}
use mathlib.Core.List.{List, [], ◌∷◌, ◌++◌, map, append-nil}
use Rattle.formula.specs.declared.Shape.{Shape}
use Rattle.formula.specs.declared.Shape.TheVariants.{Identifier, Constant, Pair, Operator, Let, If, For, Iter}
use Rattle.formula.specs.Sheet.{shape_at}
use Rattle.formula.specs.Tree.{exp_of}
use Rattle.formula.specs.Places.{node_in}
use Rattle.formula.specs.Kinds.{Kinds, Rule, bind_kinds, kinds_e}
use Rattle.formula.specs.FaultRows.{Among}

-- A row, whether it stands in a body place, and the kinds of its identifiers.
pub record Placed : Type 0 where
  pub row : ℕ
  pub body : Bool
  pub kinds : Kinds

abbrev pub standing : ℕ → Bool → Kinds → Placed
standing r b ks = record { row = r; body = b; kinds = ks }

-- The rows that a row names, field by field; b says whether the row itself is in a body place. Document 01: "Body places are d of a for,
-- and, of a row in a body place, d of a let and b, c of an if. All other places are expression places." A let's and a for's row d has
-- "identifiers a to a+b-1, bound to row c" or "started from row c": they have the kinds of row c's values, document 02, Job 6.
unfoldable pub named_at : List ℕ → Bool → Kinds → Shape → List Placed
unfolding bind_kinds kinds_e exp_of
named_at t b ks (Identifier i) = []
named_at t b ks (Constant k i) = []
named_at t b ks (Pair x y) = standing x false ks ∷ standing y false ks ∷ []
named_at t b ks (Operator k x) = standing x false ks ∷ []
named_at t b ks (Let i k x y) = standing x false ks ∷ standing y b (bind_kinds i k (kinds_e (exp_of t x) ks) ks) ∷ []
named_at t b ks (If x y z) = standing x false ks ∷ standing y b ks ∷ standing z b ks ∷ []
named_at t b ks (For i k x y) = standing x false ks ∷ standing y true (bind_kinds i k (kinds_e (exp_of t x) ks) ks) ∷ []
named_at t b ks (Iter x) = standing x false ks ∷ []

-- The rows of a formula in their places: "the last is the formula", with the kinds of its inputs, and so on by the rows that a row names.
pub data Met (t : List ℕ) (n : ℕ) (kinds : Kinds) : ℕ → Bool → Kinds → Type 0 where
  the-formula : Met t n kinds n false kinds
  below : (r : ℕ) (b : Bool) (ks : Kinds) → Met t n kinds r b ks → (p : Placed) → Among p (named_at t b ks (shape_at t r))
      → Met t n kinds p.row p.body p.kinds

abbrev pub Somewhere : List ℕ → ℕ → Kinds → ℕ → Type 0
Somewhere t n kinds r = (b : Bool) × (ks : Kinds) × Met t n kinds r b ks

-- A row that breaks the rule where it stands.
abbrev pub Broken : Rule → List ℕ → ℕ → Kinds → ℕ → Type 0
Broken rule t n kinds r = (b : Bool) × (ks : Kinds) × Met t n kinds r b ks × (rule (node_in b t r) ks ≡ false)

-- The lowest such row.
pub record LowestBroken (rule : Rule) (t : List ℕ) (n : ℕ) (kinds : Kinds) (row : ℕ) : Type 0 where
  pub first : 1 ≤ row
  pub last : row ≤ n
  pub fault : Broken rule t n kinds row
  pub lower : (j : ℕ) → j < row → (b : Bool) (ks : Kinds) → Met t n kinds j b ks → rule (node_in b t j) ks ≡ true
