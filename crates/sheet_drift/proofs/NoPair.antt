-- What is read off a row that is no pair: the other arm of the code's `let`.
use Prim.Native.Nat.{ℕ}
use mathlib.Core.Path.{◌≡◌, refl}
use mathlib.Core.Bool.{false}
use mathlib.Core.List.{List}
use Rattle.formula.specs.declared.Shape.{Shape}
use Rattle.formula.specs.declared.Shape.TheVariants.{Identifier, Constant, Pair, Operator, Let, If, For, Iter}
use Rattle.sheet_sorts.specs.Shapes.{names_whole_row, divides_by_whole_row}

pub no-pair : (t : List ℕ) (s : Shape) → ((x y : ℕ) → s ≡ Pair x y → ⊥) → (names_whole_row t s ≡ false) × (divides_by_whole_row t s ≡ false)
no-pair t (Identifier a) h = (refl, refl)
no-pair t (Constant k a) h = (refl, refl)
no-pair t (Pair a b) h = absurd (h a b refl)
no-pair t (Operator a b) h = (refl, refl)
no-pair t (Let a b c d) h = (refl, refl)
no-pair t (If a b c) h = (refl, refl)
no-pair t (For a b c d) h = (refl, refl)
no-pair t (Iter a) h = (refl, refl)
