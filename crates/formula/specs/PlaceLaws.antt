-- Laws of places (document 01: "Body places are d of a for, and, of a row in a body place, d of a let and b, c of an if. All
-- other places are expression places."). Rests on tests 5 and 6: each row is named once, by a later one, so a mark set by the
-- row that names it stays and no other row touches it.
use Rattle.std.specs.Prelude.{ℕ, zero, suc, ◌+◌, ◌-◌, ◌≤◌, ◌<◌, ◌≡◌, ◌≢◌, Bool, true, not, List, [], ◌∷◌, ◌++◌, map, length, set, replicate, eqb}
use Rattle.std.proofs.Math.Bool.{false}
use Rattle.formula.specs.declared.Shape.{Shape}
use Rattle.formula.specs.declared.Shape.TheVariants.{Identifier, Constant, Pair, Operator, Let, If, For, Iter}
use Rattle.formula.specs.Sheet.{shape_at, named_in}
use Rattle.formula.specs.Tests.{occurrences, all_named}
use Rattle.formula.specs.TreeLaws.{Named}

-- What tests 5 and 6 say of n rows with the fields t.
pub record Sound (t : List ℕ) (n : ℕ) : Type 0 where
  pub named : Named t n
  pub once : (x : ℕ) → 1 ≤ x → x < n → occurrences x (all_named t n) ≡ 1

-- The places of the rows that a row names, field by field; b says whether the row itself is in a body place.
unfoldable pub field_places : Bool → Shape → List Bool
field_places b (Identifier i) = []
field_places b (Constant k i) = []
field_places b (Pair x y) = false ∷ false ∷ []
field_places b (Operator k x) = false ∷ []
field_places b (Let i k x y) = false ∷ b ∷ []
field_places b (If x y z) = false ∷ b ∷ b ∷ []
field_places b (For i k x y) = false ∷ true ∷ []
field_places b (Iter x) = false ∷ []

-- Every row but the last is named by a later one.
pub record Namer (t : List ℕ) (n x : ℕ) : Type 0 where
  pub row : ℕ
  pub later : x < row
  pub inside : row ≤ n
  pub names : 1 ≤ occurrences x (named_in (shape_at t row))
