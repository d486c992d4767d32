-- The tree of a row in terms of the trees of the rows that it names, with no depth in it. Rests on test 5: a row names only
-- rows from 1 to the one before it.
use Prim.Native.Nat.{ℕ, zero, suc, ◌≤◌, ◌<◌}
use Rattle.std.specs.Prelude.{◌≡◌, Bool, true, false, ◌&&◌, List, [], ◌∷◌, leb, ltb}
use Rattle.formula.specs.Sheet.{shape_at, named_in}

-- Every row of a list is at least 1 and smaller than row r.
abbrev pub AllBetween : ℕ → List ℕ → Type 0
AllBetween r [] = Unit {0}
AllBetween r (x ∷ xs) = ((1 ≤ x) × (x < r)) × AllBetween r xs

-- The rows 1 to n of a table name only rows before them: what test 5 says.
pub record Named (t : List ℕ) (n : ℕ) : Type 0 where
  pub names : (r : ℕ) → 1 ≤ r → r ≤ n → AllBetween r (named_in (shape_at t r))
