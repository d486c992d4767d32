-- A sheet written from rows of five numbers is read back as those rows (document 01, "The formula sheet"): its lines are the rows' texts, its fields
-- the rows' numbers, and it passes tests 1 to 3. Assumes nothing.
use Prim.Native.Nat.{ℕ, zero, suc, ◌+◌, ◌*◌, ◌-◌, ◌≤◌, ◌<◌}
use Rattle.std.specs.Prelude.{◌≡◌, Bool, ◌&&◌, length, get_or, take, drop}
use mathlib.Core.List.{List, [], ◌∷◌, ◌++◌, map, flatten, append_assoc, append-nil}
use Rattle.formula.specs.declared.Shape.{Shape}
use Rattle.formula.specs.Sheet.{row_count, lines_in, lines_of, field_text, field_of, fields_in, fields_of, field, shape_of, shape_at}
use Rattle.formula.specs.Tests.{line_at, ended_at, well_formed, fields_well, in_range, ranges_well}
use Rattle.text.specs.Printed.{number_field}

-- A row of five numbers that fit a field of six characters.
pub data Row : List ℕ → Type 0 where
  five : (kind a b c d : ℕ) → kind ≤ 999999 → a ≤ 999999 → b ≤ 999999 → c ≤ 999999 → d ≤ 999999 → Row (kind ∷ a ∷ b ∷ c ∷ d ∷ [])

abbrev pub Rows : List (List ℕ) → Type 0
Rows [] = Unit {0}
Rows (r ∷ rs) = Row r × Rows rs

-- The shape and the test 4 of five numbers.
abbrev pub row_shape : List ℕ → Shape
row_shape l = shape_of (get_or l 0 0) (get_or l 1 0) (get_or l 2 0) (get_or l 3 0) (get_or l 4 0)

abbrev pub row_in_range : List ℕ → Bool
row_in_range l = in_range (get_or l 0 0) (get_or l 1 0) (get_or l 2 0) (get_or l 3 0) (get_or l 4 0)
