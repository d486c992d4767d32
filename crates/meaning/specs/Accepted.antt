-- What tests 1 to 10 (formula/specs/Acceptance: Admissible) say of a sheet: its rows are those of Rows, and its formula is
-- sound. Rests on the laws of places. Assumes an admissible sheet.
use Prim.Native.Nat.{ℕ, zero, suc, ◌*◌, ◌-◌, ◌/◌, ◌%◌, ◌≤◌, ◌<◌}
use Rattle.std.specs.Prelude.{◌≡◌, refl, Bool, true, false, not, ◌&&◌, List, [], ◌∷◌, map, length, get_or}
use native.Mathlib.Omega.{arith}
use Rattle.formula.specs.declared.Shape.{Shape}
use Rattle.formula.specs.declared.Shape.TheVariants.{Identifier, Constant, Pair, Operator, Let, If, For, Iter}
use Rattle.formula.specs.Sheet.{row_count, fields_of, shape_at, named_in}
use Rattle.formula.specs.Tree.{formula_of}
use Rattle.formula.specs.TreeLaws.{Named}
use Rattle.formula.specs.Places.{is_in_body, places_of}
use Rattle.formula.specs.PlaceLaws.{Sound, field_places}
use Rattle.formula.specs.Tests.{laid_out, ranges_well, names_well, placed_well, widths_well}
use Rattle.formula.specs.Acceptance.{Admissible}

-- ---- the rows of an accepted sheet
abbrev pub first : List Bool → Bool
first l = get_or l 0 false

abbrev pub second : List Bool → Bool
second l = get_or l 1 false

abbrev pub third : List Bool → Bool
third l = get_or l 2 false
