-- The tidied sheet of a sheet that passes tests 1 to 5 (document 02, Job 8): its fields are those of the kept rows, renumbered, one row after the
-- other, it has as many rows, and it passes tests 1 to 5 itself.
use Prim.Native.Nat.{ℕ, zero, suc, ◌*◌, ◌-◌, ◌≤◌}
use Rattle.std.specs.Prelude.{◌≡◌, Bool, cond, get_or}
use mathlib.Core.List.{List, [], ◌∷◌, map, flatten}
use Rattle.std.proofs.Math.ListN.{length}
use borrow.Author.Tests.{le-leb, lt-ltb}
use Rattle.formula.specs.declared.Shape.{Shape}
use Rattle.formula.specs.Sheet.{row_count, lines_of, fields_of, field, shape_at, named_in}
use Rattle.formula.specs.Tests.{ended_at, fields_well, ranges_well, all_between, names_well}
use Rattle.formula.specs.FaultRows.{Among}
use Rattle.formula.specs.TreeLaws.{AllBetween}
use Rattle.sheet_tidied.specs.Tidy.{kept_of, new_rows, tidied}
use Rattle.sheet_read.specs.Reading.{row_verdict}

-- Which rows of a sheet are kept.
abbrev pub kept_in : List ℕ → List Bool
kept_in s = kept_of (fields_of s) (row_count s)

-- ---- the new sheet
-- What it holds.
pub record Holding (s : List ℕ) : Type 0 where
  pub fields : fields_of (tidied s) ≡ flatten (new_rows s)
  pub rows : row_count (tidied s) ≡ length (new_rows s)
  pub some : 1 ≤ length (new_rows s)
  pub most : length (new_rows s) ≤ row_count s
  pub bytes : length (tidied s) ≡ 31 * length (new_rows s)
  pub shorter : length (tidied s) ≤ length s
