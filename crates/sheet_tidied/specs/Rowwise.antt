-- What tests 1 to 5 say of a sheet, row by row (document 02, Job 8: "Tests 1 to 5 are made by the tidy call itself"), and the first theorem of a
-- tidied sheet: a row is kept if and only if it is reachable from the last.
use Rattle.std.specs.Prelude.{ℕ, ◌*◌, ◌%◌, ◌≤◌, ◌≡◌, ◌↔◌, not, ◌&&◌, List}
use Rattle.std.proofs.Math.Bool.{true}
use Rattle.std.proofs.Math.ListN.{length}
use borrow.Author.Tests.{leb-true, le-leb, eqb-true, eqb-false, eq-eqb, ne_eqb, not-true}
use native.Mathlib.Omega.{arith}
use Rattle.formula.specs.Sheet.{row_count, lines_of, fields_of, shape_at, named_in}
use Rattle.formula.specs.Tests.{ended_at, lowest, whole, is-passed, laid_out, few_rows, fields_well, ranges_well, names_well, row_tests, sheet_of}
use Rattle.formula.specs.Verdicts.{Each, ◌also◌, Passes}
use Rattle.formula.specs.TreeLaws.{Named}
use Rattle.sheet_read.specs.Reading.{row_verdict}

-- What the five tests ask.
pub record Rowwise (s : List ℕ) : Type 0 where
  pub some : 1 ≤ row_count s
  pub bytes : length s ≡ 31 * row_count s
  pub ended : (r : ℕ) → 1 ≤ r → r ≤ row_count s → ended_at (lines_of s) r ≡ true
  pub few : row_count s ≤ 200
  pub formed : (r : ℕ) → 1 ≤ r → r ≤ row_count s → fields_well (lines_of s) r ≡ true
  pub ranged : (r : ℕ) → 1 ≤ r → r ≤ row_count s → ranges_well (fields_of s) r ≡ true
  pub names : (r : ℕ) → 1 ≤ r → r ≤ row_count s → names_well (fields_of s) r ≡ true
