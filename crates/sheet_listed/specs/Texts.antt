-- A small sheet is the text of its rows (document 01, "The formula sheet": a field has one text), and each of its rows is one of the list of small rows.
use Rattle.std.specs.Prelude.{ℕ, zero, suc, ◌+◌, ◌*◌, ◌-◌, ◌≤◌, ◌<◌, ◌≡◌, true, ◌&&◌, List, [], ◌∷◌, ◌++◌, map, ltb, length, get_or, take, drop}
use borrow.Author.Tests.{eqb-true, leb-true, ltb-true, lt-ltb}
use Rattle.formula.specs.Sheet.{row_count, lines_in, lines_of, fields_in, fields_of, field, shape_at, named_in}
use Rattle.formula.specs.SheetLaws.{line_fields}
use Rattle.formula.specs.Tests.{fields_well, ranges_well, names_well, all_between, lowest, is-passed, sheet_of, row_tests, formula_tests, verdict_by}
use Rattle.formula.specs.Verdicts.{then}
use Rattle.formula.specs.FaultRows.{Among}
use Rattle.sheet_read.specs.Reading.{row_verdict}
use Rattle.sheet_tidied.specs.Text.{row_text, sheet_text}
use Rattle.sheet_tidied.specs.Rowwise.{Rowwise}
use Rattle.sheet_listed.specs.Small.{modest_row}

-- A table of fields cut into rows of five.
unfoldable pub fives : ℕ → List ℕ → List (List ℕ)
fives zero t = []
fives (suc n) t = take 5 t ∷ fives n (drop 5 t)

-- The rows of a sheet, each as its five fields.
unfoldable pub rows_of : List ℕ → List (List ℕ)
unfolding fives fields_of
rows_of s = fives (row_count s) (fields_of s)

-- ---- the text
-- A line of well-formed fields with its line feed.
abbrev pub Written : List ℕ → Type 0
Written l = (fields_well (l ∷ []) 1 ≡ true) × (get_or l 30 0 ≡ 10)

pub record SmallSheet (s : List ℕ) : Type 0 where
  pub rowwise : Rowwise s
  pub few : row_count s ≤ 5
  pub modestly : (r : ℕ) → 1 ≤ r → r ≤ row_count s → modest_row (fields_of s) r ≡ true

-- The fields of row r of a table.
abbrev pub field_row : List ℕ → ℕ → List ℕ
field_row t r = field t r 0 ∷ field t r 1 ∷ field t r 2 ∷ field t r 3 ∷ field t r 4 ∷ []
