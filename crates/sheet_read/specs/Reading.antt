-- What reading gives: the tests in their order as the passes make them, the tables of an accepted sheet, and the answer for
-- the firmware (document 01, "Said by what was handed in", 1 to 10, and document 02, Job 6, 17 and 18).
use Rattle.std.specs.Prelude.{ℕ, ◌*◌, ◌≤◌, ◌≡◌, Bool, List, [], ◌++◌, take, drop, length, Result, Ok, Err}
use Rattle.std.proofs.Common.{sym, ◌∙◌}
use Rattle.formula.specs.declared.Refused.{Refused}
use Rattle.formula.specs.Results.{Reading, Verdict}
use Rattle.formula.specs.Refusals.{number_of}
use Rattle.formula.specs.Sheet.{row_count, fields_of}
use Rattle.formula.specs.Places.{places_of}
use Rattle.formula.specs.Tests.{Sheet, operators_of, sheet_of, row_tests, formula_tests, kind_tests, graph_tests, verdict_by, verdict_of}
use Rattle.formula.specs.Acceptance.{Admissible, Kinded}
use Rattle.formula.proofs.Acceptance.{passed-admissible, passed-kinded}
use Rattle.meaning.specs.Rows.{ExpRow}
use Rattle.sheet_read.specs.declared.read.ReadAnswer.{ReadAnswer}
use Rattle.names.specs.Names.{mask}
use Rattle.sheet_tables.specs.Nodes.{node_at, returned_in, free_in, Holds}
use Rattle.sheet_tables.specs.Ready.{Ready}

-- Tests 1 to 5.
unfoldable pub row_verdict : List ℕ → Verdict
unfolding verdict_by row_tests sheet_of
row_verdict s = verdict_by row_tests (sheet_of s)

-- n rows with the fields t in the places p, as the tests behind 5 look at them.
abbrev pub rows_in : List ℕ → List Bool → ℕ → Sheet
rows_in t p n = record { text = []; rows = n; lines = []; fields = t; places = p }

-- Tests 17 and 18, which do not look at places.
unfoldable pub kind_verdict : List ℕ → ℕ → List ℕ → Verdict
unfolding verdict_by kind_tests
kind_verdict t n line = verdict_by (kind_tests line) (rows_in t [] n)

-- The tests from 6 on.
unfoldable pub formula_verdict : List ℕ → ℕ → List ℕ → Verdict
unfolding verdict_by formula_tests kind_tests graph_tests places_of
formula_verdict t n line = verdict_by (formula_tests ++ (kind_tests line ++ graph_tests)) (rows_in t (places_of t n) n)

-- Those behind 6 and 7.
unfoldable pub table_verdict : List ℕ → List Bool → ℕ → List ℕ → Verdict
unfolding verdict_by formula_tests kind_tests graph_tests
table_verdict t p n line = verdict_by (drop 2 (formula_tests ++ (kind_tests line ++ graph_tests))) (rows_in t p n)

-- What the tests say, and the operators of an accepted sheet's formula.
abbrev pub verdict_in : Result ℕ Refused → Verdict
verdict_in (Err why) = Err why
verdict_in (Ok k) = Ok tt

abbrev pub operators_in : Result ℕ Refused → ℕ
operators_in (Err why) = 0
operators_in (Ok k) = k

-- What is known of n rows with the fields t once all tests have passed: k operators, returned widths ret, masks m; and that the
-- last row is the formula's.
pub record Rowed (t : List ℕ) (n k : ℕ) (ret m : List ℕ) : Type 0 where
  pub ready : Ready t n (places_of t n)
  pub operators : k ≡ operators_of t n
  pub returned : Holds 0 ret n (λ r. returned_in (node_at t (places_of t n) r))
  pub masks : Holds 0 m n (λ r. mask (free_in (node_at t (places_of t n) r)))
  pub returned-size : length ret ≡ n
  pub masks-size : length m ≡ n
  pub last : ExpRow t ret n

-- The tables of a sheet by row, and what the tests say of it.
pub record Tables : Type 0 where
  pub verdict : Verdict
  pub operators : ℕ
  pub rows : ℕ
  pub fields : List ℕ
  pub returned : List ℕ
  pub masks : List ℕ

abbrev pub tables_of : Result ℕ Refused → ℕ → List ℕ → List ℕ → List ℕ → Tables
tables_of v n t ret m = record { verdict = verdict_in v; operators = operators_in v; rows = n; fields = t; returned = ret; masks = m }

-- The tables of an accepted sheet.
pub record Accepts (s : List ℕ) (x : Tables) : Type 0 where
  pub rows : x.rows ≡ row_count s
  pub some : 1 ≤ row_count s
  pub few : row_count s ≤ 200
  pub fields : take (5 * row_count s) x.fields ≡ fields_of s
  pub tables : Rowed (fields_of s) (row_count s) x.operators (take (row_count s) x.returned) (take (row_count s) x.masks)

pub record Told (s line : List ℕ) (x : Tables) : Type 0 where
  pub verdict : x.verdict ≡ verdict_of s line
  pub accepts : x.verdict ≡ Ok tt → Accepts s x

-- Where the tests told that they passed, the sheet is admissible and its kinds line is told and kept.
module _ (s line : List ℕ) (x : Tables) (told : Told s line x) (well : x.verdict ≡ Ok tt) where
  pub told-admissible : Admissible s
  told-admissible = passed-admissible s line (sym told.verdict ∙ well)

  pub told-kinded : Kinded s line
  told-kinded = passed-kinded s line (sym told.verdict ∙ well)

-- The answer for the firmware: refusal 0 for an accepted sheet, else document 01's number; figures 0 on refusal.
abbrev pub answer_of : Reading → ReadAnswer
answer_of (Ok f) = record { refusal = 0; row = 0; rows = f.rows; operators = f.operators; inputs = f.inputs; results = f.results }
answer_of (Err why) = record { refusal = number_of why.refusal; row = why.row; rows = 0; operators = 0; inputs = 0; results = 0 }
