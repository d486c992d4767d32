-- Laws of specs/TidyRefused.antt, and what only they need.
use Rattle.std.specs.Prelude.{ℕ, ◌≡◌, refl, Bool, true, false, List, [], ◌∷◌, Ok, Err}
use Rattle.std.proofs.Common.{sym, ap, subst, ◌∙◌}
use Rattle.value.specs.Operators.{pick}
use Rattle.formula.specs.declared.Refusal.TheVariants.{Memory}
use Rattle.formula.specs.Results.{Verdict}
use Rattle.formula.specs.Sheet.{lines_of}
use Rattle.formula.specs.Tests.{laid_out, few_rows, row_tests, sheet_of}
use Rattle.sheet_read.specs.Reading.{row_verdict}
use Rattle.sheet_read.proofs.ReadLaws.{rows-refuse}
use Rattle.sheet_tidy.specs.Tidying.{handed, answers, by_verdict, tidied_into}
use Rattle.refusals.specs.FirstRefusal.{Row, first-refusal}
use Rattle.refusals.specs.Conditions.{row_table, no-room-to-tidy, tidy_table}
use Rattle.refusals.specs.Exact.{number_in, table_by}
use Rattle.refusals.proofs.Exact.{first_by, failed-whole}
use Rattle.refusals.specs.Rows.{VerdictRow}
use Rattle.refusals.proofs.Rows.{verdict-row}
use Rattle.machine_tray.specs.OneByOne.{either}
use Rattle.refusals.specs.TidyRefused.{TidyKeeps}

-- ---- the first of its table
rows-table : (s : List ℕ) → table_by row_tests (sheet_of s) ≡ row_table s
unfolding row_tests sheet_of
rows-table s = rw (failed-whole (laid_out s (lines_of s)), failed-whole (few_rows s)) refl

rows-exact : (s : List ℕ) → number_in (row_verdict s) ≡ first-refusal (row_table s)
unfolding row_verdict
rows-exact s = first_by row_tests (sheet_of s) ∙ ap first-refusal (rows-table s)

tidy-order : (b : Bool) (v : Verdict) (s out : List ℕ) (cs : List Row) → number_in v ≡ first-refusal cs
    → (pick b (handed (answers 11 0 0) out) (by_verdict v s out)).answer.refusal ≡ first-refusal ((b, Memory) ∷ cs)
unfolding by_verdict first-refusal
tidy-order true v s out cs h = refl
tidy-order false (Ok _) s out cs h = h
tidy-order false (Err why) s out cs h = h

-- 11, 1 to 5
pub tidy-exact : (s out : List ℕ) → (tidied_into s out).answer.refusal ≡ first-refusal (tidy_table s out)
unfolding tidied_into
tidy-exact s out = tidy-order (no-room-to-tidy s out) (row_verdict s) s out (row_table s) (rows-exact s)

-- ---- its row and its bytes
-- The row of tests 1 to 5 is reading's, whatever the kinds line.
rows_row : (s : List ℕ) (v : Verdict) → v ≡ row_verdict s → VerdictRow s [] v
rows_row s (Ok _) e = tt
rows_row s (Err why) e = subst (VerdictRow s []) (sym (rows-refuse s [] (Err why) why.refusal why.row e refl)) (verdict-row s [])

tidy-by : (s out : List ℕ) (v : Verdict) → VerdictRow s [] v → TidyKeeps s out (by_verdict v s out)
unfolding by_verdict
tidy-by s out (Ok _) e h = absurd (h refl)
tidy-by s out (Err why) e h = ((why.refusal, refl, e), refl, refl)

pub tidy-keeps : (s out : List ℕ) → TidyKeeps s out (tidied_into s out)
unfolding tidied_into
tidy-keeps s out =
    either (TidyKeeps s out) (no-room-to-tidy s out) _ _ (λ h. ((Memory, refl, refl), refl, refl)) (tidy-by s out (row_verdict s) (rows_row s (row_verdict s) refl))
