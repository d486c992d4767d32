-- The tidy call (document 02, Job 8), as a function from what it is lent to its answer and every byte of the lent memory at its end; the sheet is lent for reading only. The new sheet is sheet_tidied/specs/Tidy
-- `tidied`. "Tests 1 to 5 are made by the tidy call itself"; "11 comes before all". Definitions only; assumes nothing.
use Rattle.std.specs.Prelude.{ℕ, List, ltb, length, Ok, Err}
use Rattle.value.specs.Operators.{pick}
use Rattle.formula.specs.declared.Refusal.TheVariants.{Memory}
use Rattle.formula.specs.Results.{Verdict}
use Rattle.formula.specs.Refusals.{number_of}
use Rattle.sheet_tidied.specs.Tidy.{new_rows, tidy_need, tidy_written}
use Rattle.sheet_read.specs.Reading.{row_verdict}
use Rattle.sheet_tidy.specs.declared.TidyAnswer.{TidyAnswer}

pub record Handed : Type 0 where
  pub answer : TidyAnswer
  pub out : List ℕ

abbrev pub handed : TidyAnswer → List ℕ → Handed
handed a o = record { answer = a; out = o }

abbrev pub answers : ℕ → ℕ → ℕ → TidyAnswer
answers refusal row rows = record { refusal = refusal; row = row; rows = rows }

-- "writes the sheet from the start of a lent memory, giving its row count"; a refusal leaves every byte
unfoldable pub by_verdict : Verdict → List ℕ → List ℕ → Handed
unfolding tidy_written new_rows
by_verdict (Ok _) s out = handed (answers 0 0 (length (new_rows s))) (tidy_written s out)
by_verdict (Err why) s out = handed (answers (number_of why.refusal) why.row 0) out

-- 11, then 1 to 5
unfoldable pub tidied_into : List ℕ → List ℕ → Handed
unfolding by_verdict row_verdict tidy_need
tidied_into s out = pick (ltb (length out) (tidy_need s)) (handed (answers (number_of Memory) 0 0) out) (by_verdict (row_verdict s) s out)
