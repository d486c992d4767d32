-- The drift call (document 02, Job 13), as a function from what it is lent to its answer and every byte of the lent memory at its end; sheet, kinds
-- line and tolerances are lent for reading only. The numbers and the tests behind 10 are sheet_movement's specs/Moves and Sorts. Definitions only;
-- assumes nothing.
use Rattle.std.specs.Prelude.{ℕ, List, ltb, length, Ok, Err}
use Rattle.std.proofs.lemmas.List.Edits.{sets}
use Rattle.value.specs.Operators.{pick}
use Rattle.formula.specs.declared.Refusal.TheVariants.{Memory}
use Rattle.formula.specs.Results.{Verdict}
use Rattle.formula.specs.Refusals.{number_of}
use Rattle.sheet_movement.specs.Moves.{drift_verdict, result_moves, number_bytes}
use Rattle.sheet_drift.specs.declared.DriftAnswer.{DriftAnswer}

pub record Handed : Type 0 where
  pub answer : DriftAnswer
  pub out : List ℕ

abbrev pub handed : DriftAnswer → List ℕ → Handed
handed a o = record { answer = a; out = o }

abbrev pub answers : ℕ → ℕ → ℕ → DriftAnswer
answers refusal row results = record { refusal = refusal; row = row; results = results }

-- "how far each result can move", a number a result from the start of the lent memory; a refusal leaves every byte
unfoldable pub by_verdict : Verdict → List ℕ → List ℕ → List ℕ → Handed
unfolding result_moves number_bytes
by_verdict (Ok _) s tolerances out =
    handed (answers 0 0 (length (result_moves s tolerances))) (sets out 0 (number_bytes (result_moves s tolerances)))
by_verdict (Err why) s tolerances out = handed (answers (number_of why.refusal) why.row 0) out

-- 11 where sixteen numbers have no room, then the sheet's, 20 and 21
unfoldable pub drifted_into : List ℕ → List ℕ → List ℕ → List ℕ → Handed
unfolding by_verdict drift_verdict
drifted_into s line tolerances out =
    pick (ltb (length out) 64) (handed (answers (number_of Memory) 0 0) out) (by_verdict (drift_verdict s line tolerances) s tolerances out)
