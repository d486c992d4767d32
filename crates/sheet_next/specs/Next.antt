-- The call for the next small sheet (document 02, Job 14), as a function from what it is lent to its answer and every byte of the lent memory at its end;
-- the sheet is lent for reading only. "Given a sheet, write, as tidy does, the next one"; "22 when the given sheet is neither empty nor in the list, and 23
-- when it is the last one, both after 11". Definitions only; assumes nothing.
use Rattle.std.specs.Prelude.{ℕ, List, ltb, length}
use Rattle.std.proofs.lemmas.List.Edits.{sets}
use Rattle.value.specs.Operators.{pick}
use Rattle.formula.specs.declared.Refusal.TheVariants.{Memory, Unlisted, LastListed}
use Rattle.formula.specs.Refusals.{number_of}
use Rattle.formula.specs.Sheet.{row_count}
use Rattle.sheet_listed.specs.Small.{Behind, next, none-behind, unlisted, next_of}
use Rattle.sheet_next.specs.declared.NextAnswer.{NextAnswer}

pub record Handed : Type 0 where
  pub answer : NextAnswer
  pub out : List ℕ

abbrev pub handed : NextAnswer → List ℕ → Handed
handed a o = record { answer = a; out = o }

abbrev pub answers : ℕ → ℕ → ℕ → NextAnswer
answers refusal row rows = record { refusal = refusal; row = row; rows = rows }

-- The next sheet from the start of the lent memory, and its row count; a refusal leaves every byte
unfoldable pub by_behind : Behind → List ℕ → Handed
by_behind (next u) out = handed (answers 0 0 (row_count u)) (sets out 0 u)
by_behind unlisted out = handed (answers (number_of Unlisted) 0 0) out
by_behind none-behind out = handed (answers (number_of LastListed) 0 0) out

-- 11 where five rows have no room, whatever is handed in; then 22, 23
unfoldable pub next_into : List ℕ → List ℕ → Handed
unfolding by_behind next_of
next_into s out = pick (ltb (length out) 155) (handed (answers (number_of Memory) 0 0) out) (by_behind (next_of s) out)
