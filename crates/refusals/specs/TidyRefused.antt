-- A refused tidy call (document 02, Job 8): its refusal is the first of its table, with the row that goes with it, and every lent byte is handed back
-- unaltered. Assumes nothing.
use Rattle.std.specs.Prelude.{ℕ, ◌≡◌, refl, Bool, true, false, not, ◌≢◌, List, [], ◌∷◌}
use Rattle.value.specs.Operators.{pick}
use Rattle.formula.specs.declared.Refusal.{Refusal}
use Rattle.formula.specs.declared.Refusal.TheVariants.{Memory}
use Rattle.formula.specs.Refusals.{number_of}
use Rattle.formula.specs.Sheet.{lines_of}
use Rattle.formula.specs.Tests.{laid_out, few_rows, row_tests, sheet_of}
use Rattle.sheet_read.specs.Reading.{row_verdict}
use Rattle.sheet_tidy.specs.Tidying.{Handed, handed, answers, by_verdict, tidied_into}
use Rattle.refusals.specs.Rows.{RowTold}
use Rattle.machine_tray.specs.OneByOne.{either}

abbrev pub TidyKeeps : List ℕ → List ℕ → Handed → Type 0
TidyKeeps s out h = h.answer.refusal ≢ 0 → RowTold s [] h.answer.refusal h.answer.row × (h.answer.rows ≡ 0) × (h.out ≡ out)
