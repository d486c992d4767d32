-- A refused drift call (document 02, Job 13): its refusal is the first of its table, with the row that goes with it, and every lent byte is handed back
-- unaltered. Assumes nothing.
use Rattle.std.specs.Prelude.{ℕ, ◌≡◌, refl, Bool, true, false, ◌≢◌, List, [], ◌∷◌, ◌++◌}
use Rattle.value.specs.Operators.{pick}
use Rattle.formula.specs.declared.Refusal.{Refusal}
use Rattle.formula.specs.declared.Refusal.TheVariants.{Memory}
use Rattle.formula.specs.Refusals.{number_of}
use Rattle.formula.specs.Sheet.{fields_of, row_count}
use Rattle.formula.specs.TreeLaws.{Named as Naming-well}
use Rattle.formula.specs.Tests.{Sheet, Test, tests, row_tests, formula_tests, kind_tests, graph_tests, sheet_of}
use Rattle.formula.specs.Verdicts.{Each, ◌also◌, FaultSays}
use Rattle.sheet_movement.specs.Sorts.{drifting, sorts_kept}
use Rattle.sheet_movement.specs.Moves.{movements_fit, drift_tests, drift_verdict}
use Rattle.sheet_drift.specs.Drifting.{Handed, handed, answers, by_verdict, drifted_into}
use Rattle.refusals.specs.Rows.{RowTold}
use Rattle.machine_tray.specs.OneByOne.{either}

abbrev pub DriftKeeps : List ℕ → List ℕ → List ℕ → Handed → Type 0
DriftKeeps s line out h = h.answer.refusal ≢ 0 → RowTold s line h.answer.refusal h.answer.row × (h.answer.results ≡ 0) × (h.out ≡ out)
