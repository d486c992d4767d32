-- Document 02, Job 13, of verdicts TAKEN FROM MACHINES: a result taken as the k-th in one list of calls and one taken as the j-th in another, from accepted starts
-- of a sheet with its line that drift accepts, lie no further apart than drift tells, where the k-th set pushed in the first and the j-th in the second are within
-- tolerance. Capacities, memories and orders may differ, and both lists may be one. Rests on demand 3; assumes the two starts and the drift.
use Rattle.std.specs.Prelude.{ℕ, ◌+◌, ◌*◌, ◌≤◌, ◌<◌, ◌≡◌, refl, true, List, [], length, get_or, take as first_of, replicate}
use Rattle.value.specs.Bytes.{word_at}
use Rattle.value_sets.specs.Sets.{set_ok}
use Rattle.formula.specs.Tree.{formula_of}
use Rattle.formula.specs.Faults.{letters_of}
use Rattle.machine_start.specs.Start.{started}
use Rattle.demand.specs.MemoryCalls.{Call, Result, result, sets_pushed, results_taken}
use Rattle.demand.specs.Claim.{Enough}
use Rattle.eval_sheet.specs.Handed.{handed_out}
use Rattle.sheet_drift.specs.Drifting.{drifted_into}

-- Room for a result.
abbrev pub room : List ℕ
room = replicate 80 0
