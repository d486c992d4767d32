-- Direct evaluation of bytes (meaning/specs/Evaluate `evaluation_of`) beside the abstract machine's verdicts (theory_verdicts/specs/Results `EndsWith`): for an accepted
-- sheet and a set that can be read, a number of rounds is enough if and only if the formula yields values with it, and they are the result set's. Assumes
-- an admissible sheet with a kinds line that passes 17 and 18.
use Rattle.std.specs.Prelude.{ℕ, ◌≡◌, List, length, Ok, Err}
use Rattle.std.proofs.Math.Option.{Option, none, some}
use Rattle.value.specs.declared.Value.{Value}
use Rattle.formula.specs.Results.{Verdict}
use Rattle.formula.specs.Tree.{formula_of}
use Rattle.formula.specs.Free.{free_e}
use Rattle.formula.specs.Faults.{letters_of}
use Rattle.formula.specs.Acceptance.{Admissible, Kinded}
use Rattle.meaning.specs.Meaning.{Outcome, yields, inputs_hold, eval_e}
use Rattle.meaning.specs.Evaluate.{cells_of, concluded, evaluated, evaluation_of}
use Rattle.value_sets.specs.Sets.{set_values}
use Rattle.theory_verdicts.specs.Results.{values_of, result_of, EndsWith}
use Rattle.demand_ends.specs.ResultBytes.{cell_bytes}
use Rattle.demand.specs.MemoryCalls.{Result, result}

-- Values as a result set in bytes, with their width.
unfoldable pub shown : List Value → Result
shown r = result (length r) (cell_bytes (cells_of r))

abbrev pub Is-passed : Verdict → Type 0
Is-passed (Ok _) = Unit {0}
Is-passed (Err why) = ⊥

abbrev pub Is-some : Option (List Value) → Type 0
Is-some none = ⊥
Is-some (some vs) = Unit {0}
