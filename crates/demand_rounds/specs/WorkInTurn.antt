-- Working one set after another on bytes (InTurn `in_turn`) beside the same work of the abstract machine (theory_rounds/specs/InTurn): where one is accepted so is the
-- other, and they fire the same operators. Assumes the laws of `CallsAgree` and that each call was lent what a machine needs.
use Rattle.std.specs.Prelude.{ℕ, ◌≤◌, ◌≡◌, ◌⊎◌, Bool, true, false, length, take as first_of}
use mathlib.Core.List.{List, [], ◌∷◌, ◌++◌, map}
use Rattle.std.proofs.Math.Option.{some}
use Rattle.value.specs.declared.Value.{Value}
use Rattle.value.specs.Operators.{pick}
use Rattle.network.specs.Net.{Links, act}
use Rattle.theory_pieces.specs.Tape.{Step, pushing, taking}
use Rattle.formula.specs.Tree.{Exp}
use Rattle.formula.specs.declared.Refusal.TheVariants.{Unfinished}
use Rattle.formula.specs.Refusals.{number_of}
use Rattle.graph.specs.Translation.{made_of}
use Rattle.value_sets.specs.Sets.{set_values}
use Rattle.machine_layout.specs.Layout.{size_of, need, operators_of}
use Rattle.machine_valid.specs.Below.{all_below}
use Rattle.machine_runs.specs.Run.{Ran, runs, still_at}
use Rattle.machine_calls.specs.Calls.{Outcome, outcome, Handed, answers, size_in, standing, result_ready, ended, pushed, ran, taken}
use Rattle.machine_calls.specs.CallLaws.{ran-ended, taken-accepted}
use Rattle.theory_verdicts.specs.Running as Abstract
use Rattle.theory_verdicts.specs.Running.{places, push_of, take_of, dec_able, pushes, takes, accept, after_steps, run_steps, steps_of, steps_from}
use Rattle.theory_rounds.specs.InTurn as Links-in-turn
use Rattle.theory_rounds.specs.RunsFire.{operators-of}
use Rattle.demand_view.specs.Stands.{Stands}
use Rattle.demand.specs.MemoryCalls.{Call, push, run, take, answer_of, memory_after}
use Rattle.demand.specs.Agree.{CallsAgree}

-- One call of such a work: a push of a set that is read as values, a run, or a take.
pub data Job (kinds : List ℕ) : Type 0 where
  pushing-set : (set : List ℕ) (v : List Value) → set_values kinds set ≡ some v → Job kinds
  running : ℕ → Job kinds
  taking-one : Job kinds
