-- Every call on bytes is followed by calls of the abstract machine that fire the same operators in the same order (InTurn `fired_by`), and so is a list of calls.
-- As demand/specs/FollowAll, with the firings told; of results only their number. Assumes the laws of `CallsAgree`.
use Prim.Native.Nat.{ℕ, zero, suc, ◌+◌, ◌≤◌, ◌<◌}
use Rattle.std.specs.Prelude.{◌≡◌, ◌≢◌, Bool, cond, eqb, ltb, length, drop, take as first_of}
use mathlib.Core.List.{List, [], ◌∷◌, ◌++◌, append-nil}
use Rattle.std.proofs.Math.Option.{Option, none, some}
use Rattle.value.specs.declared.Value.{Value}
use Rattle.value.specs.Operators.{pick}
use Rattle.network.specs.Net.{Links, Able, act}
use Rattle.theory_pieces.specs.Tape.{Step, pushing, firing, taking, sets_of, takes_of}
use Rattle.formula.specs.Tree.{Exp}
use Rattle.formula.specs.declared.Refusal.TheVariants.{Memory, Set, Untaken, Full, NotAble, NoResult, Unfinished}
use Rattle.formula.specs.Refusals.{number_of}
use Rattle.graph.specs.Assembly.{up_from}
use Rattle.graph.specs.Translation.{made_of}
use Rattle.value_sets.specs.Sets.{set_values, set_ok}
use Rattle.machine_layout.specs.Layout.{links_at, size_of, need, operators_of, inputs_of, results_of, untaken_of, stored_kinds}
use Rattle.machine_firing.specs.Fire.{able_at, fired_at}
use Rattle.machine_valid.specs.Below.{all_below}
use Rattle.machine_runs.specs.Run.{least, runs, still_at}
use Rattle.machine_runs.specs.RunLaws.{Quiet, least_at, least-none}
use Rattle.machine_calls.specs.Calls.{Outcome, outcome, Handed, answers, size_in, standing, rooms_ok, result_ready, ended, pushed, fired, ran, taken}
use Rattle.machine_calls.specs.CallLaws.{pushed-refused, pushed-no-set, pushed-untaken, pushed-full, pushed-accepted, fired-refused, fired-absent, fired-idle, fired-accepted, ran-refused, ran-ended, taken-short, taken_refused, taken_none, taken-empty, taken-accepted}
use Rattle.machine_rounds.specs.Rounds.{round, outcome as rounds-outcome, answers as rounds-answers, ran_rounds}
use Rattle.machine_tray.specs.Tray.{trayed, went_in}
use Rattle.machine_tray.specs.OneByOne.{Pushes, went-in}
use Rattle.theory_verdicts.specs.Running as Abstract
use Rattle.theory_verdicts.specs.Running.{places, operator_at, push_of, take_of, dec_able, pushes, fires, takes, accept, after_steps, least_able, least_from, onward, run_steps, steps_of, steps_from}
use Rattle.theory_rounds.specs.RunsFire.{operators-of}
use Rattle.theory_rounds.specs.TurnLaws.{Only-firings}
use Rattle.demand_view.specs.Stands.{Stands}
use Rattle.demand.specs.MemoryCalls.{Call, push, tray, fire, run, by_rounds, take, result, accepted, answer_of, memory_after, set_of, result_of, memory_after_all, sets_pushed, results_taken}
use Rattle.demand.specs.Agree.{CallsAgree}
use Rattle.demand.specs.RoundSteps.{turn_calls, rounds_calls, roundSteps, roundsSteps}

abbrev pub Is-none : Option ℕ → Type 0
Is-none none = Unit {0}
Is-none (some a) = ⊥
