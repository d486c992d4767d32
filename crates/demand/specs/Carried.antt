-- The other way from FollowAll: steps that can be made on the links one after another, as those of any list of abstract calls can (theory_verdicts/specs/RunningLaws
-- `calls-made`), can be made on bytes. One call for each step, none of them refused, pushes the sets' bytes and takes the results in bytes (`carried`). Assumes the laws
-- of `CallsAgree`, that each call is lent what a machine needs, and that each set's bytes are read as its values.
use Rattle.std.specs.Prelude.{ℕ, ◌≤◌, ◌<◌, ◌≡◌, length, drop, take as first_of}
use mathlib.Core.List.{List, [], ◌∷◌, ◌++◌, map}
use Rattle.value.specs.declared.Value.{Value}
use Rattle.value.specs.Bytes.{bytes_of}
use Rattle.network.specs.Net.{Links, Able, act, label}
use Rattle.theory_pieces.specs.Tape.{Step, pushing, firing, taking, sets_of}
use Rattle.formula.specs.Tree.{Exp}
use Rattle.graph.specs.Translation.{made_of}
use Rattle.value_sets.specs.Sets.{set_values}
use Rattle.machine_layout.specs.Layout.{size_of, need, operators_of}
use Rattle.machine_firing.specs.Fire.{able_at, fired_at}
use Rattle.machine_valid.specs.Below.{all_below}
use Rattle.machine_calls.specs.declared.Answer.{Answer}
use Rattle.machine_calls.specs.Calls.{Outcome, outcome, Handed, handed as hands, answers, size_in, result_ready, written, pushed_memory, fired, taken_memory, taken}
use Rattle.machine_calls.specs.CallLaws.{fired-accepted, taken-accepted}
use Rattle.theory_verdicts.specs.Running.{places, operator_at, push_of, take_of, demand_of, handed}
use Rattle.demand_view.specs.Stands.{Stands}
use Rattle.demand.specs.MemoryCalls.{Call, push, fire, take}

-- A set in bytes, five a value.
abbrev pub bytes_of_set : List Value → List ℕ
bytes_of_set [] = []
bytes_of_set (v ∷ vs) = bytes_of v ++ bytes_of_set vs

-- The call on bytes that makes a step, with so many bytes of the memory lent, and these to write a result into.
abbrev pub on_bytes : ℕ → List ℕ → Step → Call
on_bytes lent out (pushing v) = push lent (bytes_of_set v)
on_bytes lent out (firing i) = fire lent i
on_bytes lent out taking = take lent out
