-- Laws of the definitions in InTurn: the steps of calls one after another; what an accepted work on one set after another pushes and takes; a number past the
-- last operator never fires; a round of calls is a round of the graph (theory_schedule/specs/Rounds). Assumes nothing.
use Prim.Native.Nat.{ℕ, zero, suc, ◌+◌, ◌≤◌}
use Rattle.std.specs.Prelude.{◌≡◌, ◌≢◌}
use mathlib.Core.List.{List, [], ◌∷◌, ◌++◌, map, append_assoc}
use Rattle.theory_schedule.specs.Schedules.{reached}
use Rattle.theory_schedule.specs.Counts.{count}
use Rattle.value.specs.declared.Value.{Value}
use Rattle.network.specs.Net.{Demand, Links, Able, act}
use Rattle.theory_pieces.specs.Tape.{Step, pushing, firing, taking, sets_of, takes_of}
use Rattle.formula.specs.Tree.{Exp}
use Rattle.graph.specs.Translation.{made_of}
use Rattle.theory_wiring.specs.Machine.{net_of}
use Rattle.theory_verdicts.specs.Running.{places, operator_at, dec_able, Call, pushes, runs, takes, demand_of, after_steps, accept, least_able, onward, run_steps, steps_of, steps_from}

-- only firings
abbrev pub Only-firings : List Step → Type 0
Only-firings [] = Unit {0}
Only-firings (pushing v ∷ w) = ⊥
Only-firings (firing a ∷ w) = Only-firings w
Only-firings (taking ∷ w) = ⊥
