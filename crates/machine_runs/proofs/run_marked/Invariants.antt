use Prim.Native.Nat.{◌+◌, ◌-◌, ◌*◌}
use mathlib.Core.Path.{◌≡◌}
use Rattle.machine_marks.specs.Held.{held, left, Stands}
use Rattle.machine_runs.specs.Marks.{Fast}
use Rattle.machine_runs.proofs.run_marked.Given as goal

abbrev pub invariant-loop-fired : goal.invariant-loop-fired
invariant-loop-fired l = (Stands l.awake l.m) × (l.m.low ≡ l.m.block) × (Fast l.users l.initial.mem l.links.base l.links.size l.n l.budget l.mem (held l.awake l.m) l.fired)

abbrev pub decreases-loop-fired : goal.decreases-loop-fired
decreases-loop-fired l = 313594649253062377472 * (l.budget - l.fired) + left l.m
