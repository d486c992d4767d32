use Prim.Native.Nat.{◌-◌, ◌≤◌}
use Rattle.machine_marks.specs.Held.{held, Woke}
use Rattle.machine_runs.specs.Marks.{Hits}
use Rattle.machine_runs.proofs.wake_users.Given as goal

abbrev pub invariant-loop-k : goal.invariant-loop-k
invariant-loop-k l = (l.k ≤ 6) × (Woke l.initial.awake l.initial.more l.awake l.more) × (Hits l.users l.mem l.links.base l.links.size l.i l.k (held l.awake l.more))
