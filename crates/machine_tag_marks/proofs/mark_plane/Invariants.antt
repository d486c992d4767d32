use Prim.Native.Nat.{◌-◌, ◌≤◌}
use Rattle.machine_marks.specs.Held.{held, Stands}
use Rattle.machine_runs.specs.Marks.{Resting}
use Rattle.machine_tag_marks.proofs.mark_plane.Given as goal

abbrev pub invariant-loop-j : goal.invariant-loop-j
invariant-loop-j l = (l.j ≤ l.n) × (Stands l.awake l.m) × (Resting l.mem l.base 6 l.j (held l.awake l.m))
