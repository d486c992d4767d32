use Prim.Native.Nat.{◌-◌, ◌≤◌}
use Rattle.machine_tag_runs.specs.TagMarks.{LeastOf}
use Rattle.machine_tag_runs.proofs.least_pair.Given as goal

abbrev pub invariant-loop-t : goal.invariant-loop-t
invariant-loop-t l = (1 ≤ l.t) × (l.t ≤ 16) × (LeastOf l.firsts l.t l.v)
