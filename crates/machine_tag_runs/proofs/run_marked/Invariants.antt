use Prim.Native.Nat.{◌+◌, ◌-◌, ◌*◌}
use Rattle.machine_tag_runs.specs.TagMarks.{Fast, spare}
use Rattle.machine_tag_runs.proofs.run_marked.Given as goal

abbrev pub invariant-loop-fired : goal.invariant-loop-fired
invariant-loop-fired l = Fast l.users l.initial.mem l.n l.budget l.mem l.awake l.firsts l.fired

abbrev pub decreases-loop-fired : goal.decreases-loop-fired
decreases-loop-fired l = 262401 * (l.budget - l.fired) + spare l.firsts
