use Prim.Native.Nat.{◌+◌, ◌-◌, ◌*◌}
use Rattle.machine_runs.specs.RunLaws.{Going}
use Rattle.machine_runs.proofs.run_plain.Given as goal

abbrev pub invariant-loop-count : goal.invariant-loop-count
invariant-loop-count l = Going l.initial.mem l.links.base l.links.size l.n l.budget l.mem l.count l.i

abbrev pub decreases-loop-count : goal.decreases-loop-count
decreases-loop-count l = 1025 * (l.budget - l.count) + (l.n - l.i)
