use Prim.Native.Nat.{◌+◌, ◌-◌, ◌*◌, ◌≤◌}
use Rattle.machine_tag_runs.specs.TagRunLaws.{QuietBelow, Going}
use Rattle.machine_tag_runs.proofs.run_plain.Given as goal

abbrev pub invariant-loop-count : goal.invariant-loop-count
invariant-loop-count l = (l.v ≤ 16 * l.n) × (QuietBelow l.mem l.v) × (Going l.initial.mem l.n l.budget l.mem l.count)

abbrev pub decreases-loop-count : goal.decreases-loop-count
decreases-loop-count l = 16385 * (l.budget - l.count) + (16 * l.n - l.v)
