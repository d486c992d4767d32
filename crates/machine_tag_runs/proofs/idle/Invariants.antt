use Prim.Native.Nat.{◌-◌, ◌*◌, ◌≤◌}
use mathlib.Core.Path.{◌≡◌}
use Rattle.machine_tag_runs.specs.TagRunLaws.{QuietBelow}
use Rattle.machine_tag_runs.proofs.idle.Given as goal

abbrev pub invariant-loop-v : goal.invariant-loop-v
invariant-loop-v l = (l.v ≤ 16 * l.n) × (l.mem ≡ l.initial.mem) × (QuietBelow l.initial.mem l.v)
