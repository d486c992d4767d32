use Prim.Native.Nat.{◌-◌, ◌≤◌}
use mathlib.Core.Path.{◌≡◌}
use Rattle.machine_runs.specs.RunLaws.{QuietFrom}
use Rattle.machine_runs.proofs.idle.Given as goal

abbrev pub invariant-loop-i : goal.invariant-loop-i
invariant-loop-i l = (l.i ≤ l.n) × (l.mem ≡ l.initial.mem) × QuietFrom l.initial.mem l.links.base l.links.size l.i
