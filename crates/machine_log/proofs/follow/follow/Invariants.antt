use Prim.Native.Nat.{◌-◌, ◌≤◌}
use mathlib.Core.Path.{◌≡◌}
use lib.ListN.{length}
use Rattle.machine_log.specs.Lines.{line_count}
use Rattle.machine_log.specs.SetLaws.{set_at}
use Rattle.machine_log.specs.FollowLaws.{Underway}
use Rattle.machine_log.proofs.follow.follow.Given as goal

abbrev pub invariant-loop-j : goal.invariant-loop-j
invariant-loop-j l = (length l.mem ≡ length l.initial.mem) × (length l.out ≡ length l.initial.out) × Underway (set_at l.size l.sets) l.log l.initial.mem l.initial.out l.j l.mem l.out l.count
