use Prim.Native.Nat.{◌-◌, ◌≤◌}
use mathlib.Core.Path.{◌≡◌}
use lib.ListN.{length}
use Rattle.machine_tray.specs.TrayLaws.{Underway}
use Rattle.machine_tray.proofs.push_tray.Given as goal

abbrev pub invariant-loop-count : goal.invariant-loop-count
invariant-loop-count l = (length l.mem ≡ length l.initial.mem) × (l.at ≤ length l.sets) × Underway l.initial.mem l.sets l.number l.size l.mem l.at l.count
