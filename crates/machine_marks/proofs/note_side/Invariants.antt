use Prim.Native.Nat.{◌+◌, ◌*◌, ◌-◌, ◌≤◌}
use mathlib.Core.Path.{◌≡◌}
use lib.ListN.{length}
use Rattle.machine_marks.specs.Users.{Filled}
use Rattle.machine_marks.proofs.note_side.Given as goal

abbrev pub invariant-loop-k : goal.invariant-loop-k
invariant-loop-k l = (l.k ≤ 3) × (length l.users ≡ length l.initial.users) × (Filled l.initial.users l.mem (6 * l.j + 3 * l.side) → Filled l.users l.mem (6 * l.j + 3 * l.side + l.k))
