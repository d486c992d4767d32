use Prim.Native.Nat.{◌*◌, ◌-◌, ◌≤◌}
use mathlib.Core.Path.{◌≡◌}
use lib.ListN.{length}
use Rattle.machine_marks.specs.Users.{Filled}
use Rattle.machine_marks.proofs.fill_users.Given as goal

abbrev pub invariant-loop-j : goal.invariant-loop-j
invariant-loop-j l = (l.j ≤ l.n) × (length l.users ≡ length l.initial.users) × Filled l.users l.mem (6 * l.j)
