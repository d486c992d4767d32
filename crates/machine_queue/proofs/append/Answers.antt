use native.Mathlib.Omega.{arith}
use Prim.Native.Nat.{ℕ, ◌+◌, ◌*◌}
use mathlib.Core.Path.{◌≡◌, ap}
use mathlib.Core.Bool.{true, false}
use mathlib.Core.List.{List}
use borrow.Author.Tests.{le-leb, lt-leb}
use lib.ListN.{length, set}
use Rattle.machine_queue.specs.Stretch.{waiting, room_in, appended}
use Rattle.machine_queue.proofs.append.Goals as goal

pub returns-then-at-q : goal.returns-then-at-q
unfolding appended room_in
returns-then-at-q c = let r : room_in c.args.q.now ≡ true = le-leb (5 * waiting c.args.q.now + 6) (length c.args.q.now) (omega (arith, c.from-n.ensures)) in simp (r, c.from-n.ensures) (rw c.from-n.ensures at (ap (λ (l : List ℕ). set l 0 (waiting c.args.q.now + 1)) c.store.ensures))

pub returns-else-at-q : goal.returns-else-at-q
unfolding appended room_in
returns-else-at-q c = let r : room_in c.args.q.now ≡ false = lt-leb (5 * waiting c.args.q.now + 6) (length c.args.q.now) (omega (arith, c.from-n.ensures)) in simp r
