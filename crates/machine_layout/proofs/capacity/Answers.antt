use mathlib.Core.Path.{◌≡◌, refl}
use mathlib.Core.List.{List, [], ◌∷◌}
use Prim.Native.Nat.{ℕ}
use borrow.Author.Tests.{le-leb, lt-leb}
use lib.ListN.{length, get_or}
use Rattle.machine_layout.specs.Layout.{capacity_in, capacity_byte}
use native.Mathlib.Omega.{arith}
use Rattle.machine_layout.proofs.capacity.Goals as goal

-- an empty memory reads as 0

none-there : (m : List ℕ) → length m ≡ 0 → get_or m 0 0 ≡ 0
none-there [] e = refl
none-there (x ∷ m) e = absurd (omega arith)

pub returns-then-mem-eq0 : goal.returns-then-mem-eq0
unfolding capacity_in
returns-then-mem-eq0 c = (rw (none-there c.args.mem.now c.if-mem-eq0.true) refl, omega arith, omega arith)

pub returns-then-c-lt1 : goal.returns-then-c-lt1
unfolding capacity_in
returns-then-c-lt1 c = (simp (lt-leb 1 (capacity_byte c.args.mem.now) (omega (arith, c.from-c.ensures))), omega arith, omega arith)

pub returns-then-c-gt-CAPACITY : goal.returns-then-c-gt-CAPACITY
unfolding capacity_in
returns-then-c-gt-CAPACITY c = (simp (le-leb 1 (capacity_byte c.args.mem.now) (omega (arith, c.from-c.ensures)), lt-leb (capacity_byte c.args.mem.now) 16 (omega (arith, c.from-c.ensures))), omega arith, omega arith)

pub returns : goal.returns
unfolding capacity_in
returns c = (simp (le-leb 1 (capacity_byte c.args.mem.now) (omega (arith, c.from-c.ensures)), le-leb (capacity_byte c.args.mem.now) 16 (omega (arith, c.from-c.ensures))) c.from-c.ensures, omega arith, omega arith)
