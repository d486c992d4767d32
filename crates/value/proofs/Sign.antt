-- Two's complement in 32 bits: the two halves. Assumes nothing.
use mathlib.Core.Path.{◌≡◌}
use Prim.Native.Nat.{ℕ, suc, ◌-◌, ◌≤◌, ◌<◌}
use native.Mathlib.Omega.{arith}
use borrow.Author.Tests.{le-ltb, lt-ltb}
use lib.IntN.{pos, negsuc}
use mir.Syntax.{w32}
use mir.Val.{to_z}

pub high : (n : ℕ) → 2147483648 ≤ n → n < 4294967296 → to_z w32 n ≡ negsuc (4294967295 - n)
high n h k = let e : 4294967296 - suc n ≡ 4294967295 - n = omega arith in simp (le-ltb n 2147483648 h, e)

pub low-z : (n : ℕ) → n < 2147483648 → to_z w32 n ≡ pos n
low-z n h = simp (lt-ltb n 2147483648 h)
