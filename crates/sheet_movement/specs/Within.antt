-- How far two whole numbers lie apart, over all integers, and what each operator of document 02, Job 13 makes of it. Assumes nothing.
use Rattle.std.specs.Prelude.{ℕ, zero, suc, ◌+◌, ◌*◌, ◌-◌, ◌/◌, ◌≤◌, ◌<◌, ◌≡◌, refl, T, ltb, ℤ, pos, negsuc, neg_ℤ, nat_abs, ◌+ℤ◌, ◌-ℤ◌, ◌*ℤ◌}
use mathlib.Core.Bool.{Bool, true, false, cond}
use Rattle.std.specs.Int.Signed.{quot_z}

-- The two sides of an integer: it is `up` less `down`, and one of them is 0.
abbrev pub up : ℤ → ℕ
up (pos n) = n
up (negsuc n) = 0

abbrev pub down : ℤ → ℕ
down (pos n) = 0
down (negsuc n) = suc n

-- x and y differ by no more than d.
pub record Within (d : ℕ) (x y : ℤ) : Type 0 where
  pub above : up x + down y ≤ up y + down x + d
  pub below : up y + down x ≤ up x + down y + d
