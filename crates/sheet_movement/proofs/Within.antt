-- Laws of specs/Within.antt, and what only they need.
use Rattle.std.specs.Prelude.{ℕ, zero, suc, ◌+◌, ◌*◌, ◌-◌, ◌/◌, ◌≤◌, ◌<◌, ◌≡◌, refl, T, ltb, ℤ, pos, negsuc, neg_ℤ, nat_abs, ◌+ℤ◌, ◌-ℤ◌, ◌*ℤ◌}
use Rattle.std.proofs.Common.{◌∙◌, arith, mod-lt, div-lt_iff_lt-mul, mul-le-mul_left, mul-add, ltb→lt, nltb→le}
use mathlib.Core.Bool.{Bool, true, false, cond}
use Rattle.std.proofs.Math.Nat.{div-add-mod, mul-div-le, div-le_of_le-mul, le_of_mul-le-mul_left}
use Rattle.std.proofs.Math.IntN.{sub_ℕ}
use Rattle.std.specs.Int.Signed.{quot_z}
use Rattle.sheet_movement.specs.Moves.{over}
use Rattle.sheet_movement.specs.Within.{up, down, Within}

sub-balance : (a b : ℕ) → up (sub_ℕ a b) + b ≡ down (sub_ℕ a b) + a
sub-balance a b = go (ltb a b) (λ t. ltb→lt a b t) (λ t. nltb→le a b t)
  where
    go : (t : Bool) → (T t → a < b) → (T (mathlib.Core.Bool.not t) → b ≤ a)
        → up (cond t (negsuc (b - suc a)) (pos (a - b))) + b ≡ down (cond t (negsuc (b - suc a)) (pos (a - b))) + a
    go true h k = omega (arith, h tt)
    go false h k = omega (arith, k tt)

add-balance : (x y : ℤ) → up (x +ℤ y) + (down x + down y) ≡ down (x +ℤ y) + (up x + up y)
add-balance (pos a) (pos b) = omega arith
add-balance (pos a) (negsuc b) = omega (arith, sub-balance a (suc b))
add-balance (negsuc a) (pos b) = omega (arith, sub-balance b (suc a))
add-balance (negsuc a) (negsuc b) = omega arith

pub within-add : (d e : ℕ) (x y u v : ℤ) → Within d x u → Within e y v → Within (d + e) (x +ℤ y) (u +ℤ v)
within-add d e x y u v p q =
    record {
      above = omega (arith, add-balance x y, add-balance u v, p.above, q.above);
      below = omega (arith, add-balance x y, add-balance u v, p.below, q.below);
    }

pub within_same : (x : ℤ) → Within 0 x x
within_same x = record { above = omega arith; below = omega arith }

neg-up : (x : ℤ) → up (neg_ℤ x) ≡ down x
neg-up (pos zero) = refl
neg-up (pos (suc n)) = refl
neg-up (negsuc n) = refl

neg-down : (x : ℤ) → down (neg_ℤ x) ≡ up x
neg-down (pos zero) = refl
neg-down (pos (suc n)) = refl
neg-down (negsuc n) = refl

pub within-negate : (d : ℕ) (x u : ℤ) → Within d x u → Within d (neg_ℤ x) (neg_ℤ u)
within-negate d x u p =
    record {
      above = omega (arith, neg-up x, neg-down x, neg-up u, neg-down u, p.below);
      below = omega (arith, neg-up x, neg-down x, neg-up u, neg-down u, p.above);
    }

-- `-ℤ` adds the negated.
pub within-subtract : (d e : ℕ) (x y u v : ℤ) → Within d x u → Within e y v → Within (d + e) (x -ℤ y) (u -ℤ v)
within-subtract d e x y u v p q = within-add d e x (neg_ℤ y) u (neg_ℤ v) p (within-negate e y v q)

-- The same as one number: the difference without its sign.
sides : (x y : ℤ) → up (x -ℤ y) + (up y + down x) ≡ down (x -ℤ y) + (up x + down y)
sides x y = omega (arith, add-balance x (neg_ℤ y), neg-up y, neg-down y)

pub within-difference : (d : ℕ) (x y : ℤ) → Within d x y → nat_abs (x -ℤ y) ≤ d
within-difference d x y p = go (x -ℤ y) (sides x y)
  where
    go : (z : ℤ) → up z + (up y + down x) ≡ down z + (up x + down y) → nat_abs z ≤ d
    go (pos n) e = omega (arith, e, p.above)
    go (negsuc n) e = omega (arith, e, p.below)

pub difference-within : (d : ℕ) (x y : ℤ) → nat_abs (x -ℤ y) ≤ d → Within d x y
difference-within d x y h = go (x -ℤ y) (sides x y) h
  where
    go : (z : ℤ) → up z + (up y + down x) ≡ down z + (up x + down y) → nat_abs z ≤ d → Within d x y
    go (pos n) e k = record { above = omega (arith, e, k); below = omega (arith, e, k) }
    go (negsuc n) e k = record { above = omega (arith, e, k); below = omega (arith, e, k) }

-- d is at most c times its movement over c
over-enough : (d c : ℕ) → 0 < c → d ≤ c * over d c
over-enough d c h = omega (arith, div-add-mod (d + (c - 1)) c, mod-lt (d + (c - 1)) h)

-- same side: a is at most d above b
quot-near : (a b d c : ℕ) → 0 < c → a ≤ b + d → a / c ≤ b / c + over d c
quot-near a b d c h k =
    let spread : (b / c + over d c + 1) * c ≡ c * (b / c) + c * over d c + c = omega arith in
    omega (arith, (div-lt_iff_lt-mul {k = c} {x = a} {y = b / c + over d c + 1} h).1 (omega (arith, spread, div-add-mod b c, mod-lt b h, over-enough d c h)))

-- either side of 0
quot-far : (a b d c : ℕ) → 0 < c → a + b ≤ d → a / c + b / c ≤ over d c
quot-far a b d c h k =
    le_of_mul-le-mul_left {m = a / c + b / c} {n = over d c} {k = c} (omega (arith, mul-add c (a / c) (b / c), mul-div-le a c, mul-div-le b c, over-enough d c h)) h

-- The sides of a quotient by a number above 0.
quot-up : (x : ℤ) (c : ℕ) → 0 < c → up (quot_z x (pos c)) ≡ up x / c
quot-up (pos a) c h = refl
quot-up (negsuc a) c h = neg-up (pos (suc a / c)) ∙ omega (arith, div-le_of_le-mul c {m = 0} {n = 0} (omega arith))

quot-down : (x : ℤ) (c : ℕ) → 0 < c → down (quot_z x (pos c)) ≡ down x / c
quot-down (pos a) c h = omega (arith, div-le_of_le-mul c {m = 0} {n = 0} (omega arith))
quot-down (negsuc a) c h = neg-down (pos (suc a / c))

nothing : (c : ℕ) → 0 / c ≡ 0
nothing c = omega (arith, div-le_of_le-mul c {m = 0} {n = 0} (omega arith))

-- One side of the claim, by the signs of both.
one_side : (x u : ℤ) (d c : ℕ) → 0 < c → up x + down u ≤ up u + down x + d → up x / c + down u / c ≤ up u / c + down x / c + over d c
one_side (pos a) (pos b) d c h k = omega (arith, nothing c, quot-near a b d c h (omega arith))
one_side (pos a) (negsuc b) d c h k = omega (arith, nothing c, quot-far a (suc b) d c h (omega arith))
one_side (negsuc a) (pos b) d c h k = omega (arith, nothing c)
one_side (negsuc a) (negsuc b) d c h k = omega (arith, nothing c, quot-near (suc b) (suc a) d c h (omega arith))

pub within-divide : (d c : ℕ) (x u : ℤ) → 0 < c → Within d x u → Within (over d c) (quot_z x (pos c)) (quot_z u (pos c))
within-divide d c x u h p =
    record {
      above = omega (arith, quot-up x c h, quot-down x c h, quot-up u c h, quot-down u c h, one_side x u d c h p.above);
      below = omega (arith, quot-up x c h, quot-down x c h, quot-up u c h, quot-down u c h, one_side u x d c h p.below);
    }

times-up : (c : ℕ) (x : ℤ) → up (pos c *ℤ x) ≡ c * up x
times-up c (pos a) = refl
times-up c (negsuc a) = neg-up (pos (c * suc a)) ∙ omega arith

times_down : (c : ℕ) (x : ℤ) → down (pos c *ℤ x) ≡ c * down x
times_down c (pos a) = omega arith
times_down c (negsuc a) = neg-down (pos (c * suc a))

-- "a constant multiplies them"
pub within-multiply : (d c : ℕ) (x u : ℤ) → Within d x u → Within (c * d) (pos c *ℤ x) (pos c *ℤ u)
within-multiply d c x u p =
    record {
      above = omega (arith, times-up c x, times_down c x, times-up c u, times_down c u, mul-le-mul_left c p.above, mul-add c (up x) (down u), mul-add c (up u + down x) d, mul-add c (up u) (down x));
      below = omega (arith, times-up c x, times_down c x, times-up c u, times_down c u, mul-le-mul_left c p.below, mul-add c (up u) (down x), mul-add c (up x + down u) d, mul-add c (up x) (down u));
    }
