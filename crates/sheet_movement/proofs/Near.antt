-- Laws of specs/Near.antt, and what only they need.
use Rattle.std.specs.Prelude.{ℕ, zero, suc, ◌+◌, ◌*◌, ◌≤◌, ◌<◌, Bool, true, false, ℤ, neg_ℤ, nat_abs, ◌+ℤ◌, ◌-ℤ◌, ◌*ℤ◌}
use Rattle.std.proofs.Common.{arith}
use Rattle.std.proofs.Math.IntN.{pos, *ℤ_comm}
use Rattle.std.specs.Int.Signed.{quot_z}
use Rattle.value.specs.declared.Reason.TheVariants.{OutOfRange}
use Rattle.value.specs.declared.Value.{Value}
use Rattle.value.specs.declared.Value.TheVariants.{Whole, Err}
use Rattle.value.specs.Operators.{apply, pick, in_range, fit_of}
use Rattle.sheet_movement.specs.Moves.{over}
use Rattle.sheet_movement.specs.Within.{Within}
use Rattle.sheet_movement.proofs.Within.{within-difference, within_same, within-add, within-subtract, within-negate, within-multiply, within-divide}
use Rattle.sheet_movement.specs.Near.{Near, both, left, right}

-- In plain numbers, where neither is an err.
pub near_difference : (d : ℕ) (x y : ℤ) → Near d (Whole x) (Whole y) → nat_abs (x -ℤ y) ≤ d
near_difference d x y (both a) = within-difference d x y a

-- A constant does not move.
pub near-constant : (a : ℕ) → Near 0 (Whole (pos a)) (Whole (pos a))
near-constant a = both (within_same (pos a))

-- An exact answer, or err outside the range.
fit-near : (d : ℕ) (x y : ℤ) → Within d x y → Near d (fit_of x) (fit_of y)
unfolding fit_of
fit-near d x y p = go (in_range x) (in_range y)
  where
    go : (a b : Bool) → Near d (pick a (Whole x) (Err OutOfRange)) (pick b (Whole y) (Err OutOfRange))
    go true true = both p
    go true false = right (Whole x) OutOfRange
    go false b = left OutOfRange (pick b (Whole y) (Err OutOfRange))

-- "Movements add"
module _ (d e : ℕ) where
  pub near_add : (p q r s : Value) → Near d p q → Near e r s → Near (d + e) (apply 1 p r) (apply 1 q s)
  unfolding apply
  near_add p q r s (both {x = x} {y = y} a) (both {x = u} {y = v} b) = fit-near (d + e) (x +ℤ u) (y +ℤ v) (within-add d e x u y v a b)
  near_add p q r s (both a) (left k w) = left k (apply 1 q s)
  near_add p q r s (both a) (right v k) = right (apply 1 p r) k
  near_add p q r s (left k w) n = left k (apply 1 q s)
  near_add p q r s (right v k) n = right (apply 1 p r) k

  pub near-subtract : (p q r s : Value) → Near d p q → Near e r s → Near (d + e) (apply 2 p r) (apply 2 q s)
  unfolding apply
  near-subtract p q r s (both {x = x} {y = y} a) (both {x = u} {y = v} b) = fit-near (d + e) (x -ℤ u) (y -ℤ v) (within-subtract d e x u y v a b)
  near-subtract p q r s (both a) (left k w) = left k (apply 2 q s)
  near-subtract p q r s (both a) (right v k) = right (apply 2 p r) k
  near-subtract p q r s (left k w) n = left k (apply 2 q s)
  near-subtract p q r s (right v k) n = right (apply 2 p r) k

-- Negate takes no second operand.
pub near-negate : (d : ℕ) (p q r s : Value) → Near d p q → Near d (apply 11 p r) (apply 11 q s)
unfolding apply
near-negate d p q r s (both {x = x} {y = y} a) = fit-near d (neg_ℤ x) (neg_ℤ y) (within-negate d x y a)
near-negate d p q r s (left k w) = left k (apply 11 q s)
near-negate d p q r s (right v k) = right (apply 11 p r) k

-- "a constant multiplies them", on either side
module _ (d c : ℕ) where
  pub near-multiply-first : (p q : Value) → Near d p q → Near (c * d) (apply 3 (Whole (pos c)) p) (apply 3 (Whole (pos c)) q)
  unfolding apply
  near-multiply-first p q (both {x = x} {y = y} a) = fit-near (c * d) (pos c *ℤ x) (pos c *ℤ y) (within-multiply d c x y a)
  near-multiply-first p q (left k w) = left k (apply 3 (Whole (pos c)) q)
  near-multiply-first p q (right v k) = right (apply 3 (Whole (pos c)) p) k

  pub near-multiply-second : (p q : Value) → Near d p q → Near (c * d) (apply 3 p (Whole (pos c))) (apply 3 q (Whole (pos c)))
  unfolding apply
  near-multiply-second p q (both {x = x} {y = y} a) =
      fit-near (c * d) (x *ℤ pos c) (y *ℤ pos c) (rw (*ℤ_comm x (pos c), *ℤ_comm y (pos c)) (within-multiply d c x y a))
  near-multiply-second p q (left k w) = left k (apply 3 q (Whole (pos c)))
  near-multiply-second p q (right v k) = right (apply 3 p (Whole (pos c))) k

-- "a divide by c gives the movement over c, rounded up", c not 0
pub near-divide : (d c : ℕ) (p q : Value) → 0 < c → Near d p q → Near (over d c) (apply 4 p (Whole (pos c))) (apply 4 q (Whole (pos c)))
unfolding apply
near-divide d zero p q h n = absurd (omega arith)
near-divide d (suc c) p q h (both {x = x} {y = y} a) =
    fit-near (over d (suc c)) (quot_z x (pos (suc c))) (quot_z y (pos (suc c))) (within-divide d (suc c) x y h a)
near-divide d (suc c) p q h (left k w) = left k (apply 4 q (Whole (pos (suc c))))
near-divide d (suc c) p q h (right v k) = right (apply 4 p (Whole (pos (suc c)))) k
