-- Two values near each other (document 02, Job 13: "err in either or differs by no more than ..") and what the operators of that job make of them.
-- An answer out of range is an err, so the laws ask nothing of the range. Assumes nothing.
use Rattle.std.specs.Prelude.{ℕ, zero, suc, ◌+◌, ◌*◌, ◌≤◌, ◌<◌, Bool, true, false, ℤ, neg_ℤ, nat_abs, ◌+ℤ◌, ◌-ℤ◌, ◌*ℤ◌}
use Rattle.std.specs.Int.Signed.{quot_z}
use Rattle.value.specs.declared.Reason.{Reason}
use Rattle.value.specs.declared.Reason.TheVariants.{OutOfRange}
use Rattle.value.specs.declared.Value.{Value}
use Rattle.value.specs.declared.Value.TheVariants.{Whole, Err}
use Rattle.value.specs.Operators.{apply, pick, in_range, fit_of}
use Rattle.sheet_movement.specs.Within.{Within}

-- Err in either, or two whole numbers that differ by no more than d.
pub data Near (d : ℕ) : Value → Value → Type 0 where
  both : {x y : ℤ} → Within d x y → Near d (Whole x) (Whole y)
  left : (r : Reason) (w : Value) → Near d (Err r) w
  right : (v : Value) (r : Reason) → Near d v (Err r)
