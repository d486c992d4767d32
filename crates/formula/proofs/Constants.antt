-- Laws of specs/Constants.antt, and what only they need.
use Rattle.std.specs.Prelude.{ℕ, ◌≤◌, Bool, true, false, cond, pos, eqb}
use Rattle.std.proofs.Common.{arith}
use Rattle.value.specs.declared.Value.TheVariants.{Whole, Truth}
use Rattle.value.specs.Bytes.{InRange}
use Rattle.value.specs.Constants.{thousandths}
use Rattle.value.proofs.Floats.{thousandths-in-range}
use Rattle.formula.specs.Constants.{constant_value, constant_most}

pub most-bounded : (kind a : ℕ) → a ≤ constant_most kind → a ≤ 999999
most-bounded kind a = go (eqb kind 3)
  where
    go : (k3 : Bool) → a ≤ cond k3 1 999999 → a ≤ 999999
    go true h = omega (arith, h)
    go false h = h

-- A byte form holds every constant.
pub constant-in-range : (kind a : ℕ) → a ≤ constant_most kind → InRange (constant_value kind a)
constant-in-range kind a = go (eqb kind 3) (eqb kind 10)
  where
    go : (k3 k10 : Bool) → a ≤ cond k3 1 999999 → InRange (cond k3 (Truth (eqb a 1)) (cond k10 (thousandths a) (Whole (pos a))))
    go true k10 h = tt
    go false true h = thousandths-in-range a h
    go false false h = omega (arith, h)
