-- The constants of rows are such as refusal 31 admits in a constant's register: document 01, "The formula sheet", row kinds 2 and 3, and document 02,
-- Job 9, row kind 10. Assumes a field a within its kind's range.
use Rattle.std.specs.Prelude.{ℕ, ◌≤◌, ◌≡◌, refl, Bool, true, false, cond, pos, eqb}
use Rattle.std.proofs.Math.Option.{some}
use Rattle.std.specs.Float.{binary32}
use Rattle.std.specs.Float.Ieee.{round, to_bits}
use Rattle.std.proofs.Common.{le-leb}
use Rattle.value.specs.declared.Value.TheVariants.{Whole, Truth}
use Rattle.value.specs.Constants.{thousandths, in_constant_range}
use Rattle.formula.specs.Constants.{constant_value, constant_most}
use Rattle.demand_begin.proofs.BitsRise.{thousandths-bits}

thousandths-stored : (a : ℕ) → a ≤ 999999 → in_constant_range (some (thousandths a)) ≡ true
unfolding thousandths
thousandths-stored a h = le-leb (to_bits binary32 (round binary32 false a 1000)) 1148846064 (thousandths-bits a h)

pub constant-stored : (kind a : ℕ) → a ≤ constant_most kind → in_constant_range (some (constant_value kind a)) ≡ true
constant-stored kind a = go (eqb kind 3) (eqb kind 10)
  where
    go : (k3 k10 : Bool) → a ≤ cond k3 1 999999 → in_constant_range (some (cond k3 (Truth (eqb a 1)) (cond k10 (thousandths a) (Whole (pos a))))) ≡ true
    go true k10 h = refl
    go false true h = thousandths-stored a h
    go false false h = le-leb a 999999 h
