-- The constants of rows: document 01, "The formula sheet", row kinds 2 and 3, and document 02, Job 9, row kind 10. Assumes nothing.
use Rattle.std.specs.Prelude.{ℕ, ◌≤◌, Bool, true, false, cond, pos, eqb}
use Rattle.value.specs.declared.Value.{Value}
use Rattle.value.specs.declared.Value.TheVariants.{Whole, Truth}
use Rattle.value.specs.Bytes.{InRange}
use Rattle.value.specs.Constants.{thousandths}

-- The value of a constant, from its row kind and its field a: "2 whole number", "3 truth | a: 0 false, 1 true", "10 .. divided by 1000 with
-- one rounding".
abbrev pub constant_value : ℕ → ℕ → Value
constant_value kind a = cond (eqb kind 3) (Truth (eqb a 1)) (cond (eqb kind 10) (thousandths a) (Whole (pos a)))

-- The greatest a: "2 whole number | a: 0..999,999", "3 truth | a: 0 false, 1 true", "10 .. 0 to 999,999".
abbrev pub constant_most : ℕ → ℕ
constant_most kind = cond (eqb kind 3) 1 999999
