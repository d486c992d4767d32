-- The range of a sheet's constants: document 01, "The formula sheet", row kinds 2 and 3, and document 02, Job 9, row kind 10. Assumes nothing.
use Rattle.std.specs.Prelude.{ℕ, Bool, true, false, ℤ, pos, negsuc, leb}
use Rattle.std.proofs.Math.Option.{Option, some, none}
use Rattle.std.specs.Float.{binary32}
use Rattle.std.specs.Float.Ieee.{round, to_bits}
use Rattle.value.specs.declared.Value.{Value}
use Rattle.value.specs.declared.Value.TheVariants.{Whole, Truth, Err, Real}

-- "Row kind 10 is a constant: a, 0 to 999,999, divided by 1000 with one rounding."
unfoldable pub thousandths : ℕ → Value
thousandths a = Real (round binary32 false a 1000)

-- "a: 0..999,999"
abbrev pub is_whole_constant : ℤ → Bool
is_whole_constant (pos n) = leb n 999999
is_whole_constant (negsuc n) = false

-- The range of a stored constant: those whole numbers, the truths, and the floats from +0 to the greatest of row kind 10, 999.999, whose pattern is
-- 1,148,846,064 (Examples: `thousandths-outcomes`); the patterns of floats from +0 on rise with them.
abbrev pub in_constant_range : Option Value → Bool
in_constant_range (some (Whole z)) = is_whole_constant z
in_constant_range (some (Truth b)) = true
in_constant_range (some (Real x)) = leb (to_bits binary32 x) 1148846064
in_constant_range (some (Err r)) = false
in_constant_range none = false
