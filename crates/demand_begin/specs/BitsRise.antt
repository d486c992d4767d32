-- Of two positive floats the larger has a bit pattern that, as a number, is no smaller. So for every a up to 999,999 the pattern of a / 1000, rounded to
-- binary32, is at most that of 999.999: document 02, Job 9, row kind 10. Assumes nothing.
use Rattle.std.specs.Prelude.{◌≡◌, refl, true, false, ℕ, zero, suc, ◌+◌, ◌-◌, ◌*◌, ◌/◌, ◌^◌, ◌≤◌, ◌<◌, T, Float}
use Rattle.std.specs.Float.{nan, inf, fin, binary32}
use Rattle.std.specs.Float.Ieee.{size, round, le, to_bits}
use Rattle.std.specs.Float.Ieee.Digits.{size-lt, size-le, size_reaches}
use Rattle.std.specs.Float.Ieee.Fits.{kept-lt}
use Rattle.std.specs.Float.Ieee.Nearest.{div_mono}
use Rattle.std.specs.Float.Ieee.Order.{round_mono}
use Rattle.std.specs.Float.Ieee.Positive.{positive, num, den, den_pos, le→cross, between}

-- ---- the pattern of n units of the smallest value
-- how many of n's digits its pattern drops
abbrev pub drop : ℕ → ℕ
drop n = size n - 24

abbrev pub pattern : ℕ → ℕ
pattern n = drop n * 8388608 + n / 2 ^ drop n

-- ---- floats
-- x in units of the smallest value
abbrev pub units_of : Float → ℕ
units_of x = num x * 2 ^ 149 / den x
