-- Laws of specs/BitsRise.antt, and what only they need.
use Rattle.std.specs.Prelude.{◌≡◌, refl, true, false, ℕ, zero, suc, ◌+◌, ◌-◌, ◌*◌, ◌/◌, ◌^◌, ◌≤◌, ◌<◌, T, Float}
use Rattle.std.proofs.Common.{sym, subst, inl, inr, zero-le, le_trans, le_of_eq, lt_of_le_of_lt, eq-or-lt_of_le, mul_right_comm, mul-le-mul_right, le-div_iff_mul-le, arith, pow-add, pow_pos}
use Rattle.std.specs.Float.{nan, inf, fin, binary32}
use Rattle.std.specs.Float.Ieee.{size, round, le, to_bits}
use Rattle.std.specs.Float.Ieee.Digits.{size-lt, size-le, size_reaches}
use Rattle.std.specs.Float.Ieee.Fits.{kept-lt}
use Rattle.std.specs.Float.Ieee.Nearest.{div_mono}
use Rattle.std.specs.Float.Ieee.Order.{round_mono}
use Rattle.std.specs.Float.Ieee.Positive.{positive, num, den, den_pos, le→cross, between}
use Rattle.demand_begin.specs.BitsRise.{drop, pattern, units_of}

fewer : (x y : ℕ) → x ≤ y → x - 24 ≤ y - 24
fewer x y h = omega arith

drop-mono : (n m : ℕ) → n ≤ m → drop n ≤ drop m
drop-mono n m h = fewer (size n) (size m) (size-le n (size m) (lt_of_le_of_lt h (size-lt m)))

shift-mono : (k n m : ℕ) → n ≤ m → n / 2 ^ k ≤ m / 2 ^ k
shift-mono k n m h = div_mono n (2 ^ k) m (2 ^ k) (pow_pos k) (pow_pos k) (mul-le-mul_right (2 ^ k) h)

add-mono : (a b c : ℕ) → b ≤ c → a + b ≤ a + c
add-mono a b c h = omega arith

all_in_use : (z : ℕ) → 0 < z - 24 → 23 + (z - 24) < z
all_in_use z h = omega arith

-- where digits are dropped, the kept ones are 24
kept-ge : (n : ℕ) → 0 < drop n → 8388608 ≤ n / 2 ^ drop n
kept-ge n h =
    (le-div_iff_mul-le (pow_pos (drop n))).1
    (le_trans (le_of_eq (sym (pow-add 2 23 (drop n)))) (size_reaches n (23 + drop n) (all_in_use (size n) h)))

-- one more digit dropped outweighs any digits kept
outweighs : (j k a b : ℕ) → j < k → a < 16777216 → 8388608 ≤ b → j * 8388608 + a ≤ k * 8388608 + b
outweighs j k a b h l g = omega arith

pattern-mono : (n m : ℕ) → n ≤ m → pattern n ≤ pattern m
pattern-mono n m h = elim (eq-or-lt_of_le (drop-mono n m h)) [
  | inl e ↦
      subst (λ (k : ℕ). k * 8388608 + n / 2 ^ k ≤ pattern m) (sym e)
      (add-mono (drop m * 8388608) (n / 2 ^ drop m) (m / 2 ^ drop m) (shift-mono (drop m) n m h))
  | inr l ↦ outweighs (drop n) (drop m) (n / 2 ^ drop n) (m / 2 ^ drop m) l (kept-lt 24 n) (kept-ge m (lt_of_le_of_lt zero-le l))
]

units_mono : (x y : Float) → num x * den y ≤ num y * den x → units_of x ≤ units_of y
units_mono x y h =
    div_mono (num x * 2 ^ 149) (den x) (num y * 2 ^ 149) (den y) (den_pos x) (den_pos y)
    (le_trans (le_of_eq (mul_right_comm (num x) (2 ^ 149) (den y))) (le_trans (mul-le-mul_right (2 ^ 149) h) (le_of_eq (mul_right_comm (num y) (den x) (2 ^ 149)))))

plus-zero : (a b : ℕ) → 0 + a + b ≡ a + b
plus-zero a b = omega arith

to_bits_is : (x : Float) → T (positive x) → to_bits binary32 x ≡ pattern (units_of x)
unfolding to_bits
to_bits_is nan p = absurd p
to_bits_is (inf s) p = absurd p
to_bits_is (fin true m e) p = absurd p
to_bits_is (fin false m e) p = let n = units_of (fin false m e) in plus-zero (drop n * 8388608) (n / 2 ^ drop n)

pub bits-rise : (x y : Float) → T (positive x) → T (positive y) → T (le x y) → to_bits binary32 x ≤ to_bits binary32 y
bits-rise x y p q h =
    le_trans (le_of_eq (to_bits_is x p))
    (le_trans (pattern-mono (units_of x) (units_of y) (units_mono x y (le→cross x y p q h))) (le_of_eq (sym (to_bits_is y q))))

-- ---- a / 1000
least : T (positive (round binary32 false 1 1000))
unfolding round
least = tt

greatest : T (positive (round binary32 false 999999 1000))
unfolding round
greatest = tt

greatest-bits : to_bits binary32 (round binary32 false 999999 1000) ≡ 1148846064
unfolding round to_bits
greatest-bits = refl

zero_bits : to_bits binary32 (round binary32 false 0 1000) ≡ 0
unfolding round to_bits
zero_bits = refl

below-greatest : (a : ℕ) → a ≤ 999999 → T (le (round binary32 false a 1000) (round binary32 false 999999 1000))
below-greatest a h = round_mono binary32 a 1000 999999 1000 (omega arith) (omega arith) (omega arith)

thousandths-positive : (a : ℕ) → 1 ≤ a → a ≤ 999999 → T (positive (round binary32 false a 1000))
thousandths-positive a l h =
    between (round binary32 false 1 1000) (round binary32 false a 1000) (round binary32 false 999999 1000) least greatest
    (round_mono binary32 1 1000 a 1000 (omega arith) (omega arith) (omega arith)) (below-greatest a h)

pub thousandths-bits : (a : ℕ) → a ≤ 999999 → to_bits binary32 (round binary32 false a 1000) ≤ 1148846064
thousandths-bits zero h = le_trans (le_of_eq zero_bits) zero-le
thousandths-bits (suc a) h =
    le_trans
    (bits-rise (round binary32 false (suc a) 1000) (round binary32 false 999999 1000) (thousandths-positive (suc a) (omega arith) h) greatest (below-greatest (suc a) h))
    (le_of_eq greatest-bits)
