-- Floats of the code and of the definitions: between the infinities lie the finite numbers; which patterns are finite; and that the quotient of two
-- exact floats is a constant's value, rounded once. Assumes nothing.
use mathlib.Core.Path.{◌≡◌, refl, ap, ◌∙◌}
use mathlib.Core.Bool.{Bool, true, false, ◌&&◌, not, cond}
use Prim.Native.Nat.{ℕ, zero, suc, ◌+◌, ◌*◌, ◌/◌, ◌%◌, ◌≤◌, ◌<◌}
use native.Mathlib.Omega.{arith}
use native.Mathlib.Nat.{mul_assoc, mul_comm}
use lib.IntN.{pos}
use lib.Dec.{T, eqb, ltb}
use lib.Ieee as Ieee
use lib.Ieee.{Float, nan, inf, fin, lt, fits, binary32, div, of_int, round, up, down, of_bits, of_fields, odd, nan_bits, is_nan, to_bits}
use lib.Ieee.Scale.{finite, round_same}
use lib.Ieee.Fits.{down_pos, round-fits}
use lib.Ieee.Order.{round_mono}
use lib.Ieee.Positive.{positive, positive-finite, between}
use lib.Ieee.Bits.{to_bits-lt, nan_bits_above, is_true, of_bits-fits}
use lib.Ieee.Back.{round_whole}
use lib.Ieee.Exact.{HasValue}
use Rattle.std.specs.Float.{float_is_finite}
use borrow.Author.Tests.{le-ltb, ltb-true, ltb-false, ne_eqb, eq-eqb}
use Rattle.value.specs.declared.Reason.TheVariants.{OutOfRange}
use Rattle.value.specs.declared.Value.TheVariants.{Err, Real}
use Rattle.value.specs.Operators.{pick, is_real, real_of}
use Rattle.value.specs.Bytes.{InRange}
use Rattle.value.specs.Constants.{thousandths}

-- ---- finite numbers

-- What is a float of the format by its type is a finite number where the library's test says so.
pub finite_real : (x : Float) → fits binary32 x ≡ true → is_real x ≡ float_is_finite x
unfolding float_is_finite
finite_real nan h = refl
finite_real (inf s) h = refl
finite_real (fin s m e) h = h

-- A finite number is no NaN.
pub real-no-nan : (x : Float) → is_real x ≡ true → is_nan x ≡ false
unfolding is_nan
real-no-nan nan e = let z : ◌≡◌ {A = ℕ} 0 1 = cc in absurd (omega arith)
real-no-nan (inf s) e = refl
real-no-nan (fin s m d) e = refl

pub bits_below : (x : Float) → fits binary32 x ≡ true → to_bits binary32 x < 4294967296
bits_below x h = to_bits-lt binary32 x (rw h tt)

and_parts : (a b : Bool) → a && b ≡ true → (a ≡ true) × (b ≡ true)
and_parts true true e = (refl, refl)
and_parts true false e = let z : ◌≡◌ {A = ℕ} 0 1 = cc in absurd (omega arith)
and_parts false b e = let z : ◌≡◌ {A = ℕ} 0 1 = cc in absurd (omega arith)

pub real-parts : (x : Float) → is_real x ≡ true → (finite x ≡ true) × (fits binary32 x ≡ true)
real-parts x h = and_parts (finite x) (fits binary32 x) h

pub real-in-range : (x : Float) → InRange (real_of x)
unfolding real_of
real-in-range x = go (is_real x) refl
  where
    go : (t : Bool) → is_real x ≡ t → InRange (pick t (Real x) (Err OutOfRange))
    go true e = e
    go false e = tt

-- ---- a / 1000 with one rounding

thousand : (a d : ℕ) → a * d * 1000 ≡ a * (1000 * d)
thousand a d = mul_assoc a d 1000 ∙ ap (λ (z : ℕ). a * z) (mul_comm d 1000)

times-pos : (d : ℕ) → 0 < d → 0 < 1000 * d
times-pos d h = omega arith

-- 1148846080 is the pattern of 1000.
quotient : (x : Float) (a : ℕ) → HasValue x false a 1 → div binary32 x (of_bits binary32 1148846080) ≡ round binary32 false a 1000
unfolding div of_bits
quotient nan a h = absurd h
quotient (inf s) a h = absurd h
quotient (fin s m e) a h =
    let sign : Ieee.unlike s false ≡ false = ap (λ (t : Bool). Ieee.unlike t false) h.0 in
    let cross : m * up e * 1 * 1000 ≡ a * (1000 * down e) =
    ap (λ (z : ℕ). z * 1000) h.1 ∙ thousand a (down e) in
    ap (λ (t : Bool). round binary32 t (m * up e * 1) (1000 * down e)) sign
    ∙ round_same binary32 false (m * up e * 1) (1000 * down e) a 1000 (times-pos (down e) (down_pos e)) (omega arith) cross

least : T (positive (round binary32 false 1 1000))
unfolding round
least = tt

greatest : T (positive (round binary32 false 1000 1))
unfolding round
greatest = tt

-- The quotient is finite, since it lies between two closed ones.
bounded : (a : ℕ) → 1 ≤ a → a ≤ 999999 → T (finite (round binary32 false a 1000))
bounded a l h =
    positive-finite (round binary32 false a 1000)
    (between (round binary32 false 1 1000) (round binary32 false a 1000) (round binary32 false 1000 1) least greatest
    (round_mono binary32 1 1000 a 1000 (omega arith) (omega arith) (omega arith))
    (round_mono binary32 a 1000 1000 1 (omega arith) (omega arith) (omega arith)))

pub constant_real : (a : ℕ) → a ≤ 999999 → is_real (round binary32 false a 1000) ≡ true
unfolding round fits
constant_real zero h = refl
constant_real (suc a) h =
    rw (is_true (finite (round binary32 false (suc a) 1000)) (bounded (suc a) (omega arith) h), is_true (fits binary32 (round binary32 false (suc a) 1000)) (round-fits binary32 false (suc a) 1000)) refl

-- What the code computes is the constant's value.
pub constant-is : (a : ℕ) → a ≤ 999999 → real_of (div binary32 (of_int binary32 (pos a)) (of_bits binary32 1148846080)) ≡ thousandths a
unfolding of_int real_of thousandths
constant-is a h =
    ap real_of (quotient (round binary32 false a 1) a (round_whole binary32 false a (small a h)))
    ∙ rw (constant_real a h) refl
  where
    small : (b : ℕ) → b ≤ 999999 → b ≤ 16777216
    small b l = omega arith

pub thousandths-in-range : (a : ℕ) → a ≤ 999999 → InRange (thousandths a)
unfolding thousandths
thousandths-in-range a h = constant_real a h

-- ---- which patterns are finite

odd-finite : (d : ℕ) (s : Bool) (q k l : ℕ) → finite (odd d s q k l) ≡ true
unfolding odd
odd-finite d s zero k l = refl
odd-finite d s (suc q) k l = refl

fields-finite : (s : Bool) (x t : ℕ) → finite (of_fields binary32 s x t) ≡ not (eqb x 255)
unfolding of_fields
fields-finite s zero t = odd-finite 24 s t 0 149
fields-finite s (suc x) t = go (eqb (suc x) 255) (eqb t 0)
  where
    go : (b c : Bool) → finite (cond b (cond c (inf s) nan) (odd 24 s (8388608 + t) x 149)) ≡ not b
    go true true = refl
    go true false = refl
    go false c = odd-finite 24 s (8388608 + t) x 149

pub finite-bits : (b : ℕ) → finite (of_bits binary32 b) ≡ ltb (b % 2147483648) 2139095040
unfolding of_bits
finite-bits b = fields-finite _ (b % 2147483648 / 8388608) (b % 8388608) ∙ go (ltb (b % 2147483648) 2139095040) refl
  where
    go : (t : Bool) → ltb (b % 2147483648) 2139095040 ≡ t → not (eqb (b % 2147483648 / 8388608) 255) ≡ t
    go true e = let l = ltb-true (b % 2147483648) 2139095040 e in ap not (ne_eqb (b % 2147483648 / 8388608) 255 (λ q. omega (arith, l, q)))
    go false e = let l = ltb-false (b % 2147483648) 2139095040 e in ap not (eq-eqb (b % 2147483648 / 8388608) 255 (omega (arith, l)))

pub no_nan : (b : ℕ) → b % 2147483648 < 2139095040 → nan_bits binary32 b ≡ false
no_nan b h = nan_bits_above binary32 b ∙ le-ltb 2139095040 (b % 2147483648) (omega arith)

-- A pattern's float is of the format.
pub pattern-fits : (b : ℕ) → fits binary32 (of_bits binary32 b) ≡ true
pattern-fits b = is_true (fits binary32 (of_bits binary32 b)) (of_bits-fits binary32 b)
