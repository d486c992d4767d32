-- Laws of `mask`: what or, and, and-not, shifts and single bits of masks are for the sets. Each is shown over the first n
-- places by induction, as the logic's bit operations go, and then stated for the 33 places. Assumes nothing.
use mathlib.Core.Path.{◌≡◌, refl, sym, ap, ap₂, ◌∙◌}
use mathlib.Core.Bool.{Bool, true, false, ◌&&◌, ◌||◌, not}
use Prim.Native.Nat.{ℕ, zero, suc, ◌+◌, ◌-◌, ◌*◌, ◌/◌, ◌%◌, ◌^◌, ◌≤◌, ◌<◌, min, max}
use native.Mathlib.Omega.{arith}
use native.Mathlib.Nat.{pow-suc, lt_of_lt_of_le, mul_comm}
use lib.Bits.{bit_and, bit_or, and_step, or_step}
use lib.Dec.{eqb, leb, ltb, eqb-suc-suc, leb-suc-suc}
use lib.Pow.{pow_mono, pow_pos, shr-shr, shl_exact, ones_lt}
use borrow.Author.Tests.{ne_eqb, le-leb, lt-leb, lt-ltb, le-ltb, leb-true}
use Rattle.names.specs.Names.{Names, one, union, common, without, range, later, bit, mask_from}

-- ---- one digit

pub half : (b : Bool) (m : ℕ) → (bit b + 2 * m) / 2 ≡ m
half true m = omega arith
half false m = omega arith

pub odd : (b : Bool) (m : ℕ) → (bit b + 2 * m) % 2 ≡ bit b
odd true m = omega arith
odd false m = omega arith

pub bit_le : (b : Bool) → bit b ≤ 1
bit_le true = omega arith
bit_le false = omega arith

bit-or : (a b : Bool) → max (bit a) (bit b) ≡ bit (a || b)
bit-or true true = refl
bit-or true false = refl
bit-or false true = refl
bit-or false false = refl

bit-and : (a b : Bool) → min (bit a) (bit b) ≡ bit (a && b)
bit-and true true = refl
bit-and true false = refl
bit-and false true = refl
bit-and false false = refl

pub bit-one : (b : Bool) → eqb (bit b) 1 ≡ b
bit-one true = refl
bit-one false = refl

-- ---- a mask depends on the places alone

pub mask_from-cong : (n : ℕ) (f g : Names) → ((i : ℕ) → i < n → f i ≡ g i) → mask_from n f ≡ mask_from n g
unfolding mask_from
mask_from-cong zero f g h = refl
mask_from-cong (suc n) f g h = ap₂ (λ (b : Bool) (m : ℕ). bit b + 2 * m) (h 0 (omega arith)) (mask_from-cong n (later f) (later g) (λ i l. h (suc i) (omega arith)))

-- testing a bit
pub mask_from-bit : (n i : ℕ) (f : Names) → i < n → mask_from n f / 2 ^ i % 2 ≡ bit (f i)
unfolding mask_from
mask_from-bit zero i f h = absurd (omega arith)
mask_from-bit (suc n) zero f h = let e : (bit (f 0) + 2 * mask_from n (later f)) / 2 ^ 0 ≡ bit (f 0) + 2 * mask_from n (later f) = omega arith in rw e (odd (f 0) (mask_from n (later f)))
mask_from-bit (suc n) (suc i) f h =
    ap (λ (x : ℕ). x % 2) (ap (λ (k : ℕ). (bit (f 0) + 2 * mask_from n (later f)) / 2 ^ k) (omega arith) ∙ sym (shr-shr (bit (f 0) + 2 * mask_from n (later f)) 1 i) ∙ ap (λ (x : ℕ). x / 2 ^ i) (half (f 0) (mask_from n (later f))))
    ∙ mask_from-bit n i (later f) (omega arith)

pub mask_from-lt : (n : ℕ) (f : Names) → mask_from n f < 2 ^ n
unfolding mask_from
mask_from-lt zero f = omega arith
mask_from-lt (suc n) f = omega (arith, pow-suc 2 n, bit_le (f 0), mask_from-lt n (later f))

-- ---- or, and, and-not

pub mask_from-or : (n : ℕ) (f g : Names) → bit_or (mask_from n f) (mask_from n g) ≡ mask_from n (union f g)
unfolding mask_from
mask_from-or zero f g = refl
mask_from-or (suc n) f g =
    let m = mask_from n (later f) in
    let k = mask_from n (later g) in
    or_step (bit (f 0) + 2 * m) (bit (g 0) + 2 * k)
    ∙ rw (half (f 0) m, half (g 0) k, odd (f 0) m, odd (g 0) k, bit-or (f 0) (g 0), mask_from-or n (later f) (later g)) (omega arith)

pub mask_from-and : (n : ℕ) (f g : Names) → bit_and (mask_from n f) (mask_from n g) ≡ mask_from n (common f g)
unfolding mask_from
mask_from-and zero f g = refl
mask_from-and (suc n) f g =
    let m = mask_from n (later f) in
    let k = mask_from n (later g) in
    and_step (bit (f 0) + 2 * m) (bit (g 0) + 2 * k)
    ∙ rw (half (f 0) m, half (g 0) k, odd (f 0) m, odd (g 0) k, bit-and (f 0) (g 0), mask_from-and n (later f) (later g)) (omega arith)

-- the complement within w digits, by its lowest digit
module _ (b : Bool) (m p : ℕ) (l : m < p) where
  not-half : ((p * 2 - 1) - (bit b + 2 * m)) / 2 ≡ (p - 1) - m
  not-half = omega (arith, bit_le b)

  not-odd : ((p * 2 - 1) - (bit b + 2 * m)) % 2 ≡ bit (not b)
  not-odd = go b
    where
      go : (b : Bool) → ((p * 2 - 1) - (bit b + 2 * m)) % 2 ≡ bit (not b)
      go true = omega arith
      go false = omega arith

pub mask_from-without : (n w : ℕ) (f g : Names) → n ≤ w → bit_and (mask_from n f) ((2 ^ w - 1) - mask_from n g) ≡ mask_from n (without f g)
unfolding mask_from
mask_from-without zero w f g h = refl
mask_from-without (suc n) zero f g h = absurd (omega arith)
mask_from-without (suc n) (suc w) f g h =
    let m = mask_from n (later f) in
    let k = mask_from n (later g) in
    let l : k < 2 ^ w = lt_of_lt_of_le (mask_from-lt n (later g)) (pow_mono (omega arith)) in
    ap (λ (p : ℕ). bit_and (bit (f 0) + 2 * m) ((p - 1) - (bit (g 0) + 2 * k))) (pow-suc 2 w)
    ∙ and_step (bit (f 0) + 2 * m) ((2 ^ w * 2 - 1) - (bit (g 0) + 2 * k))
    ∙ rw (half (f 0) m, odd (f 0) m, not-half (g 0) k (2 ^ w) l, not-odd (g 0) k (2 ^ w) l, bit-and (f 0) (not (g 0)), mask_from-without n w (later f) (later g) (omega arith)) (omega arith)

-- ---- none, one, range

pub mask_from-none : (n : ℕ) (f : Names) → ((i : ℕ) → i < n → f i ≡ false) → mask_from n f ≡ 0
unfolding mask_from
mask_from-none zero f h = refl
mask_from-none (suc n) f h = rw (h 0 (omega arith), mask_from-none n (later f) (λ i l. h (suc i) (omega arith))) refl

pub mask_from-one : (n i : ℕ) → i < n → mask_from n (one i) ≡ 2 ^ i
unfolding mask_from
mask_from-one zero i h = absurd (omega arith)
mask_from-one (suc n) zero h = rw (mask_from-none n (later (one 0)) (λ j l. ne_eqb 0 (suc j) (λ e. omega arith))) refl
mask_from-one (suc n) (suc i) h =
    rw (ne_eqb (suc i) 0 (λ e. omega arith), mask_from-cong n (later (one (suc i))) (one i) (λ j l. eqb-suc-suc i j), mask_from-one n i (omega arith), pow-suc 2 i) (omega arith)

pub range-later : (a b j : ℕ) → range (suc a) b (suc j) ≡ range a b j
range-later a b j = ap₂ ◌&&◌ (leb-suc-suc a j) (ap (ltb (suc j)) (omega arith) ∙ leb-suc-suc (suc j) (a + b))

pub range-from : (b j : ℕ) → range 0 (suc b) (suc j) ≡ range 0 b j
range-from b j = ap₂ ◌&&◌ (le-leb 0 (suc j) (omega arith) ∙ sym (le-leb 0 j (omega arith))) (ap (ltb (suc j)) (omega arith) ∙ leb-suc-suc (suc j) (0 + b))

pub range-empty : (a j : ℕ) → range a 0 j ≡ false
range-empty a j = go (leb a j) refl
  where
    go : (t : Bool) → leb a j ≡ t → t && ltb j (a + 0) ≡ false
    go true e = le-ltb j (a + 0) (omega (arith, leb-true a j e))
    go false e = refl

pub mask_from-range : (n a b : ℕ) → a + b ≤ n → mask_from n (range a b) ≡ 2 ^ a * (2 ^ b - 1)
unfolding mask_from
mask_from-range zero a b h =
    let e : a ≡ 0 = omega arith in
    let d : b ≡ 0 = omega arith in
    rw (e, d) refl
mask_from-range (suc n) zero zero h = rw (mask_from-none n (later (range 0 0)) (λ j l. range-empty 0 (suc j))) refl
mask_from-range (suc n) zero (suc b) h =
    rw (lt-ltb 0 (0 + suc b) (omega arith), mask_from-cong n (later (range 0 (suc b))) (range 0 b) (λ j l. range-from b j), mask_from-range n 0 b (omega arith), pow-suc 2 b)
    (omega (arith, pow_pos b))
mask_from-range (suc n) (suc a) b h =
    rw (lt-leb (suc a) 0 (omega arith), mask_from-cong n (later (range (suc a) b)) (range a b) (λ j l. range-later a b j), mask_from-range n a b (omega arith), pow-suc 2 a)
    (omega arith)

-- ---- what the functions' shifts give

pub shifted_one : (i : ℕ) → i < 64 → (1 * 2 ^ i) % 2 ^ 64 ≡ 2 ^ i
shifted_one i h = shl_exact 1 i 64 (omega arith) (omega arith) ∙ omega arith

pub shifted-one-pos : (b : ℕ) → b < 64 → 1 ≤ (1 * 2 ^ b) % 2 ^ 64
shifted-one-pos b h = rw (shifted_one b h) (pow_pos b)

pub shifted-range : (a b : ℕ) → a + b ≤ 33 → (((1 * 2 ^ b) % 2 ^ 64 - 1) * 2 ^ a) % 2 ^ 64 ≡ 2 ^ a * (2 ^ b - 1)
shifted-range a b h = rw (shifted_one b (omega arith)) (shl_exact b a 64 (ones_lt b) (omega arith) ∙ mul_comm (2 ^ b - 1) (2 ^ a))
