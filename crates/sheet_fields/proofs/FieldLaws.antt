-- A field's definition, one byte at a time, over the part of the bytes from i to end.
use mathlib.Core.Path.{◌≡◌, refl, sym, ap, ◌∙◌}
use mathlib.Core.Bool.{false}
use mathlib.Core.List.{List, ◌∷◌}
use Prim.Native.Nat.{ℕ, ◌+◌, ◌-◌, ◌*◌, ◌^◌, ◌≤◌, ◌<◌}
use native.Mathlib.Omega.{arith}
use native.Mathlib.Nat.{pow-suc, pow-le-pow_right, lt_of_lt_of_le}
use native.Mathlib.Numerals.{add-one}
use native.Mathlib.Decide.{ℕ_discrete, dec_lt}
use borrow.Author.Tests.{le-leb, lt-leb, ne_eqb}
use lib.ListN.{length, get_or}
use lib.Seq.{slice, slice-cons, slice_empty}
use Rattle.std.proofs.Common.{take, drop, ◌⊎◌, inl, inr, None, Some}
use Rattle.std.proofs.lemmas.List.{get_or-take, get_or-drop, length-take-le}
use Rattle.std.proofs.Math.ListN.{length-drop}
use Rattle.std.specs.Char.{is_ascii_digit}
use Rattle.formula.specs.Sheet.{digits_of, field_of, zero_of}

-- v has at most k + 1 digits
pub small : (v k : ℕ) → v < 10 ^ (k + 1) → k ≤ 7 → v < 100000000
small v k h l = lt_of_lt_of_le h (pow-le-pow_right (omega arith) {i = k + 1} {j = 8} (omega arith))

pub grows : (v d k : ℕ) → v < 10 ^ (k + 1) → d < 10 → v * 10 + d < 10 ^ (k + 1 + 1)
grows v d k h l = let e : 10 ^ (k + 1 + 1) ≡ 10 ^ (k + 1) * 10 = ap (λ (n : ℕ). 10 ^ n) (add-one (k + 1)) ∙ pow-suc 10 (k + 1) in omega arith

module _ (s : List ℕ) (i end : ℕ) (h : i < end) (k : end ≤ length s) where
  cons : slice i end s ≡ get_or s i 0 ∷ slice (i + 1) end s
  cons = rw add-one (slice-cons i end s 0 h k)

  pub digits_more : (v : ℕ) → 48 ≤ get_or s i 0 → get_or s i 0 ≤ 57 → digits_of v (slice i end s) ≡ digits_of (v * 10 + (get_or s i 0 - 48)) (slice (i + 1) end s)
  unfolding digits_of
  digits_more v p q = ap (digits_of v) cons ∙ simp (le-leb 48 (get_or s i 0) p, le-leb (get_or s i 0) 57 q)

  pub digits_low : (v : ℕ) → get_or s i 0 < 48 → None ≡ digits_of v (slice i end s)
  unfolding digits_of
  digits_low v p = sym (ap (digits_of v) cons ∙ simp (lt-leb 48 (get_or s i 0) p))

  pub digits-high : (v : ℕ) → 57 < get_or s i 0 → None ≡ digits_of v (slice i end s)
  unfolding digits_of
  digits-high v p = sym (ap (digits_of v) cons ∙ simp (le-leb 48 (get_or s i 0) (omega arith), lt-leb (get_or s i 0) 57 p))

  pub field-space : get_or s i 0 ≡ 32 → field_of (slice i end s) ≡ field_of (slice (i + 1) end s)
  unfolding field_of
  field-space p = ap field_of cons ∙ rw p refl

  pub field-zero : get_or s i 0 ≡ 48 → field_of (slice i end s) ≡ zero_of (slice (i + 1) end s)
  unfolding field_of
  field-zero p = ap field_of cons ∙ rw p refl

  pub field-low : (get_or s i 0 ≡ 32 → ⊥) → get_or s i 0 < 48 → None ≡ field_of (slice i end s)
  unfolding field_of
  field-low p q = sym (ap field_of cons ∙ simp (ne_eqb (get_or s i 0) 48 (λ (e : get_or s i 0 ≡ 48). omega arith), ne_eqb (get_or s i 0) 32 p, lt-leb 48 (get_or s i 0) q))

  pub field-high : 57 < get_or s i 0 → None ≡ field_of (slice i end s)
  unfolding field_of
  field-high q = sym (ap field_of cons ∙ simp (ne_eqb (get_or s i 0) 48 (λ (e : get_or s i 0 ≡ 48). omega arith), ne_eqb (get_or s i 0) 32 (λ (e : get_or s i 0 ≡ 32). omega arith), le-leb 48 (get_or s i 0) (omega arith), lt-leb (get_or s i 0) 57 q))

  pub field-digit : (get_or s i 0 ≡ 48 → ⊥) → 48 ≤ get_or s i 0 → get_or s i 0 ≤ 57 → field_of (slice i end s) ≡ digits_of (get_or s i 0 - 48) (slice (i + 1) end s)
  unfolding field_of
  field-digit n p q = ap field_of cons ∙ simp (ne_eqb (get_or s i 0) 48 n, ne_eqb (get_or s i 0) 32 (λ (e : get_or s i 0 ≡ 32). omega arith), le-leb 48 (get_or s i 0) p, le-leb (get_or s i 0) 57 q)

pub digits-end : (s : List ℕ) (end v : ℕ) → Some v ≡ digits_of v (slice end end s)
unfolding digits_of
digits-end s end v = rw (slice_empty end s) refl

pub field_end : (s : List ℕ) (end : ℕ) → None ≡ field_of (slice end end s)
unfolding field_of
field_end s end = rw (slice_empty end s) refl

pub zero-end : (s : List ℕ) (i : ℕ) → zero_of (slice i i s) ≡ Some 0
unfolding zero_of
zero-end s i = rw (slice_empty i s) refl

pub zero_more : (s : List ℕ) (i end : ℕ) → i < end → end ≤ length s → zero_of (slice i end s) ≡ None
unfolding zero_of
zero_more s i end h k = rw (slice-cons i end s 0 h k) refl

-- A character below the digits: no field, be it a space in the last place or another.
pub field_below : (s : List ℕ) (i end : ℕ) → i < end → end ≤ length s → (i + 1 < end → get_or s i 0 ≡ 32 → ⊥) → get_or s i 0 < 48 → None ≡ field_of (slice i end s)
field_below s i end h k p q = go (ℕ_discrete (get_or s i 0) 32)
  where
    last : get_or s i 0 ≡ 32 → Dec (i + 1 < end) → None ≡ field_of (slice i end s)
    last e (yes l) = absurd (p l e)
    last e (no l) =
        let d : i + 1 ≡ end = omega arith in
        field_end s end ∙ ap (λ (j : ℕ). field_of (slice j end s)) (sym d) ∙ sym (field-space s i end h k e)

    go : Dec (get_or s i 0 ≡ 32) → None ≡ field_of (slice i end s)
    go (yes e) = last e (dec_lt (i + 1) end)
    go (no n) = field-low s i end h k n q

above : (b : ℕ) → is_ascii_digit b ≡ false → 48 ≤ b → 57 < b
above b e h = grind arith

-- No digit, as the code tests it: one below the digits or one above them.
no-digit : (b : ℕ) → is_ascii_digit b ≡ false → (b < 48) ⊎ (57 < b)
no-digit b e = go (dec_lt b 48)
  where
    go : Dec (b < 48) → (b < 48) ⊎ (57 < b)
    go (yes p) = inl p
    go (no p) = inr (above b e (omega arith))

pub digits-no-digit : (s : List ℕ) (i end v : ℕ) → i < end → end ≤ length s → is_ascii_digit (get_or s i 0) ≡ false → None ≡ digits_of v (slice i end s)
digits-no-digit s i end v h k e = elim (no-digit (get_or s i 0) e) [ inl p ↦ digits_low s i end h k v p | inr p ↦ digits-high s i end h k v p ]

pub field-not-digit : (s : List ℕ) (i end : ℕ) → i < end → end ≤ length s → (i + 1 < end → get_or s i 0 ≡ 32 → ⊥) → is_ascii_digit (get_or s i 0) ≡ false → None ≡ field_of (slice i end s)
field-not-digit s i end h k p e = elim (no-digit (get_or s i 0) e) [ inl q ↦ field_below s i end h k p q | inr q ↦ field-high s i end h k q ]

-- The bytes from `from` to `end` as the code goes over them.
pub cut-at : (s : List ℕ) (from end i : ℕ) → from + i < end → get_or (take (end - from) (drop from s)) i 0 ≡ get_or s (from + i) 0
cut-at s from end i h = get_or-take (end - from) (drop from s) i 0 (omega arith) ∙ get_or-drop from s i 0

pub cut-long : (s : List ℕ) (from end : ℕ) → from ≤ end → end ≤ length s → length (take (end - from) (drop from s)) ≡ end - from
cut-long s from end h k = length-take-le (end - from) (drop from s) (simp length-drop (omega arith))

-- "zero is one digit 0": a digit in the last place, whichever it is.
pub field-last : (s : List ℕ) (i end : ℕ) → i + 1 ≡ end → end ≤ length s → 48 ≤ get_or s i 0 → get_or s i 0 ≤ 57 → Some (get_or s i 0 - 48) ≡ field_of (slice i end s)
field-last s i end d k p q = go (ℕ_discrete (get_or s i 0) 48)
  where
    go : Dec (get_or s i 0 ≡ 48) → Some (get_or s i 0 - 48) ≡ field_of (slice i end s)
    go (yes e) =
        let z : get_or s i 0 - 48 ≡ 0 = omega arith in
        ap Some z ∙ sym (zero-end s end) ∙ ap (λ (j : ℕ). zero_of (slice j end s)) (sym d) ∙ sym (field-zero s i end (omega arith) k e)
    go (no n) =
        digits-end s end (get_or s i 0 - 48) ∙ ap (λ (j : ℕ). digits_of (get_or s i 0 - 48) (slice j end s)) (sym d) ∙ sym (field-digit s i end (omega arith) k n p q)

pub digits_last : (s : List ℕ) (i end v : ℕ) → i + 1 ≡ end → end ≤ length s → 48 ≤ get_or s i 0 → get_or s i 0 ≤ 57 → digits_of v (slice i end s) ≡ Some (v * 10 + (get_or s i 0 - 48))
digits_last s i end v d k p q =
    digits_more s i end (omega arith) k v p q ∙ ap (λ (j : ℕ). digits_of (v * 10 + (get_or s i 0 - 48)) (slice j end s)) d ∙ sym (digits-end s end (v * 10 + (get_or s i 0 - 48)))

-- Fields of few characters, and the spaces before them.
module _ (s : List ℕ) (at : ℕ) where
  pub one-digit : at + 2 ≤ length s → get_or s at 0 ≡ 32 → 48 ≤ get_or s (at + 1) 0 → get_or s (at + 1) 0 ≤ 57 → field_of (slice at (at + 2) s) ≡ Some (get_or s (at + 1) 0 - 48)
  one-digit k e p q = field-space s at (at + 2) (omega arith) k e ∙ sym (field-last s (at + 1) (at + 2) (omega arith) k p q)

  pub two_digits : at + 2 ≤ length s → 49 ≤ get_or s at 0 → get_or s at 0 ≤ 57 → 48 ≤ get_or s (at + 1) 0 → get_or s (at + 1) 0 ≤ 57 → field_of (slice at (at + 2) s) ≡ Some ((get_or s at 0 - 48) * 10 + (get_or s (at + 1) 0 - 48))
  two_digits k l h p q =
      field-digit s at (at + 2) (omega arith) k (λ (e : get_or s at 0 ≡ 48). omega arith) (omega arith) h ∙ digits_last s (at + 1) (at + 2) (get_or s at 0 - 48) (omega arith) k p q

  pub three-digits : at + 3 ≤ length s → 49 ≤ get_or s at 0 → get_or s at 0 ≤ 57 → 48 ≤ get_or s (at + 1) 0 → get_or s (at + 1) 0 ≤ 57 → 48 ≤ get_or s (at + 2) 0 → get_or s (at + 2) 0 ≤ 57
      → field_of (slice at (at + 3) s) ≡ Some (((get_or s at 0 - 48) * 10 + (get_or s (at + 1) 0 - 48)) * 10 + (get_or s (at + 2) 0 - 48))
  three-digits k l h p q m n =
      let v = (get_or s at 0 - 48) * 10 + (get_or s (at + 1) 0 - 48) in
      let e : at + 1 + 1 ≡ at + 2 = omega arith in
      field-digit s at (at + 3) (omega arith) k (λ (e : get_or s at 0 ≡ 48). omega arith) (omega arith) h
      ∙ digits_more s (at + 1) (at + 3) (omega arith) k (get_or s at 0 - 48) p q
      ∙ ap (λ (j : ℕ). digits_of v (slice j (at + 3) s)) e
      ∙ digits_last s (at + 2) (at + 3) v (omega arith) k m n

  pub three-spaces : at + 6 ≤ length s → get_or s at 0 ≡ 32 → get_or s (at + 1) 0 ≡ 32 → get_or s (at + 2) 0 ≡ 32 → field_of (slice at (at + 6) s) ≡ field_of (slice (at + 3) (at + 6) s)
  three-spaces k x y z =
      let e : at + 1 + 1 ≡ at + 2 = omega arith in
      let f : at + 2 + 1 ≡ at + 3 = omega arith in
      field-space s at (at + 6) (omega arith) k x
      ∙ field-space s (at + 1) (at + 6) (omega arith) k y
      ∙ ap (λ (j : ℕ). field_of (slice j (at + 6) s)) e
      ∙ field-space s (at + 2) (at + 6) (omega arith) k z
      ∙ ap (λ (j : ℕ). field_of (slice j (at + 6) s)) f

  pub four-spaces : at + 6 ≤ length s → get_or s at 0 ≡ 32 → get_or s (at + 1) 0 ≡ 32 → get_or s (at + 2) 0 ≡ 32 → get_or s (at + 3) 0 ≡ 32 → field_of (slice at (at + 6) s) ≡ field_of (slice (at + 4) (at + 6) s)
  four-spaces k x y z u =
      let e : at + 3 + 1 ≡ at + 4 = omega arith in
      three-spaces k x y z ∙ field-space s (at + 3) (at + 6) (omega arith) k u ∙ ap (λ (j : ℕ). field_of (slice j (at + 6) s)) e

-- Four bytes as one number say which bytes they are.
pub word-of-spaces : (a b c d : ℕ) → a < 256 → b < 256 → c < 256 → d < 256 → a + 256 * b + 65536 * c + 16777216 * d ≡ 538976288 → (a ≡ 32) × (b ≡ 32) × (c ≡ 32) × (d ≡ 32)
word-of-spaces a b c d p q r h e = (omega arith, omega arith, omega arith, omega arith)

pub word-after-spaces : (a b c d : ℕ) → a < 256 → b < 256 → c < 256 → a + 256 * b + 65536 * c + 16777216 * d ≡ 2105376 + 16777216 * d → (a ≡ 32) × (b ≡ 32) × (c ≡ 32)
word-after-spaces a b c d p q r e = (omega arith, omega arith, omega arith)
