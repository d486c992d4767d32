-- A value field's definition, one byte at a time, over the part of the bytes from i to end, and the words of its values. Assumes nothing.
use Rattle.std.specs.Prelude.{ℕ, zero, suc, ◌+◌, ◌*◌, ◌-◌, ◌/◌, ◌%◌, ◌≤◌, ◌<◌, ◌≡◌, Bool, true, false, length, get_or, eqb, Some, None}
use Rattle.std.proofs.Math.Path.{refl, ap}
use Rattle.std.proofs.Common.{sym, ◌∙◌, arith, add-one}
use Rattle.std.proofs.Math.Bool.{cond}
use mathlib.Core.List.{List, ◌∷◌}
use Rattle.std.proofs.Math.Option.{Option, some, none}
use borrow.Author.Tests.{le-leb, lt-leb, ne_eqb, eqb-true, eqb-false}
use Rattle.std.proofs.Math.Seq.{slice, slice-cons, slice_empty}
use Rattle.value.specs.declared.Reason.{Reason}
use Rattle.value.specs.declared.Reason.TheVariants.{ZeroDivisor, OutOfRange, Other}
use Rattle.value.specs.declared.Value.{Value}
use Rattle.value.specs.declared.Value.TheVariants.{Truth, Err}
use Rattle.value.specs.Operators.{pick}
use Rattle.value.specs.Bytes.{word_of, value_of, float_of, decoded, word_or}
use Rattle.value.proofs.Words.{tag-four, pattern-large}
use Rattle.formula.specs.Sheet.{digits_of, field_of}
use Rattle.text.specs.Fields.{positive, negative, behind_minus, patterned, behind_r, alone, field_value, word_by}
use Rattle.text.specs.Printed.{letter_of}

-- ---- numbers
pub positive-word : (n : ℕ) → n ≤ 2147483647 → word_by (positive (Some n)) ≡ 1 + 256 * n
unfolding positive word_of
positive-word n h = rw (le-leb n 2147483647 h) refl

pub positive-large : (n : ℕ) → 2147483647 < n → word_by (positive (Some n)) ≡ 0
unfolding positive
positive-large n h = rw (lt-leb n 2147483647 h) refl

pub positive-malformed : word_by (positive None) ≡ 0
unfolding positive
positive-malformed = refl

pub negative-word : (n : ℕ) → (n ≡ 0 → ⊥) → n ≤ 2147483648 → word_by (negative (Some n)) ≡ 1 + 256 * (4294967296 - n)
unfolding negative word_of
negative-word zero z h = absurd (z refl)
negative-word (suc n) z h = rw (le-leb n 2147483647 (omega arith)) refl

pub negative-large : (n : ℕ) → 2147483648 < n → word_by (negative (Some n)) ≡ 0
unfolding negative
negative-large zero h = refl
negative-large (suc n) h = rw (lt-leb n 2147483647 (omega arith)) refl

pub negative-zero : word_by (negative (Some 0)) ≡ 0
unfolding negative
negative-zero = refl

pub negative-malformed : word_by (negative None) ≡ 0
unfolding negative
negative-malformed = refl

-- ---- floats
pub patterned-word : (n : ℕ) → word_or (decoded (value_of (4 + 256 * n))) ≡ word_by (patterned (Some n))
unfolding patterned
patterned-word n =
    let t : (4 + 256 * n) % 256 ≡ 4 = omega arith in
    let b : (4 + 256 * n) / 256 ≡ n = omega arith in
    go (value_of (4 + 256 * n)) ∙ ap word_by (tag-four (4 + 256 * n) t ∙ ap float_of b)
  where
    go : (o : Option Value) → word_or (decoded o) ≡ word_by o
    go (some v) = refl
    go none = refl

pub patterned-large : (n : ℕ) → 4294967296 ≤ n → word_by (patterned (Some n)) ≡ 0
unfolding patterned
patterned-large n h = ap word_by (pattern-large n h)

pub patterned-malformed : word_by (patterned None) ≡ 0
unfolding patterned
patterned-malformed = refl

-- ---- a letter
pub alone-word : (s : List ℕ) (i end : ℕ) (v : Value) → i ≤ end → end ≤ length s → word_by (alone (slice i end s) v) ≡ pick (eqb i end) (word_of v) 0
unfolding alone
alone-word s i end v h k = go (eqb i end) refl
  where
    go : (b : Bool) → eqb i end ≡ b → word_by (alone (slice i end s) v) ≡ pick b (word_of v) 0
    go true e =
        let q : i ≡ end = eqb-true i end e in
        rw (q, slice_empty end s) refl
    go false e =
        let n = eqb-false i end e in
        let l : i < end = omega (arith, n, h) in
        rw (slice-cons i end s 0 l k) refl

-- ---- byte by byte
pub minus-end : (s : List ℕ) (end : ℕ) → word_by (behind_minus (slice end end s)) ≡ 0
unfolding behind_minus
minus-end s end = rw (slice_empty end s) refl

pub real-end : (s : List ℕ) (end : ℕ) → word_by (behind_r (slice end end s)) ≡ 0
unfolding behind_r
real-end s end = rw (slice_empty end s) refl

pub value-end : (s : List ℕ) (end : ℕ) → field_value (slice end end s) ≡ none
unfolding field_value
value-end s end = rw (slice_empty end s) refl

module _ (s : List ℕ) (i end : ℕ) (h : i < end) (k : end ≤ length s) where
  cons : slice i end s ≡ get_or s i 0 ∷ slice (i + 1) end s
  cons = rw add-one (slice-cons i end s 0 h k)

  pub minus-low : get_or s i 0 < 49 → word_by (behind_minus (slice i end s)) ≡ 0
  unfolding behind_minus
  minus-low p = rw (cons, lt-leb 49 (get_or s i 0) p) refl

  pub minus-high : 57 < get_or s i 0 → word_by (behind_minus (slice i end s)) ≡ 0
  unfolding behind_minus
  minus-high p = rw (cons, le-leb 49 (get_or s i 0) (omega arith), lt-leb (get_or s i 0) 57 p) refl

  pub minus-digit : 49 ≤ get_or s i 0 → get_or s i 0 ≤ 57 → behind_minus (slice i end s) ≡ negative (digits_of (get_or s i 0 - 48) (slice (i + 1) end s))
  unfolding behind_minus
  minus-digit p q = rw (cons, le-leb 49 (get_or s i 0) p, le-leb (get_or s i 0) 57 q) refl

  pub real-space : get_or s i 0 ≡ 32 → word_by (behind_r (slice i end s)) ≡ 0
  unfolding behind_r
  real-space p = ap (λ (l : List ℕ). word_by (behind_r l)) cons ∙ rw p refl

  pub real-digits : (get_or s i 0 ≡ 32 → ⊥) → behind_r (slice i end s) ≡ patterned (field_of (slice i end s))
  unfolding behind_r
  real-digits p =
      ap behind_r cons
      ∙ ap (λ (t : Bool). cond t none (patterned (field_of (get_or s i 0 ∷ slice (i + 1) end s)))) (ne_eqb (get_or s i 0) 32 p)
      ∙ ap (λ (l : List ℕ). patterned (field_of l)) (sym cons)

  pub value-space : get_or s i 0 ≡ 32 → field_value (slice i end s) ≡ field_value (slice (i + 1) end s)
  unfolding field_value
  value-space p = ap field_value cons ∙ rw p refl

  pub value-true : get_or s i 0 ≡ 84 → field_value (slice i end s) ≡ alone (slice (i + 1) end s) (Truth true)
  unfolding field_value
  value-true p = ap field_value cons ∙ rw p refl

  pub value-false : get_or s i 0 ≡ 70 → field_value (slice i end s) ≡ alone (slice (i + 1) end s) (Truth false)
  unfolding field_value
  value-false p = ap field_value cons ∙ rw p refl

  pub value-err : (r : Reason) → get_or s i 0 ≡ letter_of r → field_value (slice i end s) ≡ alone (slice (i + 1) end s) (Err r)
  unfolding field_value
  value-err Other p = ap field_value cons ∙ rw p refl
  value-err ZeroDivisor p = ap field_value cons ∙ rw p refl
  value-err OutOfRange p = ap field_value cons ∙ rw p refl

  pub value-real : get_or s i 0 ≡ 82 → field_value (slice i end s) ≡ behind_r (slice (i + 1) end s)
  unfolding field_value
  value-real p = ap field_value cons ∙ rw p refl

  pub value-minus : get_or s i 0 ≡ 45 → field_value (slice i end s) ≡ behind_minus (slice (i + 1) end s)
  unfolding field_value
  value-minus p = ap field_value cons ∙ rw p refl

  pub value-number : (get_or s i 0 ≡ 32 → ⊥) → (get_or s i 0 ≡ 84 → ⊥) → (get_or s i 0 ≡ 70 → ⊥) → (get_or s i 0 ≡ 69 → ⊥) → (get_or s i 0 ≡ 90 → ⊥)
      → (get_or s i 0 ≡ 86 → ⊥) → (get_or s i 0 ≡ 82 → ⊥) → (get_or s i 0 ≡ 45 → ⊥) → field_value (slice i end s) ≡ positive (field_of (slice i end s))
  unfolding field_value
  value-number space t f e z v r minus =
      rw cons
      (simp (ne_eqb (get_or s i 0) 32 space, ne_eqb (get_or s i 0) 84 t, ne_eqb (get_or s i 0) 70 f, ne_eqb (get_or s i 0) 69 e, ne_eqb (get_or s i 0) 90 z, ne_eqb (get_or s i 0) 86 v, ne_eqb (get_or s i 0) 82 r, ne_eqb (get_or s i 0) 45 minus))
