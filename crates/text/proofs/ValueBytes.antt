-- The bytes that are read from a set line are values' bytes: each field's value is in the values' range, and its word stands in its place. So a set line is a
-- set that passes 12 in push, with the same kinds. Assumes nothing.
use Rattle.std.specs.Prelude.{ℕ, zero, suc, ◌+◌, ◌*◌, ◌-◌, ◌/◌, ◌%◌, ◌≤◌, ◌<◌, ◌≡◌, refl, Bool, true, false, cond, ◌&&◌, List, [], ◌∷◌, ◌++◌, pos, negsuc, eqb, leb, length, get_or, drop, replicate, Some, None}
use Rattle.std.proofs.Common.{sym, ap, subst, ◌∙◌, append-nil, arith, leb-true, length-append, length-drop, drop_of_length-le}
use Rattle.std.proofs.Math.Option.{Option, some, none, some-injective, none-ne-some}
use Rattle.std.proofs.Math.Decide.{ℕ_discrete}
use Rattle.std.proofs.lemmas.List.{length-replicate}
use Rattle.std.proofs.Math.ListN.{get_or-append}
use Rattle.value.specs.declared.Reason.TheVariants.{ZeroDivisor, OutOfRange, Other}
use Rattle.value.specs.declared.Value.{Value}
use Rattle.value.specs.declared.Value.TheVariants.{Whole, Truth, Err}
use Rattle.value.specs.Operators.{pick}
use Rattle.value.specs.Bytes.{InRange, is_some, value_of, float_of, word_at, stored}
use Rattle.value.specs.Kinds.{of_kind}
use Rattle.value.proofs.Words.{value-of-word, value-in-range, tag-four, word_lt, word-stored, word-before}
use Rattle.formula.specs.Results.{Field}
use Rattle.formula.specs.Sheet.{digits_of, field_of}
use Rattle.text.specs.Fields.{positive, negative, behind_minus, patterned, behind_r, alone, field_value, word_by}
use Rattle.text.specs.SetLines.{field_at, fields_well, field_bytes}
use Rattle.text.proofs.SetLineLaws.{bytes-length, bytes-more, wells-at}

-- ---- a field's value is in range
positive-in-range : (f : Field) (v : Value) → positive f ≡ some v → InRange v
unfolding positive
positive-in-range (Some n) v e = go (leb n 2147483647) refl e
  where
    go : (b : Bool) → leb n 2147483647 ≡ b → pick b (some (Whole (pos n))) none ≡ some v → InRange v
    go true p q = subst InRange (some-injective (Whole (pos n)) v q) (omega (arith, leb-true n 2147483647 p))
    go false p q = absurd (none-ne-some v q)
positive-in-range None v e = absurd (none-ne-some v e)

negative-in-range : (f : Field) (v : Value) → negative f ≡ some v → InRange v
unfolding negative
negative-in-range (Some zero) v e = absurd (none-ne-some v e)
negative-in-range (Some (suc n)) v e = go (leb n 2147483647) refl e
  where
    go : (b : Bool) → leb n 2147483647 ≡ b → pick b (some (Whole (negsuc n))) none ≡ some v → InRange v
    go true p q = subst InRange (some-injective (Whole (negsuc n)) v q) (omega (arith, leb-true n 2147483647 p))
    go false p q = absurd (none-ne-some v q)
negative-in-range None v e = absurd (none-ne-some v e)

minus-in-range : (s : List ℕ) (v : Value) → behind_minus s ≡ some v → InRange v
unfolding behind_minus
minus-in-range [] v e = absurd (none-ne-some v e)
minus-in-range (b ∷ s) v e = go (leb 49 b && leb b 57) e
  where
    go : (x : Bool) → cond x (negative (digits_of (b - 48) s)) none ≡ some v → InRange v
    go true q = negative-in-range (digits_of (b - 48) s) v q
    go false q = absurd (none-ne-some v q)

patterned-in-range : (f : Field) (v : Value) → patterned f ≡ some v → InRange v
unfolding patterned
patterned-in-range (Some n) v e =
    let t : (4 + 256 * n) % 256 ≡ 4 = omega arith in
    let b : (4 + 256 * n) / 256 ≡ n = omega arith in
    value-in-range (4 + 256 * n) v (tag-four (4 + 256 * n) t ∙ ap float_of b ∙ e)
patterned-in-range None v e = absurd (none-ne-some v e)

real-in-range : (s : List ℕ) (v : Value) → behind_r s ≡ some v → InRange v
unfolding behind_r
real-in-range [] v e = absurd (none-ne-some v e)
real-in-range (b ∷ s) v e = go (eqb b 32) e
  where
    go : (x : Bool) → cond x none (patterned (field_of (b ∷ s))) ≡ some v → InRange v
    go true q = absurd (none-ne-some v q)
    go false q = patterned-in-range (field_of (b ∷ s)) v q

alone-in-range : (s : List ℕ) (u v : Value) → InRange u → alone s u ≡ some v → InRange v
unfolding alone
alone-in-range [] u v i e = subst InRange (some-injective u v e) i
alone-in-range (b ∷ s) u v i e = absurd (none-ne-some v e)

field-in-range : (s : List ℕ) (v : Value) → field_value s ≡ some v → InRange v
unfolding field_value
field-in-range [] v e = absurd (none-ne-some v e)
field-in-range (b ∷ s) v e = go (λ q. field-in-range s v q) (eqb b 32) (eqb b 84) (eqb b 70) (eqb b 69) (eqb b 90) (eqb b 86) (eqb b 82) (eqb b 45) e
  where
    go : (field_value s ≡ some v → InRange v) → (space t f e z o r minus : Bool)
        → cond space (field_value s)
        (cond t (alone s (Truth true)) (cond f (alone s (Truth false))
        (cond e (alone s (Err Other)) (cond z (alone s (Err ZeroDivisor)) (cond o (alone s (Err OutOfRange))
        (cond r (behind_r s) (cond minus (behind_minus s) (positive (field_of (b ∷ s)))))))))) ≡ some v
        → InRange v
    go later true t f e z o r m q = later q
    go later false true f e z o r m q = alone-in-range s (Truth true) v tt q
    go later false false true e z o r m q = alone-in-range s (Truth false) v tt q
    go later false false false true z o r m q = alone-in-range s (Err Other) v tt q
    go later false false false false true o r m q = alone-in-range s (Err ZeroDivisor) v tt q
    go later false false false false false true r m q = alone-in-range s (Err OutOfRange) v tt q
    go later false false false false false false true m q = real-in-range s v q
    go later false false false false false false false true q = minus-in-range s v q
    go later false false false false false false false false q = positive-in-range (field_of (b ∷ s)) v q

-- A field's word is its value's, and that of no value where it has none.
pub field-word : (s : List ℕ) → value_of (word_by (field_value s)) ≡ field_value s
unfolding value_of
field-word s = go (field_value s) refl
  where
    go : (o : Option Value) → field_value s ≡ o → value_of (word_by o) ≡ o
    go (some v) e = value-of-word v (field-in-range s v e)
    go none e = refl

word_fits : (s : List ℕ) → word_by (field_value s) < 1099511627776
word_fits s = go (field_value s) refl
  where
    go : (o : Option Value) → field_value s ≡ o → word_by o < 1099511627776
    go (some v) e = word_lt v (field-in-range s v e)
    go none e = omega arith

-- ---- the words of a line's fields
word-front : (a b : List ℕ) (i : ℕ) → i + 5 ≤ length a → word_at (a ++ b) i ≡ word_at a i
unfolding word_at
word-front a b i h =
    rw (
      get_or-append a b 0 i (omega arith),
      get_or-append a b 0 (i + 1) (omega arith),
      get_or-append a b 0 (i + 2) (omega arith),
      get_or-append a b 0 (i + 3) (omega arith),
      get_or-append a b 0 (i + 4) (omega arith),
    ) refl

-- One field's bytes behind those of the fields before it.
module _ (k : ℕ) (l : List ℕ) where
  abbrev blank : List ℕ
  blank = replicate (5 * k + 5) 0

  abbrev before : List ℕ
  before = field_bytes k l ++ drop (5 * k) blank

  abbrev word : ℕ
  word = word_by (field_value (field_at l k))

  blanks : length blank ≡ 5 * k + 5
  blanks = length-replicate (5 * k + 5) 0

  appended : field_bytes (suc k) l ≡ stored before (5 * k) word
  appended =
      let z : k + 1 ≡ suc k = omega arith in
      sym (bytes-more l blank k before refl (omega (arith, blanks))
      ∙ ap (λ (r : List ℕ). field_bytes (k + 1) l ++ r) (drop_of_length-le blank {i = 5 * (k + 1)} (omega (arith, blanks)))
      ∙ append-nil (field_bytes (k + 1) l) ∙ ap (λ (i : ℕ). field_bytes i l) z)

  room : 5 * k + 5 ≤ length before
  room = omega (arith, length-append (field_bytes k l) (drop (5 * k) blank), bytes-length k l, length-drop (5 * k) blank, blanks)

  last_word : word_at (field_bytes (suc k) l) (5 * k) ≡ word
  last_word = ap (λ (r : List ℕ). word_at r (5 * k)) appended ∙ word-stored before (5 * k) word room (word_fits (field_at l k))

  earlier_word : (j : ℕ) → j < k → word_at (field_bytes (suc k) l) (5 * j) ≡ word_at (field_bytes k l) (5 * j)
  earlier_word j h =
      ap (λ (r : List ℕ). word_at r (5 * j)) appended ∙ word-before before (5 * k) word (5 * j) (omega arith)
      ∙ word-front (field_bytes k l) (drop (5 * k) blank) (5 * j) (omega (arith, bytes-length k l))

pub word-of-field : (k : ℕ) (l : List ℕ) (j : ℕ) → j < k → word_at (field_bytes k l) (5 * j) ≡ word_by (field_value (field_at l j))
word-of-field zero l j h = absurd (omega arith)
word-of-field (suc k) l j h = go (ℕ_discrete j k) (word-of-field k l j)
  where
    go : Dec (j ≡ k) → (j < k → word_at (field_bytes k l) (5 * j) ≡ word_by (field_value (field_at l j)))
        → word_at (field_bytes (suc k) l) (5 * j) ≡ word_by (field_value (field_at l j))
    go (yes q) earlier = subst (λ (i : ℕ). word_at (field_bytes (suc k) l) (5 * i) ≡ word_by (field_value (field_at l i))) (sym q) (last_word k l)
    go (no n) earlier = let m : j < k = omega arith in earlier_word k l j m ∙ earlier m

-- Each of a set line's values is read back from its bytes, of its kind or an err.
pub bytes-valued : (kinds : List ℕ) (k : ℕ) (l : List ℕ) → fields_well kinds k l ≡ true → (j : ℕ) → j < k
    → is_some (of_kind (get_or kinds j 0) (value_of (word_at (field_bytes k l) (5 * j)))) ≡ true
bytes-valued kinds k l e j h =
    ap (λ (o : Option Value). is_some (of_kind (get_or kinds j 0) o)) (ap value_of (word-of-field k l j h) ∙ field-word (field_at l j))
    ∙ wells-at kinds k l e j h
