-- Laws of specs/FieldTexts.antt, and what only they need.
use Rattle.std.specs.Prelude.{ℕ, zero, suc, ◌+◌, ◌*◌, ◌-◌, ◌/◌, ◌%◌, ◌≤◌, ◌≡◌, ◌⊎◌, Bool, true, false, cond, ◌&&◌, List, [], ◌∷◌, ◌++◌, eqb, leb, length, get_or, take, drop, replicate, Some, None}
use Rattle.std.proofs.Math.Path.{refl}
use Rattle.std.proofs.Common.{sym, ap, ◌∙◌, inl, inr, length-drop, take-append-drop, drop_of_length-le, take-suc, length-take-le, drop-drop, drop-cons, eqb-true, leb-true, arith}
use Rattle.std.proofs.lemmas.Bool.{false≢true, eqb-false}
use Rattle.std.proofs.Math.Seq.{take-length}
use Rattle.formula.specs.Results.{Field}
use Rattle.formula.specs.Sheet.{is_digit, digits_of, zero_of, field_of, field_text, number_in}
use Rattle.formula.specs.SheetLaws.{line_fields}
use Rattle.formula.specs.Tests.{well_formed}
use Rattle.formula.proofs.TreeLaws.{and-true}
use Rattle.text.specs.Printed.{shown, number_field}
use Rattle.text.proofs.PrintLaws.{led-spaces, shown-last, shown-more}
use Rattle.sheet_tidied.specs.Text.{row_text}
use Rattle.sheet_tidied.specs.FieldTexts.{LastDigit, Ending}

no_number : (v : ℕ) → None ≡ Some v → ⊥
no_number v h = let z : ◌≡◌ {A = ℕ} 0 1 = cc h in omega arith

-- ---- the last character of a field
digit-range : (b : ℕ) → is_digit b ≡ true → (48 ≤ b) × (b ≤ 57)
digit-range b h = let e = and-true (leb 48 b) (leb b 57) h in (leb-true 48 b e.0, leb-true b 57 e.1)

last-digit : (s : List ℕ) (w b v : ℕ) → digits_of w (s ++ (b ∷ [])) ≡ Some v → LastDigit w s b v
unfolding digits_of
last-digit [] w b v h = go (is_digit b) refl h
  where
    go : (x : Bool) → is_digit b ≡ x → cond x (Some (w * 10 + (b - 48))) None ≡ Some v → LastDigit w [] b v
    go true e i = record { before = w; front = refl; grown = omega arith; digit = digit-range b e; value = sym (cc i) }
    go false e i = absurd (no_number v i)
last-digit (c ∷ s) w b v h = go (is_digit c) refl h (last-digit s (w * 10 + (c - 48)) b v)
  where
    go : (x : Bool) → is_digit c ≡ x → cond x (digits_of (w * 10 + (c - 48)) (s ++ (b ∷ []))) None ≡ Some v
        → (digits_of (w * 10 + (c - 48)) (s ++ (b ∷ [])) ≡ Some v → LastDigit (w * 10 + (c - 48)) s b v) → LastDigit w (c ∷ s) b v
    go true e i ih =
        let f = ih i in
        record { before = f.before; front = rw e f.front; grown = omega (arith, f.grown); digit = f.digit; value = f.value }
    go false e i ih = absurd (no_number v i)

zero-alone : (s : List ℕ) (b v : ℕ) → zero_of (s ++ (b ∷ [])) ≡ Some v → ⊥
unfolding zero_of
zero-alone [] b v h = no_number v h
zero-alone (c ∷ s) b v h = no_number v h

space-before : (c : ℕ) (s : List ℕ) (b v : ℕ) → eqb c 32 ≡ true → Ending s b v → Ending (c ∷ s) b v
unfolding field_of
space-before c s b v d h = record { digit = h.digit; front = go h.front }
  where
    go : ((s ≡ replicate (length s) 32) × (v ≡ b - 48)) ⊎ ((n : ℕ) × (field_of s ≡ Some n) × (1 ≤ n) × (v ≡ n * 10 + (b - 48)))
        → ((c ∷ s ≡ 32 ∷ replicate (length s) 32) × (v ≡ b - 48)) ⊎ ((n : ℕ) × (field_of (c ∷ s) ≡ Some n) × (1 ≤ n) × (v ≡ n * 10 + (b - 48)))
    go (inl e) = inl (cc (eqb-true c 32 d, e.0), e.1)
    go (inr e) = inr (e.0, rw d e.1, e.2, e.3)

ending : (s : List ℕ) (b v : ℕ) → field_of (s ++ (b ∷ [])) ≡ Some v → Ending s b v
unfolding field_of zero_of digits_of
ending [] b v h = go (eqb b 32) (eqb b 48) (is_digit b) refl refl refl h
  where
    go : (x y z : Bool) → eqb b 32 ≡ x → eqb b 48 ≡ y → is_digit b ≡ z
        → cond x None (cond y (Some 0) (cond z (Some (b - 48)) None)) ≡ Some v → Ending [] b v
    go true y z d e f i = absurd (no_number v i)
    go false true z d e f i =
        let k : b ≡ 48 = eqb-true b 48 e in
        let j : 0 ≡ v = cc i in
        record { digit = (omega arith, omega arith); front = inl (refl, omega arith) }
    go false false true d e f i = record { digit = digit-range b f; front = inl (refl, sym (cc i)) }
    go false false false d e f i = absurd (no_number v i)
ending (c ∷ s) b v h = go (eqb c 32) (eqb c 48) (is_digit c) refl refl refl h (ending s b v)
  where
    go : (x y z : Bool) → eqb c 32 ≡ x → eqb c 48 ≡ y → is_digit c ≡ z
        → cond x (field_of (s ++ (b ∷ []))) (cond y (zero_of (s ++ (b ∷ []))) (cond z (digits_of (c - 48) (s ++ (b ∷ []))) None)) ≡ Some v
        → (field_of (s ++ (b ∷ [])) ≡ Some v → Ending s b v) → Ending (c ∷ s) b v
    go true y z d e f i ih = space-before c s b v d (ih i)
    go false true z d e f i ih = absurd (zero-alone s b v i)
    go false false true d e f i ih =
        let k = last-digit s (c - 48) b v i in
        let l : 1 ≤ k.before = let n = eqb-false c 48 e in omega (arith, k.grown, (digit-range c f).0) in
        record { digit = k.digit; front = inr (k.before, rw (d, e, f) k.front, l, k.value) }
    go false false false d e f i ih = absurd (no_number v i)

-- ---- a field and a row
-- A well-formed field of w characters is its number right-justified in them.
printed : (w : ℕ) (s : List ℕ) (v : ℕ) → length s ≡ w → field_of s ≡ Some v → shown 32 w v ≡ s
unfolding field_of
printed zero [] v l h = absurd (no_number v h)
printed zero (c ∷ s) v l h = absurd (omega arith)
printed (suc w) s v l h = go (ending front last v (ap field_of (sym whole) ∙ h)) (printed w front)
  where
    front : List ℕ
    front = take w s

    last : ℕ
    last = get_or s w 0

    whole : s ≡ front ++ (last ∷ [])
    whole = sym (take-length s) ∙ ap (λ (n : ℕ). take n s) l ∙ take-suc s w 0 (omega arith)

    size : length front ≡ w
    size = length-take-le w s (omega arith)

    go : Ending front last v → ((n : ℕ) → length front ≡ w → field_of front ≡ Some n → shown 32 w n ≡ front) → shown 32 (suc w) v ≡ s
    go e ih = by e.front
      where
        by : ((front ≡ replicate (length front) 32) × (v ≡ last - 48)) ⊎ ((n : ℕ) × (field_of front ≡ Some n) × (1 ≤ n) × (v ≡ n * 10 + (last - 48))) → shown 32 (suc w) v ≡ s
        by (inl f) =
            let d : 48 + v % 10 ≡ last = omega (arith, e.digit.0, e.digit.1) in
            shown-last 32 w v (omega (arith, e.digit.0, e.digit.1))
            ∙ ap (λ (x : List ℕ). x ++ ((48 + v % 10) ∷ [])) (led-spaces w ∙ ap (λ (n : ℕ). replicate n 32) (sym size) ∙ sym f.0)
            ∙ ap (λ (x : ℕ). front ++ (x ∷ [])) d
            ∙ sym whole
        by (inr f) =
            let d : 48 + v % 10 ≡ last = omega (arith, f.3, e.digit.0, e.digit.1) in
            let q : v / 10 ≡ f.0 = omega (arith, f.3, e.digit.0, e.digit.1) in
            shown-more 32 w v (omega (arith, f.2, f.3))
            ∙ ap (λ (x : List ℕ). x ++ ((48 + v % 10) ∷ [])) (ap (shown 32 w) q ∙ ih f.0 size f.1)
            ∙ ap (λ (x : ℕ). front ++ (x ∷ [])) d
            ∙ sym whole

-- Six characters that are well formed are their number's.
pub field-printed : (s : List ℕ) (v : ℕ) → length s ≡ 6 → field_of s ≡ Some v → number_field v ≡ s
unfolding number_field
field-printed s v l h = printed 6 s v l h

-- Four tests before a last one.
all-five : (a b c d e : Bool) → a && b && c && d && e ≡ true → (a ≡ true) × (b ≡ true) × (c ≡ true) × (d ≡ true) × (e ≡ true)
all-five a b c d e h =
    let x = and-true (a && b && c && d) e h in
    let y = and-true (a && b && c) d x.0 in
    let z = and-true (a && b) c y.0 in
    let w = and-true a b z.0 in
    (w.0, w.1, z.1, y.1, x.1)

number_of : (f : Field) → well_formed f ≡ true → f ≡ Some (number_in f)
number_of (Some n) h = refl
number_of None h = absurd (false≢true h)

module _ (l : List ℕ) (size : length l ≡ 31) where
  six : (a : ℕ) → a + 6 ≤ 31 → length (take 6 (drop a l)) ≡ 6
  six a h = length-take-le 6 (drop a l) (rw (length-drop a l) (omega arith))

  part-printed : (a : ℕ) → a + 6 ≤ 31 → well_formed (field_of (take 6 (drop a l))) ≡ true → number_field (number_in (field_of (take 6 (drop a l)))) ≡ take 6 (drop a l)
  part-printed a h w = field-printed (take 6 (drop a l)) (number_in (field_of (take 6 (drop a l)))) (six a h) (number_of (field_of (take 6 (drop a l))) w)

  part-behind : (a b : ℕ) → a + 6 ≡ b → take 6 (drop a l) ++ drop b l ≡ drop a l
  part-behind a b e = ap (λ (x : List ℕ). take 6 (drop a l) ++ x) (ap (λ (n : ℕ). drop n l) (sym e) ∙ sym (drop-drop 6 a l)) ∙ take-append-drop 6 (drop a l)

  last-part : get_or l 30 0 ≡ 10 → 10 ∷ [] ≡ drop 30 l
  last-part f = sym (drop-cons l 30 0 (omega arith) ∙ rw (f, drop_of_length-le l {i = 31} (omega arith)) refl)

  -- A well-formed row with its line feed is the text of its five numbers.
  pub line-printed : (well_formed (field_of (field_text l 0))
      && well_formed (field_of (field_text l 1))
      && well_formed (field_of (field_text l 2))
      && well_formed (field_of (field_text l 3))
      && well_formed (field_of (field_text l 4))) ≡ true → get_or l 30 0 ≡ 10 → row_text (line_fields l) ≡ l
  unfolding row_text line_fields
  line-printed h f =
      let w = all-five (well_formed (field_of (field_text l 0))) (well_formed (field_of (field_text l 1))) (well_formed (field_of (field_text l 2))) (well_formed (field_of (field_text l 3))) (well_formed (field_of (field_text l 4))) h in
      rw (part-printed 0 (omega arith) w.0, part-printed 6 (omega arith) w.1, part-printed 12 (omega arith) w.2, part-printed 18 (omega arith) w.3, part-printed 24 (omega arith) w.4, last-part f, part-behind 24 30 refl, part-behind 18 24 refl, part-behind 12 18 refl, part-behind 6 12 refl)
      (take-append-drop 6 l)
