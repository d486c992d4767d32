-- Laws of the byte form (specs/Bytes): a value and its word determine each other, a word and its five bytes too, and
-- storing a word changes those five bytes alone. Assumes nothing.
use mathlib.Core.Path.{◌≡◌, refl, sym, ap, ◌∙◌}
use mathlib.Core.Bool.{Bool, true, false, cond, ◌&&◌, false≢true}
use mathlib.Core.Logic.{◌⊎◌, inl, inr, ⊎_elim}
use mathlib.Core.List.{List, [], ◌∷◌, ◌++◌, append_assoc}
use mathlib.Core.Option.{Option, some, none, some-injective, none-ne-some}
use Prim.Native.Nat.{ℕ, zero, suc, ◌+◌, ◌*◌, ◌/◌, ◌%◌, ◌≤◌, ◌<◌}
use native.Mathlib.Omega.{arith}
use native.Mathlib.Nat.{add-zero, div-div-eq-div-mul, div-add-mod', mod-eq_of_lt}
use borrow.Author.Tests.{ne_eqb, lt-ltb, le-ltb, eqb-true, ltb-true, ltb-false}
use lib.Dec.{eqb, ltb}
use lib.IntN.{ℤ}
use lib.Ieee.{Float, binary32, of_bits, to_bits}
use lib.Ieee.Scale.{finite}
use lib.Ieee.Bits.{of_bits-to_bits, to_bits-of_bits}
use lib.ListN.{length, set, get_or, take, drop}
use lib.Seq.{sets, length-sets, sets-eq, get_or-drop, drop_at, length-take-le, get_or-set_other}
use mir.Syntax.{w32}
use mir.Val.{Fits, SFits, to_z, of_z}
use mir.Facts.{to_z-of_z, of_z-to_z, Fits-of_z, sfits_to_z}
use Rattle.value.specs.declared.Reason.{Reason}
use Rattle.value.specs.declared.Reason.TheVariants.{ZeroDivisor, OutOfRange, Other}
use Rattle.value.specs.declared.Value.{Value}
use Rattle.value.specs.declared.Value.TheVariants.{Whole, Truth, Err, Real}
use Rattle.value.specs.declared.ValueKind.{ValueKind}
use Rattle.value.specs.Operators.{pick, is_real, real_of}
use Rattle.value.specs.declared.ValueKind.TheVariants.{Whole as whole-kind, Truth as truth-kind, Real as real-kind}
use Rattle.value.specs.Kinds.{suits, kind_of_letter, of_kind}
use Rattle.value.specs.Bytes.{InRange, tag_of, bits_of, bit_of, reason_bits, word_of, value_of, whole_of, truth_of, err_of, float_of, is_some, word_bytes, word_at, stored}
use Rattle.value.proofs.Floats.{finite-bits, pattern-fits, bits_below, real-parts, real-no-nan}

-- ---- the tests of the code

module _ (w : ℕ) where
  pub whole-valid : w % 256 ≡ 1 → ltb (w / 256) 4294967296 ≡ is_some (value_of w)
  unfolding value_of
  whole-valid h = rw h (go (ltb (w / 256) 4294967296))
    where
      go : (t : Bool) → t ≡ is_some (pick t (some (Whole (to_z w32 (w / 256)))) none)
      go true = refl
      go false = refl

  pub truth-valid : w % 256 ≡ 2 → ltb (w / 256) 2 ≡ is_some (value_of w)
  unfolding value_of
  truth-valid h = rw h (go (w / 256))
    where
      go : (n : ℕ) → ltb n 2 ≡ is_some (pick (eqb n 0) (some (Truth false)) (pick (eqb n 1) (some (Truth true)) none))
      go zero = refl
      go (suc zero) = refl
      go (suc (suc n)) = simp (le-ltb (suc (suc n)) 2 (omega arith), ne_eqb (suc (suc n)) 0 (λ e. omega arith), ne_eqb (suc (suc n)) 1 (λ e. omega arith))

  pub err-valid : w % 256 ≡ 3 → ltb (w / 256) 3 ≡ is_some (value_of w)
  unfolding value_of
  err-valid h = rw h (go (w / 256))
    where
      go : (n : ℕ) → ltb n 3 ≡ is_some (pick (eqb n 0) (some (Err Other)) (pick (eqb n 1) (some (Err ZeroDivisor)) (pick (eqb n 2) (some (Err OutOfRange)) none)))
      go zero = refl
      go (suc zero) = refl
      go (suc (suc zero)) = refl
      go (suc (suc (suc n))) =
          simp (le-ltb (suc (suc (suc n))) 3 (omega arith), ne_eqb (suc (suc (suc n))) 0 (λ e. omega arith), ne_eqb (suc (suc (suc n))) 1 (λ e. omega arith), ne_eqb (suc (suc (suc n))) 2 (λ e. omega arith))

  pub float-valid : w % 256 ≡ 4 → is_some (float_of (w / 256)) ≡ is_some (value_of w)
  unfolding value_of
  float-valid h = rw h refl

  pub no-tag : (w % 256 ≡ 1 → ⊥) → (w % 256 ≡ 2 → ⊥) → (w % 256 ≡ 3 → ⊥) → (w % 256 ≡ 4 → ⊥) → value_of w ≡ none
  unfolding value_of
  no-tag p q r s = simp (ne_eqb (w % 256) 1 p, ne_eqb (w % 256) 2 q, ne_eqb (w % 256) 3 r, ne_eqb (w % 256) 4 s)

  pub tag-valid : (w % 256 ≡ 1 → ⊥) → (w % 256 ≡ 2 → ⊥) → (w % 256 ≡ 3 → ⊥) → (w % 256 ≡ 4 → ⊥) → false ≡ is_some (value_of w)
  tag-valid p q r s = rw (no-tag p q r s) refl

-- Which bits are the pattern of a finite number.
module _ (bits : ℕ) where
  pub pattern-small : bits < 4294967296 → ltb (bits % 2147483648) 2139095040 ≡ is_some (float_of bits)
  unfolding float_of
  pattern-small l = rw (lt-ltb bits 4294967296 l) (sym (finite-bits bits) ∙ go (finite (of_bits binary32 bits)))
    where
      go : (t : Bool) → t ≡ is_some (pick t (some (Real (of_bits binary32 bits))) none)
      go true = refl
      go false = refl

  pub pattern-large : 4294967296 ≤ bits → float_of bits ≡ none
  unfolding float_of
  pattern-large l = rw (le-ltb bits 4294967296 l) refl

  pub pattern-finite : bits < 4294967296 → finite (of_bits binary32 bits) ≡ true → float_of bits ≡ some (Real (of_bits binary32 bits))
  unfolding float_of
  pattern-finite l f = rw (lt-ltb bits 4294967296 l, f) refl

  pub pattern-infinite : finite (of_bits binary32 bits) ≡ false → float_of bits ≡ none
  unfolding float_of
  pattern-infinite f = rw f (go (ltb bits 4294967296))
    where
      go : (t : Bool) → pick (t && false) (some (Real (of_bits binary32 bits))) none ≡ none
      go true = refl
      go false = refl

-- What the code's test of a pattern tells.
pub pattern-some : (bits : ℕ) → is_some (float_of bits) ≡ true
    → (bits < 4294967296) × (bits % 2147483648 < 2139095040) × (float_of bits ≡ some (Real (of_bits binary32 bits)))
pattern-some bits h = go (ltb bits 4294967296) refl (finite (of_bits binary32 bits)) refl
  where
    wrong : {o : Option Value} → float_of bits ≡ o → is_some o ≡ false → ⊥
    wrong e n = false≢true (sym n ∙ ap is_some (sym e) ∙ h)

    go : (t : Bool) → ltb bits 4294967296 ≡ t → (u : Bool) → finite (of_bits binary32 bits) ≡ u
        → (bits < 4294967296) × (bits % 2147483648 < 2139095040) × (float_of bits ≡ some (Real (of_bits binary32 bits)))
    go true p true q =
        let l = ltb-true bits 4294967296 p in
        (l, ltb-true (bits % 2147483648) 2139095040 (sym (finite-bits bits) ∙ q), pattern-finite bits l q)
    go true p false q = absurd (wrong (pattern-infinite bits q) refl)
    go false p u q = absurd (wrong (pattern-large bits (ltb-false bits 4294967296 p)) refl)

pub pattern-none : (bits : ℕ) → is_some (float_of bits) ≡ false → float_of bits ≡ none
pattern-none bits h = go (float_of bits) refl
  where
    go : (o : Option Value) → float_of bits ≡ o → float_of bits ≡ none
    go none e = e
    go (some v) e = absurd (false≢true (sym h ∙ ap is_some e))

-- ---- the test of a kind

err-suits : (k : ValueKind) (r : Reason) → suits k (Err r) ≡ true
err-suits whole-kind r = refl
err-suits truth-kind r = refl
err-suits real-kind r = refl

err-kept : (letter : ℕ) (r : Reason) → of_kind letter (some (Err r)) ≡ some (Err r)
unfolding of_kind
err-kept letter r = ap (λ (b : Bool). pick b (some (Err r)) none) (err-suits (kind_of_letter letter) r)

module _ (w : ℕ) where
  pub tag_one : w % 256 ≡ 1 → value_of w ≡ whole_of (w / 256)
  unfolding value_of
  tag_one h = rw h refl

  pub tag-two : w % 256 ≡ 2 → value_of w ≡ truth_of (w / 256)
  unfolding value_of
  tag-two h = rw h refl

  pub tag-four : w % 256 ≡ 4 → value_of w ≡ float_of (w / 256)
  unfolding value_of
  tag-four h = rw h refl

  -- An err suits every kind.
  errs-suit : (letter : ℕ) → w % 256 ≡ 3 → of_kind letter (value_of w) ≡ value_of w
  unfolding of_kind value_of err_of
  errs-suit letter h = rw h (go (eqb (w / 256) 0) (eqb (w / 256) 1) (eqb (w / 256) 2))
    where
      go : (a b c : Bool) → of_kind letter (pick a (some (Err Other)) (pick b (some (Err ZeroDivisor)) (pick c (some (Err OutOfRange)) none)))
          ≡ pick a (some (Err Other)) (pick b (some (Err ZeroDivisor)) (pick c (some (Err OutOfRange)) none))
      go true b c = err-kept letter Other
      go false true c = err-kept letter ZeroDivisor
      go false false true = err-kept letter OutOfRange
      go false false false = refl

  pub err-of-kind : (letter : ℕ) → w % 256 ≡ 3 → ltb (w / 256) 3 ≡ is_some (of_kind letter (value_of w))
  err-of-kind letter h = err-valid w h ∙ ap is_some (sym (errs-suit letter h))

  pub tag-of-kind : (letter : ℕ) → (w % 256 ≡ 1 → ⊥) → (w % 256 ≡ 2 → ⊥) → (w % 256 ≡ 3 → ⊥) → (w % 256 ≡ 4 → ⊥) → false ≡ is_some (of_kind letter (value_of w))
  unfolding of_kind
  tag-of-kind letter p q r s = rw (no-tag w p q r s) refl

module _ (letter bits : ℕ) where
  pub whole-not-truth : letter ≡ 84 → false ≡ is_some (of_kind letter (whole_of bits))
  unfolding of_kind whole_of
  whole-not-truth e = rw e (go (ltb bits 4294967296))
    where
      go : (b : Bool) → false ≡ is_some (of_kind 84 (pick b (some (Whole (to_z w32 bits))) none))
      go true = refl
      go false = refl

  pub whole-not-real : letter ≡ 82 → false ≡ is_some (of_kind letter (whole_of bits))
  unfolding of_kind whole_of
  whole-not-real e = rw e (go (ltb bits 4294967296))
    where
      go : (b : Bool) → false ≡ is_some (of_kind 82 (pick b (some (Whole (to_z w32 bits))) none))
      go true = refl
      go false = refl

  pub whole-of-kind : (letter ≡ 84 → ⊥) → (letter ≡ 82 → ⊥) → ltb bits 4294967296 ≡ is_some (of_kind letter (whole_of bits))
  unfolding of_kind whole_of
  whole-of-kind n m = go (ltb bits 4294967296)
    where
      go : (b : Bool) → b ≡ is_some (of_kind letter (pick b (some (Whole (to_z w32 bits))) none))
      go true = rw (ne_eqb letter 84 n, ne_eqb letter 82 m) refl
      go false = refl

  pub truth-of-kind : letter ≡ 84 → ltb bits 2 ≡ is_some (of_kind letter (truth_of bits))
  unfolding of_kind truth_of
  truth-of-kind e = rw e (go bits)
    where
      go : (n : ℕ) → ltb n 2 ≡ is_some (of_kind 84 (pick (eqb n 0) (some (Truth false)) (pick (eqb n 1) (some (Truth true)) none)))
      go zero = refl
      go (suc zero) = refl
      go (suc (suc n)) = simp (le-ltb (suc (suc n)) 2 (omega arith), ne_eqb (suc (suc n)) 0 (λ e. omega arith), ne_eqb (suc (suc n)) 1 (λ e. omega arith))

  pub truth-not-whole : (letter ≡ 84 → ⊥) → false ≡ is_some (of_kind letter (truth_of bits))
  unfolding of_kind truth_of
  truth-not-whole n = go (eqb bits 0) (eqb bits 1)
    where
      none-suits : (x t : Bool) → suits (cond false truth-kind (cond t real-kind whole-kind)) (Truth x) ≡ false
      none-suits x true = refl
      none-suits x false = refl

      go : (a b : Bool) → false ≡ is_some (of_kind letter (pick a (some (Truth false)) (pick b (some (Truth true)) none)))
      go true b = rw (ne_eqb letter 84 n, none-suits false (eqb letter 82)) refl
      go false true = rw (ne_eqb letter 84 n, none-suits true (eqb letter 82)) refl
      go false false = refl

  pub real-of-kind : letter ≡ 82 → is_some (float_of bits) ≡ is_some (of_kind letter (float_of bits))
  unfolding of_kind float_of
  real-of-kind e = rw e (go (ltb bits 4294967296 && finite (of_bits binary32 bits)))
    where
      go : (b : Bool) → is_some (pick b (some (Real (of_bits binary32 bits))) none) ≡ is_some (of_kind 82 (pick b (some (Real (of_bits binary32 bits))) none))
      go true = refl
      go false = refl

  pub real-of-none : (letter ≡ 82 → ⊥) → false ≡ is_some (of_kind letter (float_of bits))
  unfolding of_kind float_of
  real-of-none n = go (ltb bits 4294967296 && finite (of_bits binary32 bits)) (eqb letter 84) refl
    where
      none-suits : (t : Bool) → suits (cond t truth-kind (cond false real-kind whole-kind)) (Real (of_bits binary32 bits)) ≡ false
      none-suits true = refl
      none-suits false = refl

      go : (b t : Bool) → eqb letter 84 ≡ t → false ≡ is_some (of_kind letter (pick b (some (Real (of_bits binary32 bits))) none))
      go true t e = rw (ne_eqb letter 82 n, none-suits (eqb letter 84)) refl
      go false t e = refl

pub stores : (l : List ℕ) (i a b c d e : ℕ) → set (set (set (set (set l i a) (i + 1) b) (i + 2) c) (i + 3) d) (i + 4) e ≡ sets l i (a ∷ b ∷ c ∷ d ∷ e ∷ [])
stores l i a b c d e =
    let p1 : i + 1 ≡ suc i = omega arith in
    let p2 : i + 2 ≡ suc (suc i) = omega arith in
    let p3 : i + 3 ≡ suc (suc (suc i)) = omega arith in
    let p4 : i + 4 ≡ suc (suc (suc (suc i))) = omega arith in
    rw (p1, p2, p3, p4) refl

-- ---- a value and its word

whole_word : (n : ℕ) → n < 4294967296 → value_of (1 + 256 * n) ≡ some (Whole (to_z w32 n))
unfolding value_of
whole_word n h =
    let t : (1 + 256 * n) % 256 ≡ 1 = omega arith in
    let b : (1 + 256 * n) / 256 ≡ n = omega arith in
    rw (t, b) (simp (lt-ltb n 4294967296 h))

float_word : (n : ℕ) → float_of n ≡ value_of (4 + 256 * n)
unfolding value_of
float_word n =
    let t : (4 + 256 * n) % 256 ≡ 4 = omega arith in
    let b : (4 + 256 * n) / 256 ≡ n = omega arith in
    rw (t, b) refl

-- the word of a finite float
pub real-word-is : (x : Float) → is_real x ≡ true → word_of (Real x) ≡ 4 + 256 * to_bits binary32 x
unfolding word_of real_of
real-word-is x h = rw h refl

real-of-word : (x : Float) → is_real x ≡ true → value_of (4 + 256 * to_bits binary32 x) ≡ some (Real x)
real-of-word x h =
    let p = real-parts x h in
    let back : of_bits binary32 (to_bits binary32 x) ≡ x = of_bits-to_bits binary32 x (rw p.1 tt) in
    sym (float_word (to_bits binary32 x))
    ∙ pattern-finite (to_bits binary32 x) (bits_below x p.1) (ap finite back ∙ p.0)
    ∙ ap (λ (y : Float). some (Real y)) back

-- the word of a value is read back as the value
pub value-of-word : (v : Value) → InRange v → value_of (word_of v) ≡ some v
unfolding word_of value_of
value-of-word (Whole z) h =
    let f : SFits w32 z = record { sfits = h } in
    whole_word (of_z w32 z) (Fits-of_z f).fits ∙ ap (λ (y : ℤ). some (Whole y)) (to_z-of_z f)
value-of-word (Truth true) h = refl
value-of-word (Truth false) h = refl
value-of-word (Real x) h = ap value_of (real-word-is x h) ∙ real-of-word x h
value-of-word (Err Other) h = refl
value-of-word (Err ZeroDivisor) h = refl
value-of-word (Err OutOfRange) h = refl

-- A word that is a value's byte form, by its tag.
pub data Form (w : ℕ) (v : Value) : Type 0 where
  is_whole : w % 256 ≡ 1 → w / 256 < 4294967296 → v ≡ Whole (to_z w32 (w / 256)) → Form w v
  is-truth : (b : Bool) → w ≡ 2 + 256 * bit_of b → v ≡ Truth b → Form w v
  is_err : (r : Reason) → w ≡ 3 + 256 * reason_bits r → v ≡ Err r → Form w v
  is-float : w % 256 ≡ 4 → w / 256 < 4294967296 → finite (of_bits binary32 (w / 256)) ≡ true → v ≡ Real (of_bits binary32 (w / 256)) → Form w v

never : {v : Value} → ◌≡◌ {A = Option Value} none (some v) → ⊥
never {v} h = none-ne-some v h

same : {u v : Value} → ◌≡◌ {A = Option Value} (some u) (some v) → v ≡ u
same {u} {v} h = sym (some-injective u v h)

module _ (w : ℕ) (v : Value) where
  whole-form : w % 256 ≡ 1 → (t : Bool) → ltb (w / 256) 4294967296 ≡ t → pick t (some (Whole (to_z w32 (w / 256)))) none ≡ some v → Form w v
  whole-form e true l h = is_whole e (ltb-true (w / 256) 4294967296 l) (same h)
  whole-form e false l h = absurd (never h)

  truth-form : w % 256 ≡ 2 → (s : Bool) → eqb (w / 256) 0 ≡ s → (t : Bool) → eqb (w / 256) 1 ≡ t → pick s (some (Truth false)) (pick t (some (Truth true)) none) ≡ some v → Form w v
  truth-form e true p t q h = is-truth false (omega (arith, eqb-true (w / 256) 0 p)) (same h)
  truth-form e false p true q h = is-truth true (omega (arith, eqb-true (w / 256) 1 q)) (same h)
  truth-form e false p false q h = absurd (never h)

  err-form : w % 256 ≡ 3 → (a : Bool) → eqb (w / 256) 0 ≡ a → (b : Bool) → eqb (w / 256) 1 ≡ b → (c : Bool) → eqb (w / 256) 2 ≡ c
      → pick a (some (Err Other)) (pick b (some (Err ZeroDivisor)) (pick c (some (Err OutOfRange)) none)) ≡ some v → Form w v
  err-form e true p b q c r h = is_err Other (omega (arith, eqb-true (w / 256) 0 p)) (same h)
  err-form e false p true q c r h = is_err ZeroDivisor (omega (arith, eqb-true (w / 256) 1 q)) (same h)
  err-form e false p false q true r h = is_err OutOfRange (omega (arith, eqb-true (w / 256) 2 r)) (same h)
  err-form e false p false q false r h = absurd (never h)

  float_form : w % 256 ≡ 4 → (a : Bool) → ltb (w / 256) 4294967296 ≡ a → (b : Bool) → finite (of_bits binary32 (w / 256)) ≡ b
      → pick (a && b) (some (Real (of_bits binary32 (w / 256)))) none ≡ some v → Form w v
  float_form e true p true q h = is-float e (ltb-true (w / 256) 4294967296 p) q (same h)
  float_form e true p false q h = absurd (never h)
  float_form e false p b q h = absurd (never h)

  pub form : value_of w ≡ some v → Form w v
  unfolding value_of
  form = go (eqb (w % 256) 1) refl (eqb (w % 256) 2) refl (eqb (w % 256) 3) refl (eqb (w % 256) 4) refl
    where
      go : (a : Bool) → eqb (w % 256) 1 ≡ a → (b : Bool) → eqb (w % 256) 2 ≡ b → (c : Bool) → eqb (w % 256) 3 ≡ c → (d : Bool) → eqb (w % 256) 4 ≡ d
          → pick a (whole_of (w / 256)) (pick b (truth_of (w / 256)) (pick c (err_of (w / 256)) (pick d (float_of (w / 256)) none))) ≡ some v → Form w v
      go true p b q c r d s h = whole-form (eqb-true (w % 256) 1 p) _ refl h
      go false p true q c r d s h = truth-form (eqb-true (w % 256) 2 q) _ refl _ refl h
      go false p false q true r d s h = err-form (eqb-true (w % 256) 3 r) _ refl _ refl _ refl h
      go false p false q false r true s h = float_form (eqb-true (w % 256) 4 s) _ refl _ refl h
      go false p false q false r false s h = absurd (never h)

pattern-real : (n : ℕ) → finite (of_bits binary32 n) ≡ true → is_real (of_bits binary32 n) ≡ true
pattern-real n f = rw (f, pattern-fits n) refl

-- a pattern is that of its float
pub pattern-back : (n : ℕ) → n < 4294967296 → finite (of_bits binary32 n) ≡ true → to_bits binary32 (of_bits binary32 n) ≡ n
pattern-back n l f = to_bits-of_bits binary32 n l (rw (real-no-nan (of_bits binary32 n) (pattern-real n f)) tt)

word-of-form : (w : ℕ) (v : Value) → Form w v → w ≡ word_of v
unfolding word_of
word-of-form w v (is_whole e l p) =
    let f : Fits w32 (w / 256) = record { fits = l } in
    rw (p, of_z-to_z f) (omega arith)
word-of-form w v (is-truth b e p) = rw p e
word-of-form w v (is_err r e p) = rw p e
word-of-form w v (is-float e l f p) =
    let back : to_bits binary32 (of_bits binary32 (w / 256)) ≡ w / 256 = pattern-back (w / 256) l f in
    let whole : w ≡ 4 + 256 * (w / 256) = omega arith in
    whole ∙ ap (λ (z : ℕ). 4 + 256 * z) (sym back) ∙ sym (real-word-is (of_bits binary32 (w / 256)) (pattern-real (w / 256) f)) ∙ ap word_of (sym p)

in-range-of-form : (w : ℕ) (v : Value) → Form w v → InRange v
in-range-of-form w v (is_whole e l p) =
    let f : Fits w32 (w / 256) = record { fits = l } in
    rw p (sfits_to_z f).sfits
in-range-of-form w v (is-truth b e p) = rw p tt
in-range-of-form w v (is_err r e p) = rw p tt
in-range-of-form w v (is-float e l f p) = rw p (pattern-real (w / 256) f)

-- a value has one word only
pub word-of-value : (w : ℕ) (v : Value) → value_of w ≡ some v → w ≡ word_of v
word-of-value w v h = word-of-form w v (form w v h)

pub value-in-range : (w : ℕ) (v : Value) → value_of w ≡ some v → InRange v
value-in-range w v h = in-range-of-form w v (form w v h)

-- the word 0 is no value
pub no_value : value_of 0 ≡ none
unfolding value_of
no_value = refl

pub word-pos : (v : Value) → 1 ≤ word_of v
unfolding word_of
word-pos (Whole z) = omega arith
word-pos (Truth b) = omega arith
word-pos (Err r) = omega arith
word-pos (Real x) = go (is_real x)
  where
    go : (t : Bool) → 1 ≤ tag_of (pick t (Real x) (Err OutOfRange)) + 256 * bits_of (pick t (Real x) (Err OutOfRange))
    go true = omega arith
    go false = omega arith

pub word_lt : (v : Value) → InRange v → word_of v < 1099511627776
unfolding word_of
word_lt (Whole z) h =
    let f : SFits w32 z = record { sfits = h } in
    omega (arith, (Fits-of_z f).fits)
word_lt (Truth true) h = omega arith
word_lt (Truth false) h = omega arith
word_lt (Real x) h = omega (arith, real-word-is x h, bits_below x (real-parts x h).1)
word_lt (Err Other) h = omega arith
word_lt (Err ZeroDivisor) h = omega arith
word_lt (Err OutOfRange) h = omega arith

-- ---- a word and its bytes

combine : (w q1 q2 q3 q4 r0 r1 r2 r3 r4 : ℕ) → q1 * 256 + r0 ≡ w → q2 * 256 + r1 ≡ q1 → q3 * 256 + r2 ≡ q2 → q4 * 256 + r3 ≡ q3 → r4 ≡ q4
    → r0 + 256 * r1 + 65536 * r2 + 16777216 * r3 + 4294967296 * r4 ≡ w
combine w q1 q2 q3 q4 r0 r1 r2 r3 r4 e0 e1 e2 e3 e4 = omega arith

word-of-bytes : (w : ℕ) → w < 1099511627776 → w % 256 + 256 * (w / 256 % 256) + 65536 * (w / 65536 % 256) + 16777216 * (w / 16777216 % 256) + 4294967296 * (w / 4294967296 % 256) ≡ w
word-of-bytes w h =
    combine w (w / 256) (w / 65536) (w / 16777216) (w / 4294967296) (w % 256) (w / 256 % 256) (w / 65536 % 256) (w / 16777216 % 256) (w / 4294967296 % 256)
    (div-add-mod' w 256)
    (rw (div-div-eq-div-mul w 256 256) at (div-add-mod' (w / 256) 256))
    (rw (div-div-eq-div-mul w 65536 256) at (div-add-mod' (w / 65536) 256))
    (rw (div-div-eq-div-mul w 16777216 256) at (div-add-mod' (w / 16777216) 256))
    (mod-eq_of_lt (omega arith))

-- five bytes read one by one make the word
pub word_read : (l : List ℕ) (at a b c d e : ℕ) → a ≡ get_or l at 0 → b ≡ get_or l (at + 1) 0 → c ≡ get_or l (at + 2) 0 → d ≡ get_or l (at + 3) 0 → e ≡ get_or l (at + 4) 0
    → a + 256 * b + 65536 * c + 16777216 * d + 4294967296 * e ≡ word_at l at
unfolding word_at
word_read l at a b c d e p q r s t = rw (p, q, r, s, t) refl

word-drop : (l : List ℕ) (at : ℕ) → word_at l at ≡ word_at (drop at l) 0
unfolding word_at
word-drop l at = rw (get_or-drop at l 0 0, get_or-drop at l 1 0, get_or-drop at l 2 0, get_or-drop at l 3 0, get_or-drop at l 4 0, add-zero at) refl

sets-other : (vs l : List ℕ) (at i : ℕ) → (i < at) ⊎ (at + length vs ≤ i) → get_or (sets l at vs) i 0 ≡ get_or l i 0
sets-other [] l at i h = refl
sets-other (v ∷ vs) l at i h =
    sets-other vs (set l at v) (suc at) i (⊎_elim (λ (x : i < at). inl (omega arith)) (λ (x : at + suc (length vs) ≤ i). inr (omega arith)) h)
    ∙ get_or-set_other l at i v 0 (λ e. ⊎_elim (λ (x : i < at). omega arith) (λ (x : at + suc (length vs) ≤ i). omega arith) h)

module _ (l : List ℕ) (at w : ℕ) where
  pub length-stored : length (stored l at w) ≡ length l
  unfolding stored
  length-stored = length-sets l at (word_bytes w)

  -- the parts before and after are as they were
  pub stored-parts : at + 5 ≤ length l → stored l at w ≡ take at l ++ (word_bytes w ++ drop (at + 5) l)
  unfolding stored
  stored-parts h = sets-eq (word_bytes w) l at h ∙ append_assoc (take at l) (word_bytes w) (drop (at + 5) l)

  -- reading back the stored bytes gives the word
  pub word-stored : at + 5 ≤ length l → w < 1099511627776 → word_at (stored l at w) at ≡ w
  unfolding word_at word_bytes
  word-stored h b =
      word-drop (stored l at w) at
      ∙ ap (λ (s : List ℕ). word_at (drop at s) 0) (stored-parts h)
      ∙ ap (λ (s : List ℕ). word_at s 0) (drop_at (take at l) (word_bytes w ++ drop (at + 5) l) at (length-take-le at l (omega arith)))
      ∙ word-of-bytes w b

  byte-kept : (i : ℕ) → (i < at) ⊎ (at + 5 ≤ i) → get_or (stored l at w) i 0 ≡ get_or l i 0
  unfolding stored
  byte-kept i h = sets-other (word_bytes w) l at i h

  pub byte-before : (i : ℕ) → i < at → get_or (stored l at w) i 0 ≡ get_or l i 0
  byte-before i h = byte-kept i (inl h)

  pub byte-after : (i : ℕ) → at + 5 ≤ i → get_or (stored l at w) i 0 ≡ get_or l i 0
  byte-after i h = byte-kept i (inr h)

  -- words that lie wholly before or after it are as they were
  pub word-before : (j : ℕ) → j + 5 ≤ at → word_at (stored l at w) j ≡ word_at l j
  unfolding word_at
  word-before j h = rw (byte-before j (omega arith), byte-before (j + 1) (omega arith), byte-before (j + 2) (omega arith), byte-before (j + 3) (omega arith), byte-before (j + 4) (omega arith)) refl

  pub word_after : (j : ℕ) → at + 5 ≤ j → word_at (stored l at w) j ≡ word_at l j
  unfolding word_at
  word_after j h = rw (byte-after j h, byte-after (j + 1) (omega arith), byte-after (j + 2) (omega arith), byte-after (j + 3) (omega arith), byte-after (j + 4) (omega arith)) refl
