-- "bit for bit" (document 02, Job 9): the word of each operator's answer on two floats, whatever the floats: that of the IEEE answer, or of Z, or of V.
-- A float and its pattern determine each other by proofs/Words: `value-of-word`, `word-of-value`. Assumes nothing.
use Rattle.std.specs.Prelude.{ℕ, ◌+◌, ◌*◌, ◌≡◌, Bool, ◌&&◌, Float, T}
use Rattle.std.proofs.Math.Path.{refl}
use Rattle.std.proofs.Math.Bool.{true, false}
use Rattle.std.proofs.lemmas.Bool.{false≢true}
use Rattle.std.specs.Float.Ieee.{binary32, fits, add, sub, mul, div, neg, lt, eq, to_bits}
use Rattle.std.specs.Float.Ieee.Scale.{finite}
use Rattle.std.specs.Float.Ieee.Bits.{is_true}
use Rattle.std.specs.Float.Ieee.Fits.{add-fits, sub-fits, mul-fits, div-fits, neg-fits}
use Rattle.value.specs.declared.Reason.TheVariants.{ZeroDivisor, OutOfRange, Other}
use Rattle.value.specs.declared.Value.{Value}
use Rattle.value.specs.declared.Value.TheVariants.{Truth, Err, Real}
use Rattle.value.specs.Operators.{pick, is_zero_real, real_of, add_real, subtract_real, multiply_real, divide_real, less_real, equal_real, negate_real, apply}
use Rattle.value.specs.Bytes.{tag_of, bits_of, settled, word_of}

-- The word of an IEEE answer: its pattern behind tag 4; that of V, 515, where it "is no finite number".
abbrev pub answer_word : Float → ℕ
answer_word x = pick (finite x) (4 + 256 * to_bits binary32 x) 515

word-of-real : (x : Float) → T (fits binary32 x) → word_of (real_of x) ≡ answer_word x
unfolding word_of real_of
word-of-real x f = go (finite x) refl (fits binary32 x) (is_true (fits binary32 x) f)
  where
    go : (t : Bool) → finite x ≡ t → (u : Bool) → u ≡ true
        → tag_of (settled (pick (t && u) (Real x) (Err OutOfRange))) + 256 * bits_of (settled (pick (t && u) (Real x) (Err OutOfRange))) ≡ pick t (4 + 256 * to_bits binary32 x) 515
    go true e true h = rw (e, is_true (fits binary32 x) f) refl
    go true e false h = absurd (false≢true h)
    go false e true h = refl
    go false e false h = refl

zero_word : word_of (Err ZeroDivisor) ≡ 259
unfolding word_of
zero_word = refl

module _ (x y : Float) where
  pub sum-bytes : word_of (apply 1 (Real x) (Real y)) ≡ answer_word (add binary32 x y)
  unfolding apply add_real
  sum-bytes = word-of-real (add binary32 x y) (add-fits binary32 x y)

  pub difference-bytes : word_of (apply 2 (Real x) (Real y)) ≡ answer_word (sub binary32 x y)
  unfolding apply subtract_real
  difference-bytes = word-of-real (sub binary32 x y) (sub-fits binary32 x y)

  pub product-bytes : word_of (apply 3 (Real x) (Real y)) ≡ answer_word (mul binary32 x y)
  unfolding apply multiply_real
  product-bytes = word-of-real (mul binary32 x y) (mul-fits binary32 x y)

  -- 259 is the word of Z.
  pub quotient-bytes : word_of (apply 4 (Real x) (Real y)) ≡ pick (is_zero_real y) 259 (answer_word (div binary32 x y))
  unfolding apply divide_real
  quotient-bytes = go (is_zero_real y)
    where
      go : (t : Bool) → word_of (pick t (Err ZeroDivisor) (real_of (div binary32 x y))) ≡ pick t 259 (answer_word (div binary32 x y))
      go true = zero_word
      go false = word-of-real (div binary32 x y) (div-fits binary32 x y)

  pub remainder_is : apply 5 (Real x) (Real y) ≡ Err Other
  unfolding apply
  remainder_is = refl

  pub less-is : apply 6 (Real x) (Real y) ≡ Truth (lt x y)
  unfolding apply less_real
  less-is = refl

  pub equal_is : apply 7 (Real x) (Real y) ≡ Truth (eq x y)
  unfolding apply equal_real
  equal_is = refl

-- A float of the format, as every float of the code is.
pub negated-bytes : (x : Float) (b : Value) → T (fits binary32 x) → word_of (apply 11 (Real x) b) ≡ answer_word (neg x)
unfolding apply negate_real
negated-bytes x b f = word-of-real (neg x) (neg-fits binary32 x f)
