-- Tokens as words: which words true, false and the plain err have, and that a word which was read as a token is that token's word. Who cites these
-- names no case of a value, so a further one changes the proofs here alone. Assumes nothing.
use Prim.Native.Nat.{ℕ, ◌+◌, ◌*◌, ◌≤◌}
use mathlib.Core.Path.{◌≡◌, refl, sym}
use mathlib.Core.Bool.{Bool, true, false}
use mathlib.Core.Option.{Option, some, none}
use native.Mathlib.Omega.{arith}
use lib.Ieee.{Float}
use Rattle.value.specs.declared.Reason.TheVariants.{ZeroDivisor, OutOfRange, Other}
use Rattle.value.specs.declared.Value.{Value}
use Rattle.value.specs.declared.Value.TheVariants.{Whole, Truth, Err, Real}
use Rattle.value.specs.Operators.{pick, is_real, real_of}
use Rattle.value.specs.Senses.{err}
use Rattle.value.specs.Bytes.{tag_of, bits_of, word_of, value_of, is_some, decoded, word_or}
use Rattle.value.proofs.Words.{value-of-word, word-of-value, value-in-range, no_value}

-- a float's word is neither that of a truth nor of the plain err
float_word : (t : Bool) (x : Float) → (4 ≤ tag_of (pick t (Real x) (Err OutOfRange)) + 256 * bits_of (pick t (Real x) (Err OutOfRange)))
    × (tag_of (pick t (Real x) (Err OutOfRange)) + 256 * bits_of (pick t (Real x) (Err OutOfRange)) ≡ 258 → ⊥)
float_word true x = (omega arith, λ e. omega arith)
float_word false x = (omega arith, λ e. omega arith)

pub only-true : (v : Value) → word_of v ≡ 258 → v ≡ Truth true
unfolding word_of real_of
only-true (Whole z) e = absurd (omega arith)
only-true (Truth true) e = refl
only-true (Truth false) e = absurd (omega arith)
only-true (Real x) e = absurd ((float_word (is_real x) x).1 e)
only-true (Err r) e = absurd (omega arith)

pub only-false : (v : Value) → word_of v ≡ 2 → v ≡ Truth false
unfolding word_of real_of
only-false (Whole z) e = absurd (omega arith)
only-false (Truth true) e = absurd (omega arith)
only-false (Truth false) e = refl
only-false (Real x) e = absurd (omega (arith, (float_word (is_real x) x).0, e))
only-false (Err r) e = absurd (omega arith)

pub only-err : (v : Value) → word_of v ≡ 3 → v ≡ err
unfolding word_of real_of
only-err (Whole z) e = absurd (omega arith)
only-err (Truth true) e = absurd (omega arith)
only-err (Truth false) e = absurd (omega arith)
only-err (Real x) e = absurd (omega (arith, (float_word (is_real x) x).0, e))
only-err (Err Other) e = refl
only-err (Err ZeroDivisor) e = absurd (omega arith)
only-err (Err OutOfRange) e = absurd (omega arith)

-- the word of a token that was read is the word itself where it is a value, else 0
pub word-of-token : (w : ℕ) → word_or (decoded (value_of w)) ≡ pick (is_some (value_of w)) w 0
word-of-token w = go (value_of w) refl
  where
    go : (x : Option Value) → value_of w ≡ x → word_or (decoded x) ≡ pick (is_some x) w 0
    go (some v) e = sym (word-of-value w v e)
    go none e = refl

-- a token that was read is read again from its word
pub token-of-word : (w : ℕ) → value_of (word_or (decoded (value_of w))) ≡ value_of w
token-of-word w = go (value_of w) refl
  where
    go : (x : Option Value) → value_of w ≡ x → value_of (word_or (decoded x)) ≡ x
    go (some v) e = value-of-word v (value-in-range w v e)
    go none e = no_value
