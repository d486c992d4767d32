-- Values as words of the byte form (value's specs/Bytes), in the arrays that the evaluators lend one another: an array of
-- words holds an environment. A word that is no value counts as err, so that an array of zeros holds err everywhere.
-- Assumes nothing.
use Rattle.std.specs.Prelude.{ℕ, zero, suc, ◌+◌, ◌-◌, ◌≤◌, ◌<◌, ◌≡◌, refl, List, [], ◌∷◌, ◌++◌, length, get_or, set, take, drop, replicate, Some, None}
use Rattle.std.proofs.Common.{sym, ◌∙◌, subst, append_assoc, get_or-append-add, get_or-set_same, get_or-set_other, get_or-take, get_or-drop, length-take-le, arith}
use Rattle.std.proofs.Math.Path.{ap}
use Rattle.std.proofs.Math.Option.{Option, some, none}
use Rattle.std.proofs.Math.ListN.{get_or-append}
use Rattle.std.proofs.lemmas.List.{get_or-replicate, length-replicate}
use Rattle.std.proofs.Math.Seq.{paste}
use Rattle.std.specs.Prelude as std
use Rattle.value.specs.declared.Value.{Value}
use Rattle.value.specs.Bytes.{InRange, word_of, value_of, decoded}
use Rattle.value.proofs.Words.{value-of-word, word-of-value}
use Rattle.value.specs.Operators.{apply}
use Rattle.value.specs.declared.Sense.{Sense}
use Rattle.value.specs.declared.Sense.TheVariants.{True, False, Neither}
use Rattle.value.specs.Senses.{err, sense, only-one-true, only-one-false}
use Rattle.meaning.specs.Meaning.{Env, bind, Outcome, yields}
use Rattle.meaning.proofs.Binding.{bind_is}

abbrev pub or_err : Option Value → Value
or_err (some v) = v
or_err none = err

abbrev value_in : std.Option Value → Value
value_in (Some v) = v
value_in None = err

abbrev Is-None : std.Option Value → Type 0
Is-None (Some v) = ⊥
Is-None None = Unit {0}

-- The value of a word.
unfoldable pub held_of : ℕ → Value
held_of w = or_err (value_of w)

-- The environment that an array of words holds.
unfoldable pub env_of : List ℕ → Env
env_of ws k = held_of (get_or ws k 0)

pub held_word : (v : Value) → InRange v → held_of (word_of v) ≡ v
unfolding held_of
held_word v h = ap or_err (value-of-word v h)

pub held-some : (w : ℕ) (v : Value) → decoded (value_of w) ≡ Some v → held_of w ≡ v
unfolding held_of
held-some w v = go (value_of w)
  where
    go : (o : Option Value) → decoded o ≡ Some v → or_err o ≡ v
    go (some u) e = ap value_in e
    go none e = absurd (subst Is-None e tt)

pub held-none : (w : ℕ) → decoded (value_of w) ≡ None → held_of w ≡ err
unfolding held_of
held-none w = go (value_of w)
  where
    go : (o : Option Value) → decoded o ≡ None → or_err o ≡ err
    go (some u) e = absurd (subst Is-None (sym e) tt)
    go none e = refl

pub held-zero : held_of 0 ≡ err
unfolding held_of value_of
held-zero = refl

-- Only 258 is a word of true, and only 2 one of false.
pub word-true : (w : ℕ) → w ≡ 258 → True ≡ sense (held_of w)
unfolding held_of value_of
word-true w e = rw e refl

pub word-false : (w : ℕ) → w ≡ 2 → False ≡ sense (held_of w)
unfolding held_of value_of
word-false w e = rw e refl

pub word-neither : (w : ℕ) → (w ≡ 258 → ⊥) → (w ≡ 2 → ⊥) → Neither ≡ sense (held_of w)
unfolding held_of word_of
word-neither w p q = go (value_of w) refl
  where
    by-sense : (v : Value) → value_of w ≡ some v → (s : Sense) → sense v ≡ s → Neither ≡ s
    by-sense v e True h = absurd (p (word-of-value w v e ∙ ap word_of (only-one-true v h)))
    by-sense v e False h = absurd (q (word-of-value w v e ∙ ap word_of (only-one-false v h)))
    by-sense v e Neither h = refl

    go : (o : Option Value) → value_of w ≡ o → Neither ≡ sense (or_err o)
    go (some v) e = by-sense v e (sense v) refl
    go none e = refl

-- An array of zeros holds err everywhere.
pub zeros-err : (n k : ℕ) → env_of (replicate n 0) k ≡ err
unfolding env_of
zeros-err zero k = held-zero
zeros-err (suc n) zero = held-zero
zeros-err (suc n) (suc k) = zeros-err n k

-- A word written binds one identifier.
pub put-binds : (l : List ℕ) (at w : ℕ) → at < length l → env_of (set l at w) ≡ bind at 1 (held_of w ∷ []) (env_of l)
unfolding env_of
put-binds l at w h =
    bind_is at 1 (held_of w ∷ []) (env_of l) (env_of (set l at w))
    (λ k p q.
    let e : k ≡ at = omega arith in
    let z : k - at ≡ 0 = omega arith in
    rw (z, e) (ap held_of (get_or-set_same l at w 0 h))
    )
    (λ k p. ap held_of (get_or-set_other l at k w 0 (λ e. omega arith)))
    (λ k p. ap held_of (get_or-set_other l at k w 0 (λ e. omega arith)))

module _ (l : List ℕ) (at : ℕ) (s : List ℕ) (n : ℕ) (room : at + n ≤ length l) (given : n ≤ length s) where
  head-length : length (take at l) ≡ at
  head-length = length-take-le at l (omega arith)

  part_length : length (take n s) ≡ n
  part_length = length-take-le n s given

  together : paste l at s n ≡ take at l ++ (take n s ++ drop (at + n) l)
  together = append_assoc (take at l) (take n s) (drop (at + n) l)

  pub paste-before : (k : ℕ) → k < at → get_or (paste l at s n) k 0 ≡ get_or l k 0
  paste-before k p =
      ap (λ (z : List ℕ). get_or z k 0) together
      ∙ get_or-append (take at l) (take n s ++ drop (at + n) l) 0 k (rw head-length p)
      ∙ get_or-take at l k 0 p

  shifted : (k : ℕ) → at ≤ k → get_or (paste l at s n) k 0 ≡ get_or (take n s ++ drop (at + n) l) (k - at) 0
  shifted k p =
      let e : k ≡ length (take at l) + (k - at) = rw head-length (omega arith) in
      ap (λ (z : List ℕ). get_or z k 0) together
      ∙ ap (λ (j : ℕ). get_or (take at l ++ (take n s ++ drop (at + n) l)) j 0) e
      ∙ get_or-append-add (take at l) (take n s ++ drop (at + n) l) (k - at) 0

  pub paste-among : (k : ℕ) → at ≤ k → k < at + n → get_or (paste l at s n) k 0 ≡ get_or s (k - at) 0
  paste-among k p q =
      shifted k p
      ∙ get_or-append (take n s) (drop (at + n) l) 0 (k - at) (rw part_length (omega arith))
      ∙ get_or-take n s (k - at) 0 (omega arith)

  pub paste-behind : (k : ℕ) → at + n ≤ k → get_or (paste l at s n) k 0 ≡ get_or l k 0
  paste-behind k p =
      let e : k - at ≡ length (take n s) + (k - at - n) = rw part_length (omega arith) in
      let f : at + n + (k - at - n) ≡ k = omega arith in
      shifted k (omega arith)
      ∙ ap (λ (j : ℕ). get_or (take n s ++ drop (at + n) l) j 0) e
      ∙ get_or-append-add (take n s) (drop (at + n) l) (k - at - n) 0
      ∙ get_or-drop (at + n) l (k - at - n) 0
      ∙ ap (λ (j : ℕ). get_or l j 0) f

  -- Words pasted bind as many identifiers.
  pub paste-binds : (vs : List Value) → ((i : ℕ) → i < n → env_of s i ≡ get_or vs i err)
      → env_of (paste l at s n) ≡ bind at n vs (env_of l)
  unfolding env_of
  paste-binds vs h =
      bind_is at n vs (env_of l) (env_of (paste l at s n))
      (λ k p q. ap held_of (paste-among k p q) ∙ h (k - at) (omega arith))
      (λ k p. ap held_of (paste-before k p))
      (λ k p. ap held_of (paste-behind k p))

pub errs-binds : (l : List ℕ) (at n w : ℕ) → held_of w ≡ err → at + n ≤ length l
    → env_of (paste l at (replicate n w) n) ≡ bind at n (replicate n err) (env_of l)
unfolding env_of
errs-binds l at n w e h =
    paste-binds l at (replicate n w) n h (omega (arith, length-replicate n w)) (replicate n err)
    (λ j p. ap held_of (get_or-replicate n j w 0 p) ∙ e ∙ sym (get_or-replicate n j err err p))

-- ---- rows of width one

-- What a row's answer, its word with the rounds left, says of its value.
abbrev pub outcome_of : std.Option (ℕ × ℕ) → Outcome
outcome_of (Some p) = yields (held_of p.0 ∷ []) p.1
outcome_of None = Outcome.unfinished

-- "every operand .. is evaluated": what an operator makes of its operands' values.
abbrev pub applying : ℕ → List Value → ℕ → Outcome
applying code vs left = yields (apply code (get_or vs 0 err) (get_or vs 1 err) ∷ []) left
