-- What a token is as a control, by its word. Assumes nothing.
use Rattle.std.specs.Prelude.{Option, Some, None}
use mathlib.Core.Path.{◌≡◌, refl, sym, ap, ◌∙◌}
use mathlib.Core.Bool.{Bool, true, false, not, false≢true}
use native.Mathlib.Omega.{arith}
use borrow.Author.Tests.{ne_eqb, eqb-true, eqb-false}
use lib.Dec.{eqb}
use Rattle.value.specs.declared.Value.{Value}
use Rattle.value.specs.Bytes.{word_of, word_or}
use Rattle.value.proofs.Words.{word-pos}
use Rattle.value.proofs.Tokens.{only-true, only-false}
use Rattle.value.specs.declared.Sense.{Sense}
use Rattle.value.specs.declared.Sense.TheVariants.{True, False, Neither}
use Rattle.value.specs.Senses.{sense, only-one-true, only-one-false}
use Rattle.network.specs.Rules.{as-truth}
use Rattle.machine_gates.specs.Decide.{is_absent, is_true, is_false, is_neither, counts_false, true_sense, false_sense, neither_sense}

pub absent-word : (t : Option Value) → eqb (word_or t) 0 ≡ is_absent t
absent-word (Some v) = ne_eqb (word_of v) 0 (λ e. omega (arith, word-pos v))
absent-word None = refl

pub true-word : (t : Option Value) → eqb (word_or t) 258 ≡ is_true t
unfolding word_of
true-word (Some v) = go (eqb (word_of v) 258) refl (sense v) refl
  where
    go : (b : Bool) → eqb (word_of v) 258 ≡ b → (s : Sense) → sense v ≡ s → b ≡ true_sense s
    go true e s q = ap true_sense (sym (ap sense (only-true v (eqb-true (word_of v) 258 e))) ∙ q)
    go false e True q = absurd (eqb-false (word_of v) 258 e (ap word_of (only-one-true v q) ∙ refl))
    go false e False q = refl
    go false e Neither q = refl
true-word None = refl

pub false-word : (t : Option Value) → eqb (word_or t) 2 ≡ is_false t
unfolding word_of
false-word (Some v) = go (eqb (word_of v) 2) refl (sense v) refl
  where
    go : (b : Bool) → eqb (word_of v) 2 ≡ b → (s : Sense) → sense v ≡ s → b ≡ false_sense s
    go true e s q = ap false_sense (sym (ap sense (only-false v (eqb-true (word_of v) 2 e))) ∙ q)
    go false e True q = refl
    go false e False q = absurd (eqb-false (word_of v) 2 e (ap word_of (only-one-false v q) ∙ refl))
    go false e Neither q = refl
false-word None = refl

pub else-neither : (t : Option Value) → is_absent t ≡ false → is_true t ≡ false → not (is_false t) ≡ is_neither t
else-neither (Some v) p q = go (sense v) q
  where
    go : (s : Sense) → true_sense s ≡ false → not (false_sense s) ≡ neither_sense s
    go True e = e
    go False e = refl
    go Neither e = refl
else-neither None p q = p

pub else-false : (t : Option Value) → is_absent t ≡ false → not (is_true t) ≡ counts_false t
else-false (Some v) p = go (sense v)
  where
    go : (s : Sense) → not (true_sense s) ≡ not (as-truth s)
    go True = refl
    go False = refl
    go Neither = refl
else-false None p = p

pub absent-not : (t : Option Value) → is_absent t ≡ true → (false ≡ is_neither t) × (false ≡ counts_false t)
absent-not (Some v) e = absurd (false≢true e)
absent-not None e = (refl, refl)

pub true-not : (t : Option Value) → is_true t ≡ true → false ≡ is_neither t
true-not (Some v) e = go (sense v) e
  where
    go : (s : Sense) → true_sense s ≡ true → false ≡ neither_sense s
    go True e = refl
    go False e = refl
    go Neither e = e
true-not None e = refl
