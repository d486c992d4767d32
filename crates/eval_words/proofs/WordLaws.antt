-- What an operator makes of its operands' words, and what sixteen words of err bind.
use Rattle.std.specs.Prelude.{ℕ, ◌+◌, ◌≤◌, ◌≡◌, [], ◌∷◌, List, length, replicate, Option, Some, None}
use Rattle.std.proofs.Common.{sym, ◌∙◌, arith}
use Rattle.std.proofs.Math.Path.{ap}
use Rattle.std.proofs.lemmas.List.{get_or-replicate}
use Rattle.std.proofs.Math.Seq.{paste}
use Rattle.value.specs.declared.Value.{Value}
use Rattle.value.specs.Operators.{apply}
use Rattle.value.specs.Senses.{err}
use Rattle.meaning.specs.Meaning.{bind, yields, then}
use Rattle.eval_words.specs.Words.{held_of, env_of, held-zero, paste-binds, outcome_of, applying}

-- ---- words of err

pub errs-binds-of-sixteen : (l : List ℕ) (at n w : ℕ) → held_of w ≡ err → at + n ≤ length l → n ≤ 16
    → env_of (paste l at (replicate 16 w) n) ≡ bind at n (replicate n err) (env_of l)
unfolding env_of
errs-binds-of-sixteen l at n w e h i =
    paste-binds l at (replicate 16 w) n h i (replicate n err)
    (λ j p. ap held_of (get_or-replicate 16 j w 0 (omega arith)) ∙ e ∙ sym (get_or-replicate n j err err p))

-- ---- an operator on one operand, and on a second

pub applied-word : (code a w left : ℕ) (s : Option (ℕ × ℕ)) → s ≡ Some (a, left) → held_of w ≡ apply code (held_of a) (held_of 0)
    → then (outcome_of s) (applying code) ≡ outcome_of (Some (w, left))
unfolding then
applied-word code a w left s e h =
    ap (λ (z : Option (ℕ × ℕ)). then (outcome_of z) (applying code)) e
    ∙ ap (λ (v : Value). yields (apply code (held_of a) v ∷ []) left) (sym held-zero)
    ∙ ap (λ (v : Value). yields (v ∷ []) left) (sym h)

pub applied-short : (code : ℕ) (s : Option (ℕ × ℕ)) → s ≡ None → then (outcome_of s) (applying code) ≡ outcome_of None
unfolding then
applied-short code s e = ap (λ (z : Option (ℕ × ℕ)). then (outcome_of z) (applying code)) e

pub applied-to-word : (code a b w left : ℕ) (s : Option (ℕ × ℕ)) → s ≡ Some (b, left) → held_of w ≡ apply code (held_of a) (held_of b)
    → then (then (outcome_of s) (λ vs l. yields (held_of a ∷ vs) l)) (applying code) ≡ outcome_of (Some (w, left))
unfolding then
applied-to-word code a b w left s e h =
    ap (λ (z : Option (ℕ × ℕ)). then (then (outcome_of z) (λ vs l. yields (held_of a ∷ vs) l)) (applying code)) e
    ∙ ap (λ (v : Value). yields (v ∷ []) left) (sym h)

pub applied-to-short : (code a : ℕ) (s : Option (ℕ × ℕ)) → s ≡ None
    → then (then (outcome_of s) (λ vs l. yields (held_of a ∷ vs) l)) (applying code) ≡ outcome_of None
unfolding then
applied-to-short code a s e = ap (λ (z : Option (ℕ × ℕ)). then (then (outcome_of z) (λ vs l. yields (held_of a ∷ vs) l)) (applying code)) e
