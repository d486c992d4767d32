-- The numbers of an evaluation fit the firmware's answer: a row at fault is at most 200, a width at most 16. Assumes nothing.
use Rattle.std.specs.Prelude.{ℕ, zero, suc, ◌≤◌, ◌<◌, ◌≡◌, refl, Bool, true, false, List, length, Ok, Err}
use Rattle.std.proofs.Common.{sym, ap, ◌∙◌, subst, arith}
use Rattle.std.proofs.Math.Option.{Option, some, none}
use Rattle.value.specs.declared.Value.{Value}
use Rattle.formula.specs.declared.Refusal.{Refusal}
use Rattle.formula.specs.Results.{Verdict, refused}
use Rattle.formula.specs.Tree.{Exp, identifier, constant, pair, operator, let_e, if_e, for_e, formula_of}
use Rattle.formula.specs.Free.{free_e}
use Rattle.formula.specs.Widths.{width}
use Rattle.formula.specs.Faults.{letters_of}
use Rattle.formula.specs.Tests.{verdict_of}
use Rattle.formula.proofs.Acceptance.{passed-admissible, low-row}
use Rattle.meaning.specs.Meaning.{Outcome, yields, inputs_hold, eval_e}
use Rattle.meaning.specs.WidthLaws.{SoundE, Sized}
use Rattle.meaning.proofs.WidthLaws.{sized, wide-16}
use Rattle.meaning.proofs.Accepted.{formula-sound}
use Rattle.meaning.specs.declared.Evaluation.{Evaluation}
use Rattle.meaning.specs.Evaluate.{concluded, evaluated_with, evaluated, after_verdict, evaluation_of}
use Rattle.value_sets.specs.Sets.{set_values}

abbrev row_in : Verdict → ℕ
row_in (Ok _) = 0
row_in (Err why) = why.row

-- "No width above 16".
sound-narrow : (x : Exp) → SoundE x → width x ≤ 16
unfolding width
sound-narrow (identifier a) h = omega arith
sound-narrow (constant k a) h = omega arith
sound-narrow (pair x y) h = wide-16 (pair x y) h.0
sound-narrow (operator k x) h = wide-16 (operator k x) h.0
sound-narrow (let_e a b x y) h = wide-16 (let_e a b x y) h.0
sound-narrow (if_e t x y) h = wide-16 (if_e t x y) h.0
sound-narrow (for_e a b x y) h = wide-16 (for_e a b x y) h.0

concluded-narrow : (rounds w : ℕ) (o : Outcome) → w ≤ 16 → Sized w o → (concluded rounds o).width ≤ 16
unfolding concluded
concluded-narrow rounds w (yields vs left) n h = omega (arith, h)
concluded-narrow rounds w Outcome.unfinished n h = omega arith

evaluated-narrow : (x : Exp) → SoundE x → (kinds set : List ℕ) (rounds : ℕ) → (evaluated x kinds set rounds).width ≤ 16
unfolding evaluated
evaluated-narrow x h kinds set rounds = go (set_values kinds set)
  where
    go : (o : Option (List Value)) → (evaluated_with x rounds o).width ≤ 16
    go (some vs) =
        concluded-narrow rounds (width x) (eval_e x (inputs_hold (free_e x) vs) rounds) (sound-narrow x h)
        (sized x h (inputs_hold (free_e x) vs) rounds)
    go none = omega arith

pub narrow-width : (s line set : List ℕ) (rounds : ℕ) → (evaluation_of s line set rounds).width ≤ 16
unfolding evaluation_of
narrow-width s line set rounds = go (verdict_of s line) refl
  where
    go : (v : Verdict) → verdict_of s line ≡ v → (after_verdict v (evaluated (formula_of s) (letters_of (formula_of s) line) set rounds)).width ≤ 16
    go (Ok _) e = evaluated-narrow (formula_of s) (formula-sound s (passed-admissible s line e)) (letters_of (formula_of s) line) set rounds
    go (Err why) e = omega arith

concluded-row : (rounds : ℕ) (o : Outcome) → row_in (concluded rounds o).verdict ≡ 0
unfolding concluded
concluded-row rounds (yields vs left) = refl
concluded-row rounds Outcome.unfinished = refl

evaluated-row : (x : Exp) (kinds set : List ℕ) (rounds : ℕ) → row_in (evaluated x kinds set rounds).verdict ≡ 0
unfolding evaluated
evaluated-row x kinds set rounds = go (set_values kinds set)
  where
    go : (o : Option (List Value)) → row_in (evaluated_with x rounds o).verdict ≡ 0
    go (some vs) = concluded-row rounds (eval_e x (inputs_hold (free_e x) vs) rounds)
    go none = refl

low-fault : (s line set : List ℕ) (rounds : ℕ) → row_in (evaluation_of s line set rounds).verdict ≤ 200
unfolding evaluation_of
low-fault s line set rounds = go (verdict_of s line) refl
  where
    go : (v : Verdict) → verdict_of s line ≡ v → row_in (after_verdict v (evaluated (formula_of s) (letters_of (formula_of s) line) set rounds)).verdict ≤ 200
    go (Ok _) e = omega (arith, evaluated-row (formula_of s) (letters_of (formula_of s) line) set rounds)
    go (Err why) e = low-row s line why.refusal why.row e

pub low-row-of : (s line set : List ℕ) (rounds : ℕ) (r : Refusal) (row : ℕ) → (evaluation_of s line set rounds).verdict ≡ refused r row → row ≤ 200
low-row-of s line set rounds r row h = subst (λ (v : Verdict). row_in v ≤ 200) h (low-fault s line set rounds)
