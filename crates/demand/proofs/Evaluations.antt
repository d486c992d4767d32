-- Laws of specs/Evaluations.antt, and what only they need.
use Rattle.std.specs.Prelude.{ℕ, ◌≡◌, List, Ok}
use Rattle.std.proofs.Math.Path.{refl, ap}
use Rattle.std.proofs.Common.{sym, subst, ◌∙◌}
use Rattle.std.proofs.Math.Option.{some}
use Rattle.value.specs.declared.Value.{Value}
use Rattle.formula.specs.Tree.{formula_of}
use Rattle.formula.specs.Free.{free_e}
use Rattle.formula.specs.Faults.{letters_of}
use Rattle.formula.specs.Acceptance.{Admissible, Kinded}
use Rattle.formula.proofs.Acceptance.{admissible-passed}
use Rattle.meaning.specs.Meaning.{Outcome, yields, inputs_hold, eval_e}
use Rattle.meaning.specs.Evaluate.{concluded, evaluated, evaluation_of}
use Rattle.value_sets.specs.Sets.{set_values}
use Rattle.theory_verdicts.specs.Results.{values_of, result_of, EndsWith}
use Rattle.demand.specs.Claim.{Enough, yielded}
use Rattle.demand.specs.Evaluations.{shown, Is-passed, Is-some}

concluded-passed : (rounds : ℕ) (o : Outcome) → (concluded rounds o).verdict ≡ Ok tt
    → (r : List Value) × (values_of o ≡ some r) × (yielded (concluded rounds o) ≡ shown r)
unfolding concluded yielded shown
concluded-passed rounds (yields vs left) e = (vs, refl, refl)
concluded-passed rounds Outcome.unfinished e = absurd (subst Is-passed (sym e) tt)

concluded-enough : (rounds : ℕ) (o : Outcome) (r : List Value) → values_of o ≡ some r → (concluded rounds o).verdict ≡ Ok tt
unfolding concluded
concluded-enough rounds (yields vs left) r e = refl
concluded-enough rounds Outcome.unfinished r e = absurd (subst Is-some (sym e) tt)

module _ (sheet line : List ℕ) (ok : Admissible sheet) (told : Kinded sheet line) (set : List ℕ) (v : List Value)
    (read : set_values (letters_of (formula_of sheet) line) set ≡ some v) where
  pub evaluation-concludes : (rounds : ℕ)
      → evaluation_of sheet line set rounds ≡ concluded rounds (eval_e (formula_of sheet) (inputs_hold (free_e (formula_of sheet)) v) rounds)
  unfolding evaluation_of evaluated
  evaluation-concludes rounds = rw (admissible-passed sheet line ok told, read) refl

  -- A number of rounds that is enough yields the formula's values for the set.
  pub enough-yields : (rounds : ℕ) → Enough sheet line set rounds
      → (r : List Value) × EndsWith (formula_of sheet) v r × (yielded (evaluation_of sheet line set rounds) ≡ shown r)
  unfolding result_of
  enough-yields rounds h =
      let e = evaluation-concludes rounds in
      let o = eval_e (formula_of sheet) (inputs_hold (free_e (formula_of sheet)) v) rounds in
      let p = concluded-passed rounds o (ap (λ z. z.verdict) (sym e) ∙ h) in
      (p.0, (rounds, p.1), ap yielded e ∙ p.2)

  -- Whatever the formula yields, some number of rounds is enough for.
  pub yields-enough : (r : List Value) → EndsWith (formula_of sheet) v r → (rounds : ℕ) × Enough sheet line set rounds
  unfolding result_of
  yields-enough r w =
      let o = eval_e (formula_of sheet) (inputs_hold (free_e (formula_of sheet)) v) w.0 in
      (w.0, ap (λ z. z.verdict) (evaluation-concludes w.0) ∙ concluded-enough w.0 o r w.1)
