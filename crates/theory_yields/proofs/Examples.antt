-- Laws of specs/Examples.antt, and what only they need.
use Rattle.std.specs.Prelude.{refl, [], ◌∷◌, pos}
use Rattle.std.proofs.Math.Option.{none, some}
use Rattle.std.proofs.Common.{arith}
use Rattle.value.specs.declared.Value.{Value}
use Rattle.value.specs.declared.Value.TheVariants.{Whole}
use Rattle.value.specs.Senses.{err}
use Rattle.formula.specs.Tree.{Exp}
use Rattle.formula.specs.Widths.{wide_e, wide_b}
use Rattle.formula.specs.Free.{free_e, bound_e, bound_b}
use Rattle.formula.specs.Admitted.{AdmittedE}
use Rattle.meaning.specs.Meaning.{eval_e}
use Rattle.graph.specs.Yields.{Yields}
use Rattle.graph.specs.Translation.{graph_e}
use Rattle.theory_yields.proofs.Agreement.{values_agree, unfinished-agrees}
use Rattle.theory_yields.specs.Meets.{Holds}
use Rattle.theory_yields.specs.Examples.{factorial, two-iters, all}

admitted : AdmittedE factorial
unfolding wide_e wide_b bound_e bound_b
admitted = (
  (refl, refl),
  (omega arith, omega arith),
  ((refl, refl), omega arith, omega arith),
  (
    (refl, refl),
    ((refl, refl), (omega arith, omega arith), ((refl, refl), omega arith, omega arith)),
    (
      (refl, refl),
      (
        (refl, refl),
        ((refl, refl), (omega arith, omega arith), ((refl, refl), omega arith, omega arith)),
        ((refl, refl), (omega arith, omega arith), ((refl, refl), omega arith, omega arith)),
      ),
    ),
    ((refl, refl), omega arith),
  ),
)

two-iters-admitted : AdmittedE two-iters
unfolding wide_e wide_b bound_e bound_b
two-iters-admitted = (
  (refl, refl),
  (omega arith, omega arith),
  omega arith,
  (
    (refl, refl),
    ((refl, refl), (omega arith, omega arith), ((refl, refl), omega arith, omega arith)),
    ((refl, refl), omega arith, ((refl, refl), omega arith), ((refl, refl), omega arith)),
    ((refl, refl), omega arith),
  ),
)

held : (x : Exp) (v : Value) → Holds (free_e x) (λ k. v) (all v)
held x v = ((λ k l e. refl), (λ e. (v, refl)))

pub five : Yields (graph_e factorial) (all (Whole (pos 5))) 5 (some (some (Whole (pos 120)) ∷ []))
unfolding eval_e
five = values_agree factorial admitted (λ k. Whole (pos 5)) (all (Whole (pos 5))) (held factorial (Whole (pos 5))) 5 (Whole (pos 120) ∷ []) 0 refl

pub too-few-rounds : Yields (graph_e factorial) (all (Whole (pos 5))) 4 none
unfolding eval_e
too-few-rounds = unfinished-agrees factorial admitted (λ k. Whole (pos 5)) (all (Whole (pos 5))) (held factorial (Whole (pos 5))) 4 refl

pub err_in : Yields (graph_e factorial) (all err) 1 (some (some err ∷ []))
unfolding eval_e
err_in = values_agree factorial admitted (λ k. err) (all err) (held factorial err) 1 (err ∷ []) 0 refl

pub errs-of-two-iters : Yields (graph_e two-iters) (all (Whole (pos 5))) 1 (some (some err ∷ []))
unfolding eval_e
errs-of-two-iters =
    values_agree two-iters two-iters-admitted (λ k. Whole (pos 5)) (all (Whole (pos 5))) (held two-iters (Whole (pos 5))) 1 (err ∷ []) 0 refl
