-- Laws of specs/Loopless.antt, and what only they need.
use Rattle.std.specs.Prelude.{ℕ, refl, List, [], ◌∷◌, ◌++◌, get_or}
use Rattle.std.proofs.Common.{◌∙◌, ap}
use Rattle.value.specs.declared.Value.{Value}
use Rattle.value.specs.Senses.{err, sense}
use Rattle.formula.specs.Tree.{Exp, identifier, constant, pair, operator, let_e, if_e, for_e}
use Rattle.meaning.specs.Meaning.{Env, bind, Outcome, then, eval_e}
use Rattle.meaning.proofs.Rounds.{branch-holds}
use Rattle.meaning.specs.Loopless.{Loopless, Whole-left}

then-left : (o : Outcome) (k : List Value → ℕ → Outcome) (left : ℕ) → Whole-left o left → ((vs : List Value) → Whole-left (k vs left) left) → Whole-left (then o k) left
unfolding then
then-left o k left (vs, e) h = let r = h vs in (r.0, ap (λ z. then z k) e ∙ r.1)

pub loopless-ends : (x : Exp) → Loopless x → (env : Env) (left : ℕ) → Whole-left (eval_e x env left) left
unfolding eval_e
loopless-ends (identifier a) h env left = (env a ∷ [], refl)
loopless-ends (constant k a) h env left = (_, refl)
loopless-ends (pair x y) h env left =
    then-left (eval_e x env left) _ left (loopless-ends x h.0 env left)
    (λ vs. then-left (eval_e y env left) _ left (loopless-ends y h.1 env left) (λ ws. (vs ++ ws, refl)))
loopless-ends (operator k x) h env left = then-left (eval_e x env left) _ left (loopless-ends x h env left) (λ vs. (_, refl))
loopless-ends (let_e a b x y) h env left =
    then-left (eval_e x env left) _ left (loopless-ends x h.0 env left) (λ vs. loopless-ends y h.1 (bind a b vs env) left)
loopless-ends (if_e t x y) h env left =
    then-left (eval_e t env left) _ left (loopless-ends t h.0 env left)
    (λ vs. branch-holds (λ o. Whole-left o left) (sense (get_or vs 0 err)) _ (λ _. eval_e x env left) (λ _. eval_e y env left) (_, refl) (loopless-ends x h.1 env left) (loopless-ends y h.2 env left))
loopless-ends (for_e a b x y) h env left = absurd h
