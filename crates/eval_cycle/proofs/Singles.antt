-- A row of width one with an operator: its value from its operands' answers, whatever these are.
use Rattle.std.specs.Prelude.{ℕ, ◌≡◌, ◌∷◌, ◌++◌, List, Option, Some}
use Rattle.std.proofs.Math.Path.{ap}
use Rattle.std.proofs.Common.{◌∙◌}
use Rattle.formula.specs.declared.Shape.TheVariants.{Pair, Operator}
use Rattle.formula.specs.Tree.{exp_node, exp_of}
use Rattle.meaning.specs.Meaning.{Env, Outcome, yields, then, eval_e}
use Rattle.eval_words.specs.Words.{held_of, outcome_of, applying}
use Rattle.eval_words.specs.Parts.{Operates, Pairs, by_shape}

module _ (t ws : List ℕ) (env : Env) (left : ℕ) where
  operator-is : (r k b : ℕ) → Operates t ws r k b → eval_e (exp_of t r) env left ≡ then (eval_e (exp_of t b) env left) (applying k)
  unfolding eval_e exp_node
  operator-is r k b p = by_shape t ws r p.row env left (Operator k b) p.shape

  pub single-one-any : (r k b : ℕ) → Operates t ws r k b → (operand s : Option (ℕ × ℕ))
      → eval_e (exp_of t b) env left ≡ outcome_of operand → then (outcome_of operand) (applying k) ≡ outcome_of s
      → eval_e (exp_of t r) env left ≡ outcome_of s
  single-one-any r k b p operand s e q = operator-is r k b p ∙ ap (λ (z : Outcome). then z (applying k)) e ∙ q

  pub single-two-any : (r k x y : ℕ) → Pairs t ws r k x y → (first : Option (ℕ × ℕ)) (u l : ℕ) (second s : Option (ℕ × ℕ))
      → eval_e (exp_of t x) env left ≡ outcome_of first → first ≡ Some (u, l) → eval_e (exp_of t y) env l ≡ outcome_of second
      → then (then (outcome_of second) (λ vs m. yields (held_of u ∷ vs) m)) (applying k) ≡ outcome_of s
      → eval_e (exp_of t r) env left ≡ outcome_of s
  unfolding eval_e exp_node then
  single-two-any r k x y p first u l second s e f g q =
      operator-is r k p.between p.operator
      ∙ ap (λ (z : Outcome). then z (applying k))
      (by_shape t ws p.between p.paired.row env left (Pair x y) p.paired.shape
      ∙ ap (λ (z : Outcome). then z (λ vs m. then (eval_e (exp_of t y) env m) (λ us n. yields (vs ++ us) n))) (e ∙ ap outcome_of f)
      ∙ ap (λ (z : Outcome). then z (λ us n. yields (held_of u ∷ us) n)) g)
      ∙ q
