-- Laws of the meaning (document 01, "The meaning" and "Direct evaluation is lent rounds and tells those used"): the rounds
-- left never exceed those lent, more rounds change nothing but what is left of them, a loop's bound is of no account, and
-- an evaluation that ends has one result. Assumes nothing of the tree.
use Rattle.std.specs.Prelude.{ℕ, zero, suc, ◌+◌, ◌-◌, ◌≤◌, ◌≡◌, refl, Bool, true, false, List, [], ◌++◌, get_or, leb}
use Rattle.value.specs.declared.Value.{Value}
use Rattle.value.specs.declared.Sense.{Sense}
use Rattle.value.specs.declared.Sense.TheVariants.{True, False, Neither}
use Rattle.value.specs.Senses.{err, sense}
use Rattle.formula.specs.Tree.{Exp, identifier, constant, pair, operator, let_e, if_e, for_e, Body, ret, iter, let_b, if_b}
use Rattle.formula.specs.Widths.{returned}
use Rattle.meaning.specs.Meaning.{Env, bind, Outcome, yields, Ending, again, returns, loop, eval_e, eval_b}

-- ---- the rounds left never exceed those lent
abbrev pub Within : ℕ → Outcome → Type 0
Within n (yields vs left) = left ≤ n
Within n Outcome.unfinished = Unit {0}

abbrev pub WithinB : ℕ → Ending → Type 0
WithinB n (again vs left) = left ≤ n
WithinB n (returns vs left) = left ≤ n
WithinB n Ending.unfinished = Unit {0}

-- ---- a loop with no bound in it
-- The rounds of a loop whose body is y: the identifiers a to a+b-1 are rebound over the environment outside.
unfoldable pub turns : Body → ℕ → ℕ → Env → Env → ℕ → Outcome
unfolding loop eval_b bind
turns y a b outer env left = loop left (λ e m. eval_b y (returned y) e m) (λ ws. bind a b ws outer) env left

-- ---- more rounds change only what is left
-- An outcome with k rounds more left.
unfoldable pub extra : ℕ → Outcome → Outcome
extra k (yields vs l) = yields vs (l + k)
extra k Outcome.unfinished = Outcome.unfinished

unfoldable pub extra_b : ℕ → Ending → Ending
extra_b k (again vs l) = again vs (l + k)
extra_b k (returns vs l) = returns vs (l + k)
extra_b k Ending.unfinished = Ending.unfinished

abbrev pub Finished : Outcome → Type 0
Finished (yields vs l) = Unit {0}
Finished Outcome.unfinished = ⊥

abbrev pub FinishedB : Ending → Type 0
FinishedB (again vs l) = Unit {0}
FinishedB (returns vs l) = Unit {0}
FinishedB Ending.unfinished = ⊥

-- ---- an evaluation that ends
-- "Direct evaluation there is the meaning above with as many rounds as it needs, and ends if some number is enough."
pub record Ends (x : Exp) (env : Env) (vs : List Value) : Type 0 where
  pub lent : ℕ
  pub left : ℕ
  pub enough : eval_e x env lent ≡ yields vs left

abbrev pub values_of : Outcome → List Value
values_of (yields vs l) = vs
values_of Outcome.unfinished = []

abbrev pub left_of : Outcome → ℕ
left_of (yields vs l) = l
left_of Outcome.unfinished = 0
