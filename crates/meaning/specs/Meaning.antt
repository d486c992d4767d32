-- Document 01, "The meaning": direct evaluation of a formula's tree in an environment, with rounds. "A round is one entry
-- into a loop body." Evaluation is lent a number of rounds and tells those left, or is unfinished where more are needed.
use Rattle.std.specs.Prelude.{ℕ, zero, suc, ◌-◌, cond, List, [], ◌∷◌, ◌++◌, get_or, replicate}
use Rattle.value.specs.declared.Value.{Value}
use Rattle.value.specs.declared.Sense.{Sense}
use Rattle.value.specs.declared.Sense.TheVariants.{True, False, Neither}
use Rattle.value.specs.Senses.{err, sense}
use Rattle.value.specs.Operators.{apply}
use Rattle.names.specs.Names.{Names, range, below, size_from}
use Rattle.formula.specs.Constants.{constant_value}
use Rattle.formula.specs.Tree.{Exp, identifier, constant, pair, operator, let_e, if_e, for_e, Body, ret, iter, let_b, if_b}
use Rattle.formula.specs.Widths.{width, returned}

-- The value of each identifier.
abbrev pub Env : Type 0
Env = ℕ → Value

-- Identifiers a to a+b-1 bound to values, the first to a.
unfoldable pub bind : ℕ → ℕ → List Value → Env → Env
bind a b vs env k = cond (range a b k) (get_or vs (k - a) err) (env k)

-- The inputs, rising, hold a set's values in their order.
unfoldable pub inputs_hold : Names → List Value → Env
unfolding below size_from
inputs_hold f vs k = get_or vs (below f k) err

-- What an expression yields, with the rounds left; or more rounds are needed than were lent.
pub data Outcome : Type 0 where
  yields : List Value → ℕ → Outcome
  unfinished : Outcome

-- What one round of a body yields: "An iter starts the body again with its identifiers rebound; another ending returns its
-- values."
pub data Ending : Type 0 where
  again : List Value → ℕ → Ending
  returns : List Value → ℕ → Ending
  unfinished : Ending

unfoldable pub then : Outcome → (List Value → ℕ → Outcome) → Outcome
then (yields vs left) k = k vs left
then Outcome.unfinished k = Outcome.unfinished

unfoldable pub then_b : Outcome → (List Value → ℕ → Ending) → Ending
then_b (yields vs left) k = k vs left
then_b Outcome.unfinished k = Ending.unfinished

-- After a round: the next one, or the loop's end.
unfoldable pub after : Ending → (List Value → ℕ → Outcome) → Outcome
after (again vs left) k = k vs left
after (returns vs left) k = yields vs left
after Ending.unfinished k = Outcome.unfinished

-- One round fewer left, where there is one.
unfoldable pub enter : ℕ → (ℕ → Outcome) → Outcome
enter zero k = Outcome.unfinished
enter (suc left) k = k left

-- The rounds of a loop: a body, what rebinds its identifiers, the environment of the next round, the rounds left. The first
-- argument bounds the recursion; the rounds left are always enough.
unfoldable pub loop : ℕ → (Env → ℕ → Ending) → (List Value → Env) → Env → ℕ → Outcome
unfolding after enter
loop zero round rebind env left = Outcome.unfinished
loop (suc bound) round rebind env left =
    enter left λ l. after (round env l) λ vs l'. loop bound round rebind (rebind vs) l'

-- "of an if only the chosen arm"; the first argument of type A is what a test that is no truth gives.
unfoldable pub branch : {A : Type 0} → Sense → A → (Unit {0} → A) → (Unit {0} → A) → A
branch True bad f g = f tt
branch False bad f g = g tt
branch Neither bad f g = bad

-- "every operand and every row c of a let or for is evaluated, used or not; of an if only the chosen arm. .. An if whose test
-- is no truth gives err for each of its values; in a body it ends the loop with err for each returned value." A body is
-- evaluated with w, the returned width of the whole loop.
unfoldable mutual
  unfolding bind then then_b loop branch width apply

  pub eval_e : Exp → Env → ℕ → Outcome
  eval_e (identifier a) env left = yields (env a ∷ []) left
  eval_e (constant k a) env left = yields (constant_value k a ∷ []) left
  eval_e (pair x y) env left =
      then (eval_e x env left) λ vs l. then (eval_e y env l) λ ws l'. yields (vs ++ ws) l'
  eval_e (operator k x) env left =
      then (eval_e x env left) λ vs l. yields (apply k (get_or vs 0 err) (get_or vs 1 err) ∷ []) l
  eval_e (let_e a b x y) env left = then (eval_e x env left) λ vs l. eval_e y (bind a b vs env) l
  eval_e (if_e t x y) env left =
      then (eval_e t env left) λ vs l.
      branch (sense (get_or vs 0 err)) (yields (replicate (width x) err) l) (λ _. eval_e x env l) (λ _. eval_e y env l)
  eval_e (for_e a b x y) env left =
      then (eval_e x env left) λ vs l.
      loop l (λ e m. eval_b y (returned y) e m) (λ ws. bind a b ws env) (bind a b vs env) l

  pub eval_b : Body → ℕ → Env → ℕ → Ending
  eval_b (ret x) w env left = then_b (eval_e x env left) λ vs l. returns vs l
  eval_b (iter x) w env left = then_b (eval_e x env left) λ vs l. again vs l
  eval_b (let_b a b x y) w env left = then_b (eval_e x env left) λ vs l. eval_b y w (bind a b vs env) l
  eval_b (if_b t x y) w env left =
      then_b (eval_e t env left) λ vs l.
      branch (sense (get_or vs 0 err)) (returns (replicate w err) l) (λ _. eval_b x w env l) (λ _. eval_b y w env l)
