-- Direct evaluation that stops where an err would come "from a wrong kind or a test that is neither truth nor err": document 02, Job 6.
-- It is document 01's meaning (meaning/specs/Meaning), clause by clause, with a guard before each operator and before each test, and
-- `none` where a guard has stopped it. Assumes nothing.
use Rattle.std.specs.Prelude.{ℕ, zero, suc, Bool, true, false, ◌&&◌, ◌||◌, List, [], ◌∷◌, ◌++◌, get_or, replicate}
use Rattle.std.proofs.Math.Option.{Option, some, none}
use Rattle.value.specs.declared.Value.{Value}
use Rattle.value.specs.declared.ValueKind.{ValueKind}
use Rattle.value.specs.declared.ValueKind.TheVariants.{Whole as whole-kind, Truth as truth-kind, Real as real-kind}
use Rattle.value.specs.Senses.{err, sense}
use Rattle.value.specs.Operators.{apply}
use Rattle.value.specs.Kinds.{suits, wanted}
use Rattle.formula.specs.Constants.{constant_value}
use Rattle.formula.specs.Tree.{Exp, identifier, constant, pair, operator, let_e, if_e, for_e, Body, ret, iter, let_b, if_b}
use Rattle.formula.specs.Widths.{width, returned}
use Rattle.meaning.specs.Meaning.{Env, bind, Outcome, yields, Ending, again, returns, branch}

-- The operands are of one kind or errs.
abbrev pub alike : ValueKind → Value → Value → Bool
alike k a b = suits k a && suits k b

-- "8 to 10 want truths, the others whole numbers", "Codes 1 to 4, 6, 7 and 11 take two (or one)" floats: of one kind, which the operator takes.
abbrev pub operands_wanted : ℕ → Value → Value → Bool
operands_wanted c a b =
    (wanted c (whole-kind ∷ []) && alike whole-kind a b)
    || ((wanted c (truth-kind ∷ []) && alike truth-kind a b)
    || (wanted c (real-kind ∷ []) && alike real-kind a b))

-- "a test that is neither truth nor err" is not passed.
abbrev pub test_wanted : Value → Bool
test_wanted v = suits truth-kind v

-- Evaluation stops where a guard does not hold.
unfoldable pub guard : {A : Type 0} → Bool → Option A → Option A
guard true o = o
guard false o = none

unfoldable pub then_s : Option Outcome → (List Value → ℕ → Option Outcome) → Option Outcome
then_s none k = none
then_s (some (yields vs left)) k = k vs left
then_s (some Outcome.unfinished) k = some Outcome.unfinished

unfoldable pub then_bS : Option Outcome → (List Value → ℕ → Option Ending) → Option Ending
then_bS none k = none
then_bS (some (yields vs left)) k = k vs left
then_bS (some Outcome.unfinished) k = some Ending.unfinished

unfoldable pub after_s : Option Ending → (List Value → ℕ → Option Outcome) → Option Outcome
after_s none k = none
after_s (some (again vs left)) k = k vs left
after_s (some (returns vs left)) k = some (yields vs left)
after_s (some Ending.unfinished) k = some Outcome.unfinished

unfoldable pub enter_s : ℕ → (ℕ → Option Outcome) → Option Outcome
enter_s zero k = some Outcome.unfinished
enter_s (suc left) k = k left

unfoldable pub loop_s : ℕ → (Env → ℕ → Option Ending) → (List Value → Env) → Env → ℕ → Option Outcome
unfolding after_s enter_s
loop_s zero round rebind env left = some Outcome.unfinished
loop_s (suc bound) round rebind env left =
    enter_s left λ l. after_s (round env l) λ vs l'. loop_s bound round rebind (rebind vs) l'

unfoldable mutual
  unfolding bind guard then_s then_bS loop_s branch width apply wanted

  pub strict_e : Exp → Env → ℕ → Option Outcome
  strict_e (identifier a) env left = some (yields (env a ∷ []) left)
  strict_e (constant k a) env left = some (yields (constant_value k a ∷ []) left)
  strict_e (pair x y) env left =
      then_s (strict_e x env left) λ vs l. then_s (strict_e y env l) λ ws l'. some (yields (vs ++ ws) l')
  strict_e (operator k x) env left =
      then_s (strict_e x env left) λ vs l.
      guard (operands_wanted k (get_or vs 0 err) (get_or vs 1 err)) (some (yields (apply k (get_or vs 0 err) (get_or vs 1 err) ∷ []) l))
  strict_e (let_e a b x y) env left = then_s (strict_e x env left) λ vs l. strict_e y (bind a b vs env) l
  strict_e (if_e t x y) env left =
      then_s (strict_e t env left) λ vs l.
      guard (test_wanted (get_or vs 0 err))
      (branch (sense (get_or vs 0 err)) (some (yields (replicate (width x) err) l)) (λ _. strict_e x env l) (λ _. strict_e y env l))
  strict_e (for_e a b x y) env left =
      then_s (strict_e x env left) λ vs l.
      loop_s l (λ e m. strict_b y (returned y) e m) (λ ws. bind a b ws env) (bind a b vs env) l

  pub strict_b : Body → ℕ → Env → ℕ → Option Ending
  strict_b (ret x) w env left = then_bS (strict_e x env left) λ vs l. some (returns vs l)
  strict_b (iter x) w env left = then_bS (strict_e x env left) λ vs l. some (again vs l)
  strict_b (let_b a b x y) w env left = then_bS (strict_e x env left) λ vs l. strict_b y w (bind a b vs env) l
  strict_b (if_b t x y) w env left =
      then_bS (strict_e t env left) λ vs l.
      guard (test_wanted (get_or vs 0 err))
      (branch (sense (get_or vs 0 err)) (some (returns (replicate w err) l)) (λ _. strict_b x w env l) (λ _. strict_b y w env l))
