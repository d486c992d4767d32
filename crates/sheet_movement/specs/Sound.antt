-- Document 02, Job 13: "Then each result that is err in neither set moves no further than its number." Of a tree of the sorts of Drifts, evaluated
-- in two environments that are near identifier by identifier. Whether the numbers fit (21) is of no consequence here. Rests on test 8: without the
-- width 1 of the row beside a constant nothing says in which place of the operands the constant stands.
use Rattle.std.specs.Prelude.{ℕ, zero, suc, ◌-◌, ◌≡◌, Bool, true, false, cond, List, [], ◌∷◌, ◌++◌, pos, length, get_or}
use Rattle.value.specs.declared.Reason.TheVariants.{Other}
use Rattle.value.specs.declared.Value.{Value}
use Rattle.value.specs.declared.Value.TheVariants.{Whole}
use Rattle.value.specs.Operators.{apply, operands}
use Rattle.value.specs.Senses.{err}
use Rattle.names.specs.Names.{range}
use Rattle.formula.specs.Tree.{Exp, identifier, constant, pair, operator, let_e, if_e, for_e}
use Rattle.formula.specs.Widths.{width}
use Rattle.meaning.specs.Meaning.{Env, bind, Outcome, yields, then, eval_e}
use Rattle.meaning.specs.Loopless.{Loopless}
use Rattle.meaning.specs.WidthLaws.{SoundE, Sized}
use Rattle.sheet_movement.specs.Moves.{Moves}
use Rattle.sheet_movement.specs.Near.{Near}

-- ---- lists of values, place by place
-- As many values as numbers, and each near.
pub data AllNear : List ℕ → List Value → List Value → Type 0 where
  none : AllNear [] [] []
  more : {d : ℕ} {v w : Value} {ds : List ℕ} {vs ws : List Value} → Near d v w → AllNear ds vs ws → AllNear (d ∷ ds) (v ∷ vs) (w ∷ ws)

-- ---- outcomes
-- Where both end, the values are near.
abbrev pub BothNear : List ℕ → Outcome → Outcome → Type 0
BothNear ds (yields vs l) (yields ws m) = AllNear ds vs ws
BothNear ds (yields vs l) Outcome.unfinished = Unit {0}
BothNear ds Outcome.unfinished o = Unit {0}

-- ---- environments
abbrev pub NearEnv : Moves → Env → Env → Type 0
NearEnv moves u v = (k : ℕ) → Near (moves k) (u k) (v k)

-- ---- operands: in which place a constant stands
abbrev pub First : ℕ → List Value → Type 0
First a vs = get_or vs 0 err ≡ Whole (pos a)

abbrev pub Second : ℕ → List Value → Type 0
Second a vs = get_or vs 1 err ≡ Whole (pos a)
