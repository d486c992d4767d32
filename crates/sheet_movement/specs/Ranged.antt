-- The values of a tree of the sorts of Drifts are in range, as its inputs' and constants' are: their byte form is read back as they are. Assumes a tree
-- that document 01's rules admit.
use Rattle.std.specs.Prelude.{ℕ, zero, suc, ◌-◌, ◌≡◌, Bool, true, false, cond, List, [], ◌∷◌, ◌++◌, get_or}
use Rattle.value.specs.declared.Value.{Value}
use Rattle.value.specs.Bytes.{InRange}
use Rattle.value.specs.Senses.{err}
use Rattle.names.specs.Names.{range}
use Rattle.formula.specs.Tree.{Exp, identifier, constant, pair, operator, let_e, if_e, for_e}
use Rattle.formula.specs.Admitted.{AdmittedE}
use Rattle.meaning.specs.Meaning.{Env, bind, yields, eval_e}

-- At every place: past the values there is err.
abbrev pub AllRanged : List Value → Type 0
AllRanged vs = (i : ℕ) → InRange (get_or vs i err)

abbrev pub RangedEnv : Env → Type 0
RangedEnv env = (k : ℕ) → InRange (env k)
