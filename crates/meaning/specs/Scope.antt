-- Evaluation reads the free names alone (document 01, "Names free in a row follow ordinary scope"): two environments that agree on a
-- formula's free names give one outcome. Assumes nothing of the tree.
use Rattle.std.specs.Prelude.{ℕ, zero, suc, ◌-◌, ◌≡◌, refl, Bool, true, false, not, ◌&&◌, ◌||◌, cond, List, [], ◌∷◌, ◌++◌, eqb, get_or, replicate}
use Rattle.value.specs.declared.Value.{Value}
use Rattle.value.specs.Senses.{err, sense}
use Rattle.value.specs.Operators.{apply}
use Rattle.names.specs.Names.{Names, trigger, one, union, without, range}
use Rattle.formula.specs.Tree.{Exp, identifier, constant, pair, operator, let_e, if_e, for_e, Body, ret, iter, let_b, if_b}
use Rattle.formula.specs.Free.{free_e, free_b}
use Rattle.formula.specs.Widths.{width, returned}
use Rattle.meaning.specs.Meaning.{Env}

-- Two environments agree on a set of names.
abbrev pub Agree : Names → Env → Env → Type 0
Agree f e e' = (k : ℕ) → f k ≡ true → e k ≡ e' k
