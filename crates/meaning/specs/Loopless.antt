-- A formula without for: its evaluation ends, and no round is used. Assumes nothing.
use Rattle.std.specs.Prelude.{ℕ, ◌≡◌, refl, List, [], ◌∷◌, ◌++◌, get_or}
use Rattle.value.specs.declared.Value.{Value}
use Rattle.value.specs.Senses.{err, sense}
use Rattle.formula.specs.Tree.{Exp, identifier, constant, pair, operator, let_e, if_e, for_e}
use Rattle.meaning.specs.Meaning.{Outcome, yields}

abbrev pub Loopless : Exp → Type 0
Loopless (identifier a) = Unit {0}
Loopless (constant k a) = Unit {0}
Loopless (pair x y) = Loopless x × Loopless y
Loopless (operator k x) = Loopless x
Loopless (let_e a b x y) = Loopless x × Loopless y
Loopless (if_e t x y) = Loopless t × Loopless x × Loopless y
Loopless (for_e a b x y) = ⊥

-- The outcome is some values, with all the rounds left.
abbrev pub Whole-left : Outcome → ℕ → Type 0
Whole-left o left = (vs : List Value) × (o ≡ yields vs left)
