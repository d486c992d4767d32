-- Document 01's example, the lesser of two, at capacity 2: a second set comes close behind the first. Of the first set's 8 firings 5 are made, so 3 are owed; in one
-- sum it would be none, as the second set has made 3 of its own, yet a take is refused. And a graph of one operator: with one round less than owed the
-- take is refused. So what is owed is counted operator by operator, and is no smaller than it says.
use Rattle.std.specs.Prelude.{ℕ, ◌-◌, ◌≡◌, refl, List, [], ◌∷◌, ◌++◌, pos}
use Rattle.value.specs.declared.Value.{Value}
use Rattle.value.specs.declared.Value.TheVariants.{Whole}
use Rattle.value.specs.Operators.{apply}
use Rattle.value.specs.Senses.{err}
use Rattle.network.specs.Net.{pop, append}
use Rattle.network.specs.Ends.{capacities}
use Rattle.theory_pieces.specs.Tape.{Step, taking}
use Rattle.formula.specs.Tree.{Exp, identifier, pair, operator}
use Rattle.graph.specs.Translation.{made_of}
use Rattle.theory_reference.specs.Marks.{marks}
use Rattle.theory_wiring.specs.LesserOfTwo.{lesser_of_two}
use Rattle.theory_verdicts.specs.Running.{both, dec_room, dec_able, Call, pushes, fires, takes, start_of, steps_of, steps_from, history, standing, pushed}
use Rattle.theory_rounds.specs.InTurn.{in_turn, times, sum_below}

abbrev pub first_set : List Value
first_set = Whole (pos 3) ∷ Whole (pos 5) ∷ []

abbrev pub second_set : List Value
second_set = err ∷ Whole (pos 2) ∷ []

-- The second set is pushed before the first is worked off, and fires operators 0 to 2.
abbrev pub close_behind : List Call
close_behind = pushes first_set ∷ fires 0 ∷ fires 1 ∷ fires 2 ∷ fires 3 ∷ fires 4 ∷ pushes second_set ∷ fires 0 ∷ fires 1 ∷ fires 2 ∷ []

abbrev pub first_alone : List Call
first_alone = in_turn (first_set ∷ []) ((30 ∷ []) ∷ [])

abbrev pub firings_in : List Step → ℕ
firings_in w = sum_below 8 (λ i. times i w)

-- ---- one operator
abbrev pub is_less : Exp
is_less = operator 6 (pair (identifier 0) (identifier 1))
