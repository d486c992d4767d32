-- Document 01's example, the lesser of two, by computation: at capacity 1 its two sets are worked one after the other, at capacity 2 the second comes close behind
-- the first and the operators fire in another order; both end at rest, and each of the 8 operators has fired twice. So what SameFirings assumes can be met. And
-- "every pushed set is taken" is needed: at capacity 1 with no take nothing can fire, and the last operator has fired once.
use Rattle.std.specs.Prelude.{ℕ, ◌≡◌, refl, List, [], ◌∷◌, map, pos}
use Rattle.value.specs.declared.Value.{Value}
use Rattle.value.specs.declared.Value.TheVariants.{Whole}
use Rattle.value.specs.Operators.{apply}
use Rattle.value.specs.Senses.{err}
use Rattle.network.specs.Net.{pop, append}
use Rattle.network.specs.Ends.{capacities}
use Rattle.graph.specs.Translation.{made_of}
use Rattle.theory_reference.specs.Marks.{marks}
use Rattle.theory_wiring.specs.LesserOfTwo.{lesser_of_two}
use Rattle.theory_verdicts.specs.Running.{both, dec_room, dec_able, Call, pushes, fires, runs, takes, steps_from, history, standing, pushed}
use Rattle.theory_rounds.specs.InTurn.{fires_from, times}

abbrev pub first_set : List Value
first_set = Whole (pos 3) ∷ Whole (pos 5) ∷ []

abbrev pub second_set : List Value
second_set = err ∷ Whole (pos 2) ∷ []

-- One set after the other.
abbrev pub one_by_one : List Call
one_by_one = pushes first_set ∷ runs 30 ∷ takes ∷ pushes second_set ∷ runs 30 ∷ takes ∷ []

-- The second set is pushed before the first is worked off; a fire and a take are refused.
abbrev pub close_behind : List Call
close_behind = pushes first_set ∷ fires 1 ∷ fires 0 ∷ fires 7 ∷ runs 2 ∷ pushes second_set ∷ fires 1 ∷ takes ∷ runs 30 ∷ takes ∷ takes ∷ []

-- How often each of the 8 operators fires.
abbrev pub firings_of : ℕ → List Call → List ℕ
firings_of capacity calls = map (λ (i : ℕ). times i (history lesser_of_two capacity calls)) (0 ∷ 1 ∷ 2 ∷ 3 ∷ 4 ∷ 5 ∷ 6 ∷ 7 ∷ [])

-- ---- not every pushed set is taken
abbrev pub none_taken : List Call
none_taken = pushes first_set ∷ runs 30 ∷ pushes second_set ∷ runs 30 ∷ []
