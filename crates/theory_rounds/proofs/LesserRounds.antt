-- Laws of specs/LesserRounds.antt, and what only they need.
use Rattle.std.specs.Prelude.{◌-◌, ◌≡◌, refl, [], ◌∷◌, ◌++◌}
use Rattle.std.proofs.Math.Decide.{dec_lt, ℕ_discrete}
use Rattle.value.specs.Operators.{apply}
use Rattle.network.specs.Net.{pop, append}
use Rattle.network.specs.Ends.{capacities}
use Rattle.theory_pieces.specs.Tape.{taking}
use Rattle.graph.specs.Translation.{made_of}
use Rattle.theory_reference.specs.Marks.{marks}
use Rattle.theory_wiring.specs.LesserOfTwo.{lesser_of_two}
use Rattle.theory_verdicts.specs.Running.{both, dec_room, dec_able, pushes, takes, start_of, steps_of, steps_from, history, standing, pushed}
use Rattle.theory_rounds.specs.InTurn.{rounds_of, in_turn, AllAccepted, owed}
use Rattle.theory_rounds.specs.LesserRounds.{first_set, second_set, close_behind, first_alone, firings_in, is_less}

both-pushed : pushed lesser_of_two 2 close_behind ≡ first_set ∷ second_set ∷ []
unfolding steps_from made_of dec_able both dec_lt marks dec_room capacities ℕ_discrete append pop apply
both-pushed = refl

first-accepted : AllAccepted lesser_of_two 2 first_alone (start_of lesser_of_two)
unfolding steps_from steps_of made_of dec_able both dec_lt marks dec_room capacities ℕ_discrete append pop apply
first-accepted = (refl, (tt, (refl, tt)))

pub three-owed : owed lesser_of_two (history lesser_of_two 2 first_alone) (history lesser_of_two 2 close_behind) ≡ 3
unfolding steps_from made_of dec_able both dec_lt marks dec_room capacities ℕ_discrete append pop apply
three-owed = refl

pub none-in-one-sum : firings_in (history lesser_of_two 2 first_alone) - firings_in (history lesser_of_two 2 close_behind) ≡ 0
unfolding steps_from made_of dec_able both dec_lt marks dec_room capacities ℕ_discrete append pop apply
none-in-one-sum = refl

pub not-ready : steps_of lesser_of_two 2 takes (standing lesser_of_two 2 (close_behind ++ rounds_of lesser_of_two 0)) ≡ []
unfolding steps_from steps_of made_of dec_able both dec_lt marks dec_room capacities ℕ_discrete append pop apply
not-ready = refl

pub ready-then : steps_of lesser_of_two 2 takes (standing lesser_of_two 2 (close_behind ++ rounds_of lesser_of_two 3)) ≡ taking ∷ []
unfolding steps_from steps_of made_of dec_able both dec_lt marks dec_room capacities ℕ_discrete append pop apply
ready-then = refl

pub one-owed : owed is_less (history is_less 1 (in_turn (first_set ∷ []) ((1 ∷ []) ∷ []))) (history is_less 1 (pushes first_set ∷ [])) ≡ 1
unfolding steps_from made_of dec_able both dec_lt marks dec_room capacities ℕ_discrete append pop apply
one-owed = refl

pub none-too-early : steps_of is_less 1 takes (standing is_less 1 ((pushes first_set ∷ []) ++ rounds_of is_less 0)) ≡ []
unfolding steps_from steps_of made_of dec_able both dec_lt marks dec_room capacities ℕ_discrete append pop apply
none-too-early = refl

pub one-in-time : steps_of is_less 1 takes (standing is_less 1 ((pushes first_set ∷ []) ++ rounds_of is_less 1)) ≡ taking ∷ []
unfolding steps_from steps_of made_of dec_able both dec_lt marks dec_room capacities ℕ_discrete append pop apply
one-in-time = refl
