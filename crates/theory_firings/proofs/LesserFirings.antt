-- Laws of specs/LesserFirings.antt, and what only they need.
use Rattle.std.specs.Prelude.{◌≡◌, refl, [], ◌∷◌}
use Rattle.std.proofs.Math.Decide.{dec_lt, ℕ_discrete}
use Rattle.value.specs.Operators.{apply}
use Rattle.network.specs.Net.{pop, append}
use Rattle.network.specs.Ends.{capacities}
use Rattle.graph.specs.Translation.{made_of}
use Rattle.theory_reference.specs.Marks.{marks}
use Rattle.theory_wiring.specs.LesserOfTwo.{lesser_of_two}
use Rattle.theory_verdicts.specs.Running.{both, dec_room, dec_able, steps_from, standing, pushed}
use Rattle.theory_rounds.specs.InTurn.{fires_from}
use Rattle.theory_rounds.proofs.EarlyEnd.{still-after-round}
use Rattle.theory_firings.specs.SameFirings.{AtRest}
use Rattle.theory_firings.specs.LesserFirings.{first_set, second_set, one_by_one, close_behind, firings_of, none_taken}

pub one-by-one-sets : pushed lesser_of_two 1 one_by_one ≡ first_set ∷ second_set ∷ []
unfolding steps_from made_of dec_able both dec_lt marks dec_room capacities ℕ_discrete append pop apply
one-by-one-sets = refl

pub close-behind-sets : pushed lesser_of_two 2 close_behind ≡ first_set ∷ second_set ∷ []
unfolding steps_from made_of dec_able both dec_lt marks dec_room capacities ℕ_discrete append pop apply
close-behind-sets = refl

one-by-one-still : steps_from lesser_of_two 1 (fires_from 8 0) (standing lesser_of_two 1 one_by_one) ≡ []
unfolding steps_from made_of dec_able both dec_lt marks dec_room capacities ℕ_discrete append pop apply
one-by-one-still = refl

close-behind-still : steps_from lesser_of_two 2 (fires_from 8 0) (standing lesser_of_two 2 close_behind) ≡ []
unfolding steps_from made_of dec_able both dec_lt marks dec_room capacities ℕ_discrete append pop apply
close-behind-still = refl

pub one-by-one-rests : AtRest lesser_of_two 1 one_by_one
unfolding steps_from made_of dec_able both dec_lt marks dec_room capacities ℕ_discrete append pop apply
one-by-one-rests = record { still = still-after-round lesser_of_two 1 (standing lesser_of_two 1 one_by_one) one-by-one-still; all-taken = refl }

pub close-behind-rests : AtRest lesser_of_two 2 close_behind
unfolding steps_from made_of dec_able both dec_lt marks dec_room capacities ℕ_discrete append pop apply
close-behind-rests = record { still = still-after-round lesser_of_two 2 (standing lesser_of_two 2 close_behind) close-behind-still; all-taken = refl }

pub fired-one-by-one : firings_of 1 one_by_one ≡ 2 ∷ 2 ∷ 2 ∷ 2 ∷ 2 ∷ 2 ∷ 2 ∷ 2 ∷ []
unfolding steps_from made_of dec_able both dec_lt marks dec_room capacities ℕ_discrete append pop apply
fired-one-by-one = refl

pub fired-close-behind : firings_of 2 close_behind ≡ 2 ∷ 2 ∷ 2 ∷ 2 ∷ 2 ∷ 2 ∷ 2 ∷ 2 ∷ []
unfolding steps_from made_of dec_able both dec_lt marks dec_room capacities ℕ_discrete append pop apply
fired-close-behind = refl

pub none-taken-sets : pushed lesser_of_two 1 none_taken ≡ first_set ∷ second_set ∷ []
unfolding steps_from made_of dec_able both dec_lt marks dec_room capacities ℕ_discrete append pop apply
none-taken-sets = refl

pub none-taken-still : steps_from lesser_of_two 1 (fires_from 8 0) (standing lesser_of_two 1 none_taken) ≡ []
unfolding steps_from made_of dec_able both dec_lt marks dec_room capacities ℕ_discrete append pop apply
none-taken-still = refl

pub fired-none-taken : firings_of 1 none_taken ≡ 2 ∷ 2 ∷ 2 ∷ 2 ∷ 2 ∷ 2 ∷ 2 ∷ 1 ∷ []
unfolding steps_from made_of dec_able both dec_lt marks dec_room capacities ℕ_discrete append pop apply
fired-none-taken = refl
