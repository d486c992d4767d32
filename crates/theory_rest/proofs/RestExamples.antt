-- Laws of specs/RestExamples.antt, and what only they need.
use Rattle.std.specs.Prelude.{◌≡◌, refl, false, [], ◌∷◌, map, pos}
use Rattle.std.proofs.Math.Decide.{dec_lt, ℕ_discrete}
use Rattle.value.specs.declared.Value.TheVariants.{Whole, Truth}
use Rattle.value.specs.Operators.{apply}
use Rattle.network.specs.Net.{val, pop, append}
use Rattle.network.specs.Ends.{capacities}
use Rattle.theory_pieces.specs.Load.{set_link}
use Rattle.graph.specs.Assembly.{up_from}
use Rattle.graph.specs.Translation.{made_of}
use Rattle.theory_reference.specs.Marks.{marks}
use Rattle.theory_wiring.specs.LesserOfTwo.{lesser_of_two}
use Rattle.theory_verdicts.specs.Running.{both, dec_room, dec_able, steps_from, standing}
use Rattle.theory_rounds.specs.InTurn.{fires_from}
use Rattle.theory_rounds.proofs.EarlyEnd.{still-after-round}
use Rattle.theory_firings.specs.SameFirings.{AtRest}
use Rattle.theory_rest.specs.RestExamples.{waiting, untaken, all_taken, a_loop, loop_taken}

all-taken-still : steps_from lesser_of_two 1 (fires_from 8 0) (standing lesser_of_two 1 all_taken) ≡ []
unfolding steps_from made_of dec_able both dec_lt marks dec_room capacities ℕ_discrete append pop apply set_link
all-taken-still = refl

pub all-taken-rests : AtRest lesser_of_two 1 all_taken
unfolding steps_from made_of dec_able both dec_lt marks dec_room capacities ℕ_discrete append pop apply set_link
all-taken-rests = record { still = still-after-round lesser_of_two 1 (standing lesser_of_two 1 all_taken) all-taken-still; all-taken = refl }

pub all-taken-empty : waiting lesser_of_two all_taken ≡ [] ∷ [] ∷ [] ∷ [] ∷ [] ∷ [] ∷ [] ∷ [] ∷ [] ∷ [] ∷ [] ∷ [] ∷ [] ∷ [] ∷ []
unfolding steps_from made_of dec_able both dec_lt marks dec_room capacities ℕ_discrete append pop apply set_link up_from
all-taken-empty = refl

-- ---- a set untaken
pub untaken-still : steps_from lesser_of_two 1 (fires_from 8 0) (standing lesser_of_two 1 untaken) ≡ []
unfolding steps_from made_of dec_able both dec_lt marks dec_room capacities ℕ_discrete append pop apply set_link
untaken-still = refl

pub untaken-waits : standing lesser_of_two 1 untaken 13 ≡ val (Whole (pos 3)) ∷ []
unfolding steps_from made_of dec_able both dec_lt marks dec_room capacities ℕ_discrete append pop apply set_link
untaken-waits = refl

loop-still : steps_from a_loop 1 (fires_from 18 0) (standing a_loop 1 loop_taken) ≡ []
unfolding steps_from made_of dec_able both dec_lt marks dec_room capacities ℕ_discrete append pop apply set_link
loop-still = refl

pub loop-rests : AtRest a_loop 1 loop_taken
unfolding steps_from made_of dec_able both dec_lt marks dec_room capacities ℕ_discrete append pop apply set_link
loop-rests = record { still = still-after-round a_loop 1 (standing a_loop 1 loop_taken) loop-still; all-taken = refl }

-- The controls are the last two of 29 links.
pub loop-links : (made_of a_loop).links ≡ 29
unfolding made_of
loop-links = refl

pub loop-controls : map (standing a_loop 1 loop_taken) (26 ∷ 27 ∷ 28 ∷ []) ≡ [] ∷ (val (Truth false) ∷ []) ∷ (val (Truth false) ∷ []) ∷ []
unfolding steps_from made_of dec_able both dec_lt marks dec_room capacities ℕ_discrete append pop apply set_link
loop-controls = refl
