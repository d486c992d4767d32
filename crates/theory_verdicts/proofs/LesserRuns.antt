-- Laws of specs/LesserRuns.antt, and what only they need.
use Rattle.std.specs.Prelude.{◌≡◌, refl, [], ◌∷◌, pos}
use Rattle.std.proofs.Math.Decide.{dec_lt, ℕ_discrete}
use Rattle.value.specs.declared.Value.TheVariants.{Whole}
use Rattle.value.specs.Operators.{apply}
use Rattle.value.specs.Senses.{err}
use Rattle.network.specs.Net.{val, pop, append}
use Rattle.network.specs.Ends.{capacities}
use Rattle.graph.specs.Translation.{made_of}
use Rattle.theory_reference.specs.Marks.{marks}
use Rattle.theory_wiring.specs.LesserOfTwo.{lesser_of_two}
use Rattle.theory_verdicts.specs.Running.{both, dec_room, dec_able, steps_from, pushed, taken}
use Rattle.theory_verdicts.specs.LesserRuns.{first_set, second_set, mixed_calls}

pub lesser-pushed : pushed lesser_of_two 1 mixed_calls ≡ first_set ∷ second_set ∷ []
unfolding steps_from made_of dec_able both dec_lt marks dec_room capacities ℕ_discrete append pop apply
lesser-pushed = refl

pub lesser-taken : taken lesser_of_two 1 mixed_calls ≡ (val (Whole (pos 3)) ∷ []) ∷ (val err ∷ []) ∷ []
unfolding steps_from made_of dec_able both dec_lt marks dec_room capacities ℕ_discrete append pop apply
lesser-taken = refl
