-- Document 01's example, the lesser of two, run on the abstract machine at capacity 1: the sets (3, 5) and (E, 2) travel the graph at once and give 3
-- and E; a set of one value, a push onto full links and a take too early or too many are refused. So the calls of Running accept what they should.
use Rattle.std.specs.Prelude.{◌≡◌, refl, List, [], ◌∷◌, pos}
use Rattle.value.specs.declared.Value.{Value}
use Rattle.value.specs.declared.Value.TheVariants.{Whole}
use Rattle.value.specs.Operators.{apply}
use Rattle.value.specs.Senses.{err}
use Rattle.network.specs.Net.{val, pop, append}
use Rattle.network.specs.Ends.{capacities}
use Rattle.graph.specs.Translation.{made_of}
use Rattle.theory_reference.specs.Marks.{marks}
use Rattle.theory_wiring.specs.LesserOfTwo.{lesser_of_two}
use Rattle.theory_verdicts.specs.Running.{Call, pushes, fires, runs, takes}

abbrev pub first_set : List Value
first_set = Whole (pos 3) ∷ Whole (pos 5) ∷ []

abbrev pub second_set : List Value
second_set = err ∷ Whole (pos 2) ∷ []

abbrev pub mixed_calls : List Call
mixed_calls =
    pushes (Whole (pos 3) ∷ [])
    ∷ takes
    ∷ pushes first_set
    ∷ pushes second_set
    ∷ fires 1
    ∷ runs 1
    ∷ pushes second_set
    ∷ runs 30
    ∷ takes
    ∷ runs 30
    ∷ takes
    ∷ takes
    ∷ []
