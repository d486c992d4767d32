-- What RestEmpty assumes can be met and is needed, by computation. Document 01's example, the lesser of two, is at rest with its set taken, and each of its 14 links
-- is empty; with the set untaken nothing can fire either, and its result waits on the last link. "for x1 = x0 do if x1 then iter x1 else x1", at rest with its
-- set taken, has a false on the control links of its two gates: it must be without for.
use Rattle.std.specs.Prelude.{◌≡◌, refl, false, List, [], ◌∷◌, map, pos}
use Rattle.value.specs.declared.Value.TheVariants.{Whole, Truth}
use Rattle.value.specs.Operators.{apply}
use Rattle.network.specs.Net.{Token, val, pop, append}
use Rattle.network.specs.Ends.{capacities}
use Rattle.theory_pieces.specs.Load.{set_link}
use Rattle.formula.specs.Tree.{Exp, identifier, for_e, ret, iter, if_b}
use Rattle.graph.specs.Assembly.{up_from}
use Rattle.graph.specs.Translation.{made_of}
use Rattle.theory_reference.specs.Marks.{marks}
use Rattle.theory_wiring.specs.LesserOfTwo.{lesser_of_two}
use Rattle.theory_verdicts.specs.Running.{both, dec_room, dec_able, Call, pushes, runs, takes, steps_from, standing}
use Rattle.theory_rounds.specs.InTurn.{fires_from}
use Rattle.theory_firings.specs.SameFirings.{AtRest}

-- What waits on each link of the graph, at capacity 1.
abbrev pub waiting : Exp → List Call → List (List Token)
waiting x calls = map (standing x 1 calls) (up_from 0 (made_of x).links)

abbrev pub untaken : List Call
untaken = pushes (Whole (pos 3) ∷ Whole (pos 5) ∷ []) ∷ runs 30 ∷ []

abbrev pub all_taken : List Call
all_taken = pushes (Whole (pos 3) ∷ Whole (pos 5) ∷ []) ∷ runs 30 ∷ takes ∷ []

-- ---- a loop
abbrev pub a_loop : Exp
a_loop = for_e 1 1 (identifier 0) (if_b (identifier 1) (iter (identifier 1)) (ret (identifier 1)))

abbrev pub loop_taken : List Call
loop_taken = pushes (Truth false ∷ []) ∷ runs 30 ∷ takes ∷ []
