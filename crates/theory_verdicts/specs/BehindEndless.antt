-- A result taken behind a set that never ends: "let x4 = (for x2 = x1 do if x2 then iter x2 else x0) in if x3 then x0 else x4". Where x1 is true the loop goes on for
-- ever, and so does direct evaluation, which evaluates what a let binds, used or not; the machine gives x0 where x3 is true without waiting for the loop. Of
-- the sets (6, T, T) and (5, F, T) it hands out 6, though the first has no result by evaluation, and 5, the second's, while the loop is under way. By computation.
use Rattle.std.specs.Prelude.{ℕ, zero, suc, ◌≡◌, refl, true, false, List, [], ◌∷◌, ◌++◌, map, pos}
use Rattle.value.specs.declared.Value.{Value}
use Rattle.value.specs.declared.Value.TheVariants.{Whole, Truth}
use Rattle.value.specs.Operators.{apply}
use Rattle.network.specs.Net.{val, pop, append}
use Rattle.network.specs.Ends.{capacities}
use Rattle.theory_pieces.specs.Load.{set_link}
use Rattle.theory_pieces.specs.Tape.{Step, pushing, firing, taking}
use Rattle.formula.specs.Tree.{Exp, identifier, let_e, if_e, for_e, Body, ret, iter, if_b}
use Rattle.formula.specs.Free.{free_e}
use Rattle.meaning.specs.Meaning.{Env, bind, Outcome, unfinished, then, loop, eval_e, eval_b, inputs_hold}
use Rattle.graph.specs.Translation.{made_of}
use Rattle.theory_reference.specs.Marks.{marks}
use Rattle.theory_verdicts.specs.Running.{Call, pushes, fires, takes}

abbrev pub body : Body
body = if_b (identifier 2) (iter (identifier 2)) (ret (identifier 0))

abbrev pub beside_loop : Exp
beside_loop = let_e 4 1 (for_e 2 1 (identifier 1) body) (if_e (identifier 3) (identifier 0) (identifier 4))

abbrev pub endless_set : List Value
endless_set = Whole (pos 6) ∷ Truth true ∷ Truth true ∷ []

abbrev pub ending_set : List Value
ending_set = Whole (pos 5) ∷ Truth false ∷ Truth true ∷ []

abbrev pub swapped_set : List Value
swapped_set = Whole (pos 7) ∷ Truth false ∷ Truth true ∷ []

-- The operators that a result needs where x3 is true, and those of one round of the loop, its gates 17, 18 and 19 first, in orders in which they can fire.
abbrev pub chosen : List ℕ
chosen = 0 ∷ 20 ∷ 21 ∷ 22 ∷ 24 ∷ []

abbrev pub one_round : List ℕ
one_round = 17 ∷ 18 ∷ 19 ∷ 1 ∷ 2 ∷ 3 ∷ 4 ∷ 5 ∷ 6 ∷ 7 ∷ 8 ∷ 9 ∷ 10 ∷ 11 ∷ 13 ∷ 15 ∷ 16 ∷ []

abbrev pub passes : List Value → List Step
passes v = pushing v ∷ (map firing chosen ++ (taking ∷ []))

-- The loop of the first set goes one round before the second set is pushed and one after its result is taken.
abbrev pub overtaking : List Step
overtaking = passes endless_set ++ (map firing one_round ++ (passes ending_set ++ map firing one_round))

-- With another first set, and no round of the loop.
abbrev pub without_loop : List Step
without_loop = passes swapped_set ++ passes ending_set

-- The calls that ask for these steps.
abbrev pub asked : List Step → List Call
asked [] = []
asked (pushing v ∷ w) = pushes v ∷ asked w
asked (firing a ∷ w) = fires a ∷ asked w
asked (taking ∷ w) = takes ∷ asked w

abbrev pub given : Env
given = inputs_hold (free_e beside_loop) endless_set
