-- One set pushed and one set taken, on the machine over a piece (network, Ends.antt): what push makes of the tape, and what take hands out.
-- Assumes of the numbers only that push and take are no operators of the graph and that source and credit are no links of it.
use Rattle.std.specs.Prelude.{ℕ, ◌≤◌, ◌≡◌, refl, ◌≢◌, ◌⊎◌, List, [], ◌∷◌, ◌++◌}
use Rattle.value.specs.declared.Value.{Value}
use Rattle.network.specs.Values.{true-value}
use Rattle.network.specs.Net.{Token, val, Demand, ask, fire, halt, Links, head, tail, pop, append, Room, Able, act, label}
use Rattle.network.specs.Ends.{draw, collect, push-demand, take-demand}
use Rattle.network.specs.Uses.{In}

abbrev pub tokens-of : List Value → List Token
tokens-of [] = []
tokens-of (v ∷ vs) = val v ∷ tokens-of vs

abbrev pub onto : List ℕ → List Value → List (ℕ × Token)
onto [] vs = []
onto (i ∷ is) [] = []
onto (i ∷ is) (v ∷ vs) = (i, val v) ∷ onto is vs

abbrev pub Different : List ℕ → Type 0
Different [] = Unit {0}
Different (l ∷ ls) = (In l ls → ⊥) × Different ls
