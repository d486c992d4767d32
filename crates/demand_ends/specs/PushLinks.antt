-- Push on the links of the network (theory_verdicts/specs/Running: push_of), unfolded: document 01, "Push gives one value to each input link, and one
-- trigger if that link exists". Input j has link j, the trigger the next (theory_wiring/specs/MadeGraph: push_links), so these are different links, and
-- push can be made when each has a free place and fewer than sixteen sets are untaken. Assumes of the graph that its links lie below the credit
-- link.
use Prim.Native.Nat.{ℕ, zero, suc, ◌+◌, ◌≤◌, ◌<◌}
use Rattle.std.specs.Prelude.{◌≡◌, refl, Bool, true, false, get_or}
use mathlib.Core.List.{List, [], ◌∷◌, ◌++◌}
use Rattle.names.specs.Names.{bit}
use Rattle.value.specs.declared.Value.{Value}
use Rattle.value.specs.Senses.{err}
use Rattle.network.specs.Values.{true-value}
use Rattle.network.specs.Net.{Token, val, Demand, fire, Links, append, Room, Able, appends, act}
use Rattle.network.specs.Ends.{capacities}
use Rattle.theory_pieces.specs.Sets.{onto}
use Rattle.graph.specs.Assembly.{up_from}
use Rattle.graph.specs.Translation.{Made}
use Rattle.theory_wiring.specs.MadeGraph.{push_links}
use Rattle.theory_verdicts.specs.Owed.{credit_link}
use Rattle.theory_verdicts.specs.Running.{places, with_trigger}

-- Push on a graph: for a formula x, `push_of x v` is `push_into (made_of x) v`.
abbrev pub push_into : Made → List Value → Demand
push_into g v = fire ((credit_link, val true-value) ∷ onto (push_links g) (with_trigger g.triggered v)) []

-- The first values of a set given to as many links from a on.
abbrev pub given_from : ℕ → ℕ → List Value → Links → Links
given_from a zero v q = q
given_from a (suc j) v q = append (a + j) (val (get_or v j err)) (given_from a j v q)

-- The first values of a set given to the links 0, 1, ..
abbrev pub given : ℕ → List Value → Links → Links
given zero v q = q
given (suc j) v q = append j (val (get_or v j err)) (given j v q)

-- "one trigger if that link exists"
abbrev pub cued : Bool → ℕ → Links → Links
cued true l q = append l (val true-value) q
cued false l q = q
