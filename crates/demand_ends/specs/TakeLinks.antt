-- Take on the links of the network (theory_verdicts/specs/Running: takeOf), unfolded: document 01, "Take removes one value from each result port". The
-- result links are different, so what take hands out are their heads as they stand before, and take can be made when each has a token and a set is
-- untaken. Assumes of the graph that its result links are different and lie below the credit link.
use Rattle.std.specs.Prelude.{ℕ, zero, suc, ◌<◌, ◌≡◌, refl, ◌≢◌, ◌⊎◌, List, [], ◌∷◌, length, get_or}
use Rattle.network.specs.Net.{Token, Demand, ask, fire, Links, head, pop, Able, act, label}
use Rattle.network.specs.Ends.{collect, take-demand}
use Rattle.network.specs.Uses.{In}
use Rattle.theory_pieces.specs.Sets.{Different}
use Rattle.theory_verdicts.specs.Owed.{credit_link}

-- The heads of some links.
abbrev pub heads_of : List ℕ → Links → List Token
heads_of [] q = []
heads_of (l ∷ ls) q = head (q l) ∷ heads_of ls q

-- The links without the heads of the first of them.
abbrev pub popped : ℕ → List ℕ → Links → Links
popped zero ls q = q
popped (suc j) ls q = pop (get_or ls j 0) (popped j ls q)

abbrev pub pops : List ℕ → Links → Links
pops [] q = q
pops (l ∷ ls) q = pops ls (pop l q)

-- ---- take
abbrev pub taking : List Token → Demand
taking ts = ask credit_link (λ u. fire [] ts)
