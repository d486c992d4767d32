-- Laws of specs/TypedGraphs.antt, and what only they need.
use Rattle.std.specs.Prelude.{ℕ, ◌≡◌, true, List, [], ◌∷◌, ◌++◌}
use Rattle.network.specs.Values.{err-value}
use Rattle.graph.specs.Assembly.{Graph, wire, nothing, beside, bind, gate, loop, free}
use Rattle.theory_claims.specs.Claims.{Claim, Meets, truths, Claims}
use Rattle.theory_claims.specs.TypedGraphs.{claims_of, Typed-gate, Binds-only}

-- A graph with the claims of its names and those of its outputs.
abbrev pub Typed : Graph → Claims → List Claim → Type 0
Typed (wire x) C cs = cs ≡ C x ∷ []
Typed nothing C cs = cs ≡ []
Typed (beside a b) C cs = (is : List Claim) × (os : List Claim) × (cs ≡ is ++ os) × Typed a C is × Typed b C os
Typed (bind ns a b) C cs = (D : Claims) × Binds-only ns C D × Typed a C (claims_of D ns) × Typed b D cs
Typed (gate g a) C cs = (is : List Claim) × Typed a C is × Typed-gate g is cs
-- "loop rounds must agree": a round starts the next with values of the claims that it began with. Each of a loop's names may be an err.
Typed (loop ns a b) C cs =
    (D : Claims) × Binds-only ns C D × ((x : ℕ) → free b x ≡ true → Meets (D x) err-value)
    × Typed a C (claims_of D ns) × Typed b D (truths ∷ (claims_of D ns ++ cs))
