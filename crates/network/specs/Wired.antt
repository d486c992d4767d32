-- From "every link has at most one taker and at most one putter" to the hypothesis of the diamond. Takers and putters are relations, so no
-- owner of a link has to be computed; in a graph that the maker made they hold by its fresh numbers.
use Rattle.std.specs.Prelude.{ℕ, ◌≡◌, ◌≢◌, List, [], ◌∷◌}
use Rattle.network.specs.Net.{Token, Demand, ask, fire, halt}

-- A firing takes only from links of `R` and puts only onto links of `W`.
abbrev pub Emits-in : (ℕ → Type 0) → List (ℕ × Token) → Type 0
Emits-in W [] = Unit {0}
Emits-in W (e ∷ es) = W e.0 × Emits-in W es

abbrev pub Uses : (ℕ → Type 0) → (ℕ → Type 0) → Demand → Type 0
Uses R W (ask l k) = R l × ((t : Token) → Uses R W (k t))
Uses R W (fire es r) = Emits-in W es
Uses R W halt = Unit {0}
