-- The first refusal of an ordered table of conditions, and what it means to be the first: demand 2, "A call is refused exactly when document 01 gives it
-- a refusal, and with the first in the order there". The numbers are formula/specs/Refusals. Assumes nothing.
use Rattle.std.specs.Prelude.{ℕ, ◌≤◌, ◌≡◌, refl, Bool, true, false, not, cond, ◌&&◌, ◌⊎◌, ◌≢◌, ◌↔◌, List, [], ◌∷◌, eqb}
use Rattle.formula.specs.declared.Refusal.{Refusal}
use Rattle.formula.specs.Refusals.{number_of}

-- A condition with the refusal that it brings.
abbrev pub Row : Type 0
Row = Bool × Refusal

-- The number of the first refusal whose condition holds, 0 where none does.
unfoldable pub first-refusal : List Row → ℕ
first-refusal [] = 0
first-refusal (c ∷ cs) = cond c.0 (number_of c.1) (first-refusal cs)

-- "names one of the refusals in document 01"
abbrev pub Named : ℕ → Type 0
Named n = (r : Refusal) × (number_of r ≡ n)

-- One of some numbers.
abbrev pub Among : ℕ → List ℕ → Type 0
Among n [] = ⊥
Among n (k ∷ ks) = (n ≡ k) ⊎ Among n ks

-- The numbers that a table can give.
abbrev pub numbers : List Row → List ℕ
numbers [] = []
numbers (c ∷ cs) = number_of c.1 ∷ numbers cs

-- No condition holds.
abbrev pub NoneHolds : List Row → Type 0
NoneHolds [] = Unit {0}
NoneHolds (c ∷ cs) = (c.0 ≡ false) × NoneHolds cs

-- The condition of number n holds, and none before it.
abbrev pub FirstHolds : ℕ → List Row → Type 0
FirstHolds n [] = ⊥
FirstHolds n (c ∷ cs) = ((c.0 ≡ true) × (number_of c.1 ≡ n)) ⊎ ((c.0 ≡ false) × FirstHolds n cs)

-- A number that is not in a list is none of its numbers.
abbrev pub lacks : ℕ → List ℕ → Bool
lacks n [] = true
lacks n (k ∷ ks) = not (eqb n k) && lacks n ks
