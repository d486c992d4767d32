-- Lists in which each entry comes before every later one, by some relation: how they are joined, filtered and made of parts, and their entries by
-- position. Assumes nothing.
use Rattle.std.specs.Prelude.{ℕ, zero, suc, ◌<◌, ◌≡◌, refl, ◌⊎◌, Bool, cond, length, get_or}
use mathlib.Core.List.{List, [], ◌∷◌, ◌++◌, map}
use Rattle.formula.specs.FaultRows.{Among}

abbrev pub Ordered : {A : Type 0} → (A → A → Type 0) → List A → Type 0
Ordered R [] = Unit {0}
Ordered {A} R (x ∷ l) = ((y : A) → Among y l → R x y) × Ordered R l
