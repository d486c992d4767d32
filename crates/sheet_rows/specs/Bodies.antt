-- The rows that a row names in body places, as the list that document 01's definition gives (formula/specs/Places: bodies_in).
use Rattle.std.specs.Prelude.{ℕ, List, [], ◌∷◌}
use Rattle.sheet_rows.specs.declared.places.Bodies.{Bodies}
use Rattle.sheet_rows.specs.declared.places.Bodies.TheVariants.{None, One, Two}

abbrev pub listed : Bodies → List ℕ
listed None = []
listed (One x) = x ∷ []
listed (Two x y) = x ∷ y ∷ []
