-- Loads: which tokens lie on which links. A state is a load put upon a base that is empty there; all reasoning about schedules is rewriting of
-- loads, and what is not in the load is in the base, which nothing touches. A register, a waiting control and a datum are all load.
-- Blocks of a load that share no link may change places; where links have colours, that they share none is computed from numerals.
use Rattle.std.specs.Prelude.{ℕ, ◌≡◌, refl, ◌≢◌, ◌⊎◌, List, [], ◌∷◌, ◌++◌}
use Rattle.std.proofs.Math.Logic.{ite}
use Rattle.std.proofs.Math.Option.{Option, none, some}
use Rattle.std.proofs.Math.Decide.{ℕ_discrete}
use Rattle.network.specs.Net.{Token, Links}

-- A link and its token, if any: `(l, none)` says that `l` is empty.
abbrev pub Load : Type 0
Load = List (ℕ × Option Token)

abbrev pub opt : Option Token → List Token
opt none = []
opt (some t) = t ∷ []

unfoldable pub set_link : ℕ → List Token → Links → Links
set_link l x q j = ite (ℕ_discrete j l) x (q j)

abbrev pub put : Load → Links → Links
put [] b = b
put (x ∷ xs) b = set_link x.0 (opt x.1) (put xs b)

-- the link is one of the load's
abbrev pub On : ℕ → Load → Type 0
On l [] = ⊥
On l (x ∷ xs) = (l ≡ x.0) ⊎ On l xs

-- the base is empty in a region
abbrev pub Clear : (ℕ → Type 0) → Links → Type 0
Clear D b = (l : ℕ) → D l → b l ≡ []

-- a load away from a region, and from another load
abbrev pub Off : Load → (ℕ → Type 0) → Type 0
Off xs D = (l : ℕ) → On l xs → D l → ⊥

abbrev pub Apart : Load → Load → Type 0
Apart xs ys = (l : ℕ) → On l xs → On l ys → ⊥

abbrev pub Within : Load → (ℕ → Type 0) → Type 0
Within xs D = (l : ℕ) → On l xs → D l

-- Links that hold nothing need not be said.
abbrev pub Nones : Load → Type 0
Nones [] = Unit {0}
Nones (x ∷ xs) = (x.1 ≡ none) × Nones xs

-- Blocks of a load may be put in any order where no two share a link. `pull k` brings block k to the front.
abbrev pub cat : List Load → Load
cat [] = []
cat (x ∷ bs) = x ++ cat bs

abbrev pub front : Load → List Load → List Load
front x [] = x ∷ []
front x (y ∷ ys) = y ∷ x ∷ ys

abbrev pub Far : Load → List Load → Type 0
Far x [] = Unit {0}
Far x (y ∷ ys) = Apart x y × Far x ys

abbrev pub Pair : List Load → Type 0
Pair [] = Unit {0}
Pair (x ∷ bs) = Far x bs × Pair bs
