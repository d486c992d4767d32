-- One firing as a rule on loads: a gate that takes every token of a load turns it into what it emits. That it takes them is a tuple which
-- computes from the firing itself, so each gate in each of its cases is one line where it is used.
use Rattle.std.specs.Prelude.{ℕ, zero, suc, ◌≡◌, refl, ◌≢◌, ◌⊎◌, List, [], ◌∷◌, ◌++◌}
use Rattle.std.proofs.Math.Option.{none, some}
use Rattle.network.specs.Net.{Token, Demand, ask, fire, halt, Links, head, tail, pop, append, Room, Able, appends, act}
use Rattle.theory_pieces.specs.Load.{Load, On, Nones}

-- the token at place p of a load, and the load without it
abbrev pub Holds-at : ℕ → Load → ℕ → Token → Type 0
Holds-at p [] l t = ⊥
Holds-at zero (x ∷ xs) l t = (x.0 ≡ l) × (x.1 ≡ some t)
Holds-at (suc p) (x ∷ xs) l t = Holds-at p xs l t

abbrev pub emptied-at : ℕ → Load → Load
emptied-at p [] = []
emptied-at zero (x ∷ xs) = (x.0, none) ∷ xs
emptied-at (suc p) (x ∷ xs) = x ∷ emptied-at p xs

abbrev pub Distinct : Load → Type 0
Distinct [] = Unit {0}
Distinct (x ∷ xs) = (On x.0 xs → ⊥) × Distinct xs

abbrev pub emitted : List (ℕ × Token) → Load
emitted [] = []
emitted (e ∷ es) = (e.0, some e.1) ∷ emitted es

-- The firing takes every token of the load, and emits `es`.
abbrev pub Consumes : Demand → Load → List (ℕ × Token) → Type 0
Consumes (ask l k) xs es = (p : ℕ) × (t : Token) × Holds-at p xs l t × Consumes (k t) (emptied-at p xs) es
Consumes (fire fs o) xs es = Nones xs × (fs ≡ es)
Consumes halt xs es = ⊥
