-- Loads as sets: two loads in which no link stands twice and that have the same entries are one and the same, so that no order of blocks matters.
use Rattle.std.specs.Prelude.{ℕ, ◌≡◌, refl, ◌⊎◌, [], ◌∷◌}
use Rattle.std.proofs.Math.Option.{Option}
use Rattle.network.specs.Net.{Token, Links}
use Rattle.theory_pieces.specs.Load.{Load}

abbrev pub Mem : ℕ → Option Token → Load → Type 0
Mem l t [] = ⊥
Mem l t (x ∷ xs) = ((x.0 ≡ l) × (x.1 ≡ t)) ⊎ Mem l t xs
