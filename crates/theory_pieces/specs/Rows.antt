-- Rows of gates side by side, each keeping to its own links, and blocks laid gate by gate instead of kind by kind. Knows of no gate's rule.
use Rattle.std.specs.Prelude.{ℕ, suc, ◌+◌, ◌≡◌, ◌⊎◌, List, [], ◌∷◌, ◌++◌, length}
use Rattle.network.specs.Uses.{In}

abbrev pub join : List (List ℕ) → List ℕ
join [] = []
join (e ∷ es) = e ++ join es
