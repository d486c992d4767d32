-- Document 02, Job 6, 18: "lowest row given". The row given is one of those at fault and none of them is lower. Assumes nothing.
use Rattle.std.specs.Prelude.{ℕ, ◌≤◌, ◌<◌, ◌≡◌, refl, ◌⊎◌, Bool, true, false, cond, List, [], ◌∷◌, leb, Ok, Err}
use Rattle.formula.specs.Results.{Check}

-- One of a list.
abbrev pub Among : {A : Type 0} → A → List A → Type 0
Among k [] = ⊥
Among k (r ∷ rs) = (k ≡ r) ⊎ Among k rs

abbrev pub Passes : Check → Type 0
Passes (Ok _) = Unit {0}
Passes (Err r) = ⊥

-- One of some rows, and the lowest of them.
abbrev pub Given : ℕ → List ℕ → Type 0
Given x rs = Among x rs × ((k : ℕ) → Among k rs → x ≤ k)
