-- How much of a reference is left after a run: of each event what the run has not done, and in all at least the difference in length.
-- Facts about lists of events alone (document 02's bound on rounds and its counts of firings rest on the same two laws).
use Rattle.std.specs.Prelude.{ℕ, suc, ◌<◌, ◌≤◌, ◌+◌, ◌-◌, ◌≡◌, refl, ◌≢◌, List, [], ◌∷◌, ◌++◌, length}
use Rattle.std.proofs.Math.Logic.{ite}
use Rattle.std.proofs.Math.Decide.{ℕ_discrete}

-- How often `e` happens in `w`.
abbrev pub count : ℕ → List ℕ → ℕ
count e [] = 0
count e (a ∷ w) = ite (ℕ_discrete e a) (suc (count e w)) (count e w)
