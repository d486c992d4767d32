-- Schedules of any transition system whose different enabled events commute (demand 3; nothing here knows of links, tokens or formulas).
-- Events are numbers. `enabled`, `next` and `output` are total: what `next` and `output` give for an event that is not enabled is never
-- used. A *run* is a list of events that did happen, a *reference* one that could have happened from the same state.
-- The residual lemma: what a run has not yet done of a reference is still possible. That each event gives the same in both is Twins.antt's.
-- Assumes the diamond of two events, and nothing else.
use Rattle.std.specs.Prelude.{ℕ, ◌≡◌, refl, ◌≢◌, ◌⊎◌, List, [], ◌∷◌, ◌++◌}
use Rattle.std.proofs.Math.Logic.{ite}
use Rattle.std.proofs.Math.Decide.{ℕ_discrete}

-- Two lists agree as far as both go.
abbrev pub Agree : {O : Type 0} → List O → List O → Type 0
Agree [] ys = Unit {0}
Agree (x ∷ xs) [] = Unit {0}
Agree (x ∷ xs) (y ∷ ys) = (x ≡ y) × Agree xs ys

-- `w` without its first `a`; `w` itself where `a` does not occur, so that one lemma serves both cases.
abbrev pub removed-first : ℕ → List ℕ → List ℕ
removed-first a [] = []
removed-first a (b ∷ w) = ite (ℕ_discrete a b) w (b ∷ removed-first a w)

-- The residual: what is left of the reference `w` when the events of the run `u` have happened.
abbrev pub remaining : List ℕ → List ℕ → List ℕ
remaining [] w = w
remaining (a ∷ u) w = remaining u (removed-first a w)

module _ {S O : Type 0} (enabled : ℕ → S → Type 0) (next : ℕ → S → S) (output : ℕ → S → O) where
  -- The state after them.
  abbrev pub reached : List ℕ → S → S
  reached [] s = s
  reached (a ∷ w) s = reached w (next a s)
