-- The residual for a reference that may hold twins of events. A twin stands for an event that a run does not make, at a place where the run
-- would make another event of the same operator: of these two nothing is assumed, of all other pairs the diamond. Where each twin comes
-- behind at least as many of the operator's own events as the run is long, the run never meets it, and both give the same.
-- Assumes the diamond of an operator's own event and every event of another operator.
use Rattle.std.specs.Prelude.{ℕ, zero, suc, ◌≤◌, ◌≡◌, refl, ◌≢◌, ◌⊎◌, List, [], ◌∷◌, ◌++◌, length}

abbrev pub less_one : ℕ → ℕ
less_one zero = zero
less_one (suc k) = k

-- `plain` gives the operator to which an event belongs: a twin's is another number than its own.
module _ (plain : ℕ → ℕ) where
  abbrev pub Late-step : {P Q : Type 0} → Dec P → Dec Q → ℕ → (ℕ → Type 0) → Type 0
  Late-step (yes p) e k L = L (less_one k)
  Late-step (no n) (yes q) k L = (k ≡ 0) × L k
  Late-step (no n) (no m) k L = L k
