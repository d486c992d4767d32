-- Laws of specs/TwinNets.antt, and what only they need.
use Rattle.std.specs.Prelude.{ℕ, zero, suc, ◌≤◌, ◌≡◌, refl, ◌≢◌, ◌⊎◌, List, [], ◌∷◌}
use Rattle.std.proofs.Common.{inl, inr, arith}
use Rattle.std.proofs.Math.Logic.{ite}
use Rattle.std.proofs.Math.Decide.{ℕ_discrete}
use Rattle.theory_schedule.specs.Counts.{count}
use Rattle.theory_schedule.proofs.Twins.{Late}
use Rattle.network.specs.Net.{Demand, Links}
use Rattle.network.proofs.Poisoned.{Made-by, fed, fed-before}
use Rattle.theory_pieces.specs.Goes.{one_place}
use Rattle.theory_pieces.proofs.Goes.{Feasible, led-to}
use Rattle.theory_reference.specs.TwinNets.{Tested}

module _ (net : ℕ → Demand) (plain : ℕ → ℕ) (a b c l₁ l₂ it : ℕ) (T : Tested net plain a b c l₁ l₂ it) where
  tested : (w : List ℕ) (q : Links) → Feasible net w q → q l₁ ≡ [] → q l₂ ≡ [] → q it ≡ [] → led-to net w q it ≢ [] → Made-by net one_place plain a w
  tested w q r e₁ e₂ e₃ n =
      fed-before net one_place plain a l₁ b T.one₁ T.asks₁ w q r e₁
      (fed-before net one_place plain b l₂ c T.one₂ T.asks₂ w q r e₂ (fed net one_place plain c it T.one₃ w q r e₃ n))

  -- where its twin comes late, a itself has fired
  made-often : (k : ℕ) (w : List ℕ) → Late plain (suc k) a w → Made-by net one_place plain a w → 1 ≤ count a w
  made-often k [] l m = absurd m
  made-often k (d ∷ w) l m = go (λ x y. made-often k w x y) (ℕ_discrete a d) (ℕ_discrete a (plain d)) refl refl l m
    where
      go : (Late plain (suc k) a w → Made-by net one_place plain a w → 1 ≤ count a w) → (x : Dec (a ≡ d)) (y : Dec (a ≡ plain d)) → ℕ_discrete a d ≡ x →
          ℕ_discrete a (plain d) ≡ y → Late plain (suc k) a (d ∷ w) → (a ≡ plain d) ⊎ Made-by net one_place plain a w → 1 ≤ ite x (suc (count a w)) (count a w)
      go ih (yes p) y ex ey l m = omega arith
      go ih (no n) (yes q) ex ey l m = absurd (let z : suc k ≡ 0 = (rw (ex, ey) at l).0 in omega (arith, z))
      go ih (no n) (no q) ex ey l (inl m) = absurd (q m)
      go ih (no n) (no q) ex ey l (inr m) = ih (rw (ex, ey) at l) m

  pub round-tests : (N : ℕ) (w : List ℕ) (q : Links) → 1 ≤ N → Late plain N a w → Feasible net w q → q l₁ ≡ [] → q l₂ ≡ [] → q it ≡ [] → led-to net w q it ≢ [] → 1 ≤ count a w
  round-tests zero w q h l r e₁ e₂ e₃ n = absurd (omega arith)
  round-tests (suc N) w q h l r e₁ e₂ e₃ n = made-often N w l (tested w q r e₁ e₂ e₃ n)
