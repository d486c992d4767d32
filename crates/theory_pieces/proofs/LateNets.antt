-- The nets of references with twins: every twin comes late, behind N firings of its operator, except those of the operators in X, which a loop around
-- them answers for. Assumes nothing.
use Rattle.std.specs.Prelude.{ℕ, ◌≤◌, ◌≡◌, ◌≢◌, ◌⊎◌, List, [], ◌∷◌, ◌++◌}
use Rattle.std.proofs.Common.{sym, ◌∙◌, subst, inl, inr}
use Rattle.std.proofs.Math.Decide.{ℕ_discrete}
use Rattle.theory_schedule.specs.Counts.{count}
use Rattle.theory_schedule.proofs.Twins.{Late, late-append, late-behind, late-one, late-other}
use Rattle.network.specs.Net.{Demand}
use Rattle.theory_pieces.specs.Goes.{Net}

module _ (at : ℕ → Demand) (plain : ℕ → ℕ) (N : ℕ) where
  abbrev pub late-net : (ℕ → Type 0) → Net
  late-net X =
      record {
        at = at;
        Fine = λ w. (b : ℕ) → (X b → ⊥) → Late plain N b w;
        fine-none = λ b n. tt;
        fine-both = λ u w f g b n. late-append plain N b u w (f b n) (g b n);
      }

  -- An operator's own event is fine in every such net.
  pub own-fine : (X : ℕ → Type 0) (a : ℕ) → plain a ≡ a → (late-net X).Fine (a ∷ [])
  own-fine X a e b n = late-one plain N b a e

  abbrev pub with-one : (ℕ → Type 0) → ℕ → ℕ → Type 0
  with-one X a b = X b ⊎ (b ≡ a)

  -- And so is a's twin where a is one of those that a loop answers for.
  pub twin-fine : (X : ℕ → Type 0) (a p : ℕ) → plain p ≡ a → (late-net (with-one X a)).Fine (p ∷ [])
  twin-fine X a p e b n = late-other plain N b p (λ z. n (inr (z ∙ e)))

  -- Behind N firings of a, what was fine but for a's twin is fine.
  pub close : (X : ℕ → Type 0) (a : ℕ) (u w : List ℕ) → (late-net X).Fine u → N ≤ count a u → (late-net (with-one X a)).Fine w → (late-net X).Fine (u ++ w)
  close X a u w f le g b n = go (ℕ_discrete b a)
    where
      other : b ≢ a → X b ⊎ (b ≡ a) → ⊥
      other ne (inl x) = n x
      other ne (inr e) = ne e

      go : Dec (b ≡ a) → Late plain N b (u ++ w)
      go (yes e) = late-behind plain N b u w (f b n) (subst (λ z. N ≤ count z u) (sym e) le)
      go (no ne) = late-append plain N b u w (f b n) (g b (other ne))
