-- Laws of specs/Schedules.antt, and what only they need.
use Rattle.std.specs.Prelude.{ℕ, ◌≡◌, refl, ◌≢◌, ◌⊎◌, List, [], ◌∷◌, ◌++◌}
use Rattle.std.proofs.Common.{sym, ap, subst, inl, inr}
use Rattle.std.proofs.Math.Logic.{ite, Ne-symm}
use Rattle.std.proofs.Math.Decide.{ℕ_discrete}
use Rattle.theory_schedule.specs.Schedules.{removed-first, remaining}
use Rattle.theory_schedule.specs.Schedules as Stated

module _ {S O : Type 0} (enabled : ℕ → S → Type 0) (next : ℕ → S → S) (output : ℕ → S → O) where
  -- The events of `w` can happen one after another.
  abbrev pub Possible : List ℕ → S → Type 0
  Possible [] s = Unit {0}
  Possible (a ∷ w) s = enabled a s × Possible w (next a s)

  abbrev reached : List ℕ → S → S
  reached = Stated.reached enabled next output

  -- What the event `e` gives along `w`, time after time.
  abbrev pub outputs : ℕ → List ℕ → S → List O
  outputs e [] s = []
  outputs e (a ∷ w) s = ite (ℕ_discrete e a) (output a s ∷ outputs e w (next a s)) (outputs e w (next a s))

  -- One list of events after another.
  pub possible-append : (u w : List ℕ) (s : S) → Possible u s → Possible w (reached u s) → Possible (u ++ w) s
  possible-append [] w s r t = t
  possible-append (a ∷ u) w s r t = (r.0, possible-append u w (next a s) r.1 t)

  pub reached-append : (u w : List ℕ) (s : S) → reached (u ++ w) s ≡ reached w (reached u s)
  reached-append [] w s = refl
  reached-append (a ∷ u) w s = reached-append u w (next a s)

  pub outputs-append : (e : ℕ) (u w : List ℕ) (s : S) → outputs e (u ++ w) s ≡ outputs e u s ++ outputs e w (reached u s)
  outputs-append e [] w s = refl
  outputs-append e (a ∷ u) w s = go (ℕ_discrete e a) (outputs-append e u w (next a s))
    where
      go : (d : Dec (e ≡ a)) → outputs e (u ++ w) (next a s) ≡ outputs e u (next a s) ++ outputs e w (reached u (next a s)) →
          ite d (output a s ∷ outputs e (u ++ w) (next a s)) (outputs e (u ++ w) (next a s))
          ≡ ite d (output a s ∷ outputs e u (next a s)) (outputs e u (next a s)) ++ outputs e w (reached u (next a s))
      go (yes x) ih = ap (λ z. output a s ∷ z) ih
      go (no x) ih = ih

  -- Two different events, both enabled: neither takes from the other what it needs, and their order does not matter.
  pub record Diamond : Type 0 where
    pub stays : (a b : ℕ) (s : S) → a ≢ b → enabled a s → enabled b s → enabled b (next a s)
    pub meets : (a b : ℕ) (s : S) → a ≢ b → enabled a s → enabled b s → next b (next a s) ≡ next a (next b s)

  module _ (D : Diamond) where
    -- When `a` has happened first, `w` without its first `a` is possible.
    pub removed-first-possible : (a : ℕ) (w : List ℕ) (s : S) → enabled a s → Possible w s → Possible (removed-first a w) (next a s)
    removed-first-possible a [] s h r = tt
    removed-first-possible a (b ∷ w) s h r = go (λ k. removed-first-possible a w (next b s) k r.1) (ℕ_discrete a b)
      where
        go : (enabled a (next b s) → Possible (removed-first a w) (next a (next b s))) → (d : Dec (a ≡ b)) →
            Possible (ite d w (b ∷ removed-first a w)) (next a s)
        go ih (yes p) = rw p r.1
        go ih (no n) =
            let k : enabled a (next b s) = D.stays b a s (Ne-symm n) r.0 h in
            (D.stays a b s n h r.0, rw (D.meets a b s n h r.0) (ih k))

    -- Where `a` occurs in `w`, both ways end in one state; where it does not, `a` is enabled at the end of `w` and leads there.
    abbrev pub Joined : ℕ → S → S → Type 0
    Joined a x y = (x ≡ y) ⊎ (enabled a y × (x ≡ next a y))

    pub removed-first-joins : (a : ℕ) (w : List ℕ) (s : S) → enabled a s → Possible w s →
        Joined a (reached (removed-first a w) (next a s)) (reached w s)
    removed-first-joins a [] s h r = inr (h, refl)
    removed-first-joins a (b ∷ w) s h r = go (λ k. removed-first-joins a w (next b s) k r.1) (ℕ_discrete a b)
      where
        go : (enabled a (next b s) → Joined a (reached (removed-first a w) (next a (next b s))) (reached w (next b s))) → (d : Dec (a ≡ b)) →
            Joined a (reached (ite d w (b ∷ removed-first a w)) (next a s)) (reached w (next b s))
        go ih (yes p) = inl (ap (λ c. reached w (next c s)) p)
        go ih (no n) =
            subst (λ t. Joined a (reached (removed-first a w) t) (reached w (next b s))) (sym (D.meets a b s n h r.0))
            (ih (D.stays b a s (Ne-symm n) r.0 h))

    -- What is left of the reference is possible where the run ends.
    pub remaining-possible : (u w : List ℕ) (s : S) → Possible u s → Possible w s → Possible (remaining u w) (reached u s)
    remaining-possible [] w s ru h = h
    remaining-possible (a ∷ u) w s ru h =
        remaining-possible u (removed-first a w) (next a s) ru.1 (removed-first-possible a w s ru.0 h)
