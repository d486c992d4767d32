-- What follows from the residual for a run that comes to rest: the first event left of a reference can happen now, and two runs from one
-- state that are both at rest have made each event equally often (document 02, the tally).
-- Assumes the diamond.
use Rattle.std.specs.Prelude.{ℕ, ◌<◌, ◌≤◌, ◌≡◌, refl, ◌≢◌, ◌⊎◌, List, [], ◌∷◌, length}
use Rattle.std.proofs.Common.{sym, ◌∙◌, ap, subst, inl, inr, arith}
use Rattle.theory_schedule.specs.Schedules.{removed-first, remaining, reached}
use Rattle.theory_schedule.proofs.Schedules.{removed-first-possible, removed-first-joins, Possible, Diamond, remaining-possible}
use Rattle.theory_schedule.specs.Counts.{count}
use Rattle.theory_schedule.proofs.Counts.{count-remaining, length-remaining, remaining-head-differs}

module _ {S O : Type 0} (enabled : ℕ → S → Type 0) (next : ℕ → S → S) (output : ℕ → S → O) (D : Diamond enabled next output) where
  -- The run has made the reference's pushes. Then it has made all its takes too, or something other than a push can happen.
  pub progress : (push take : ℕ) (u w : List ℕ) (s : S) → Possible enabled next output u s → Possible enabled next output w s →
      count push w ≤ count push u →
      (count take w ≤ count take u) ⊎ ((e : ℕ) × (e ≢ push) × enabled e (reached enabled next output u s))
  progress push take u w s ru rw' le = go (remaining u w) refl (remaining-possible enabled next output D u w s ru rw')
    where
      go : (v : List ℕ) → remaining u w ≡ v → Possible enabled next output v (reached enabled next output u s) →
          (count take w ≤ count take u) ⊎ ((e : ℕ) × (e ≢ push) × enabled e (reached enabled next output u s))
      go [] e r = inl (omega (arith, sym (count-remaining take u w) ∙ ap (count take) e))
      go (b ∷ v) e r = inr (b, remaining-head-differs push b u w v e le, r.0)

  -- A reference longer than the run, as one of a loop that does not end: something other than a push can happen.
  pub endless : (push : ℕ) (u w : List ℕ) (s : S) → Possible enabled next output u s → Possible enabled next output w s →
      count push w ≤ count push u → length u < length w → (e : ℕ) × (e ≢ push) × enabled e (reached enabled next output u s)
  endless push u w s ru rw' le lt = go (remaining u w) refl (remaining-possible enabled next output D u w s ru rw')
    where
      go : (v : List ℕ) → remaining u w ≡ v → Possible enabled next output v (reached enabled next output u s) →
          (e : ℕ) × (e ≢ push) × enabled e (reached enabled next output u s)
      go [] e r = absurd (omega (arith, length-remaining u w, ap length e))
      go (b ∷ v) e r = (b, remaining-head-differs push b u w v e le, r.0)

  -- Where the run has made the reference's takes too: something other than a push and a take can happen.
  pub endless-inside : (push take : ℕ) (u w : List ℕ) (s : S) → Possible enabled next output u s → Possible enabled next output w s →
      count push w ≤ count push u → count take w ≤ count take u → length u < length w →
      (e : ℕ) × (e ≢ push) × (e ≢ take) × enabled e (reached enabled next output u s)
  endless-inside push take u w s ru rw' le le' lt = go (remaining u w) refl (remaining-possible enabled next output D u w s ru rw')
    where
      go : (v : List ℕ) → remaining u w ≡ v → Possible enabled next output v (reached enabled next output u s) →
          (e : ℕ) × (e ≢ push) × (e ≢ take) × enabled e (reached enabled next output u s)
      go [] e r = absurd (omega (arith, length-remaining u w, ap length e))
      go (b ∷ v) e r = (b, remaining-head-differs push b u w v e le, remaining-head-differs take b u w v e le', r.0)

  -- A reference that has more of some event than the run, or is longer: something can happen.
  pub something-left : (a : ℕ) (u w : List ℕ) (s : S) → Possible enabled next output u s → Possible enabled next output w s →
      (count a u < count a w) ⊎ (length u < length w) → (e : ℕ) × enabled e (reached enabled next output u s)
  something-left a u w s ru rw' more = go (remaining u w) refl (remaining-possible enabled next output D u w s ru rw')
    where
      done : remaining u w ≡ [] → (count a u < count a w) ⊎ (length u < length w) → ⊥
      done e (inl lt) = omega (arith, sym (count-remaining a u w) ∙ ap (count a) e)
      done e (inr lt) = omega (arith, length-remaining u w, ap length e)

      go : (v : List ℕ) → remaining u w ≡ v → Possible enabled next output v (reached enabled next output u s) →
          (e : ℕ) × enabled e (reached enabled next output u s)
      go [] e r = absurd (done e more)
      go (b ∷ v) e r = (b, r.0)

  -- Nothing can happen.
  abbrev pub Still : S → Type 0
  Still s = (e : ℕ) → enabled e s → ⊥

  -- Where a run is at rest, nothing is left of any reference: it has made each event at least as often.
  pub still-covers : (u w : List ℕ) (s : S) → Possible enabled next output u s → Possible enabled next output w s →
      Still (reached enabled next output u s) → (e : ℕ) → count e w ≤ count e u
  still-covers u w s ru rw' q e = go (remaining u w) refl (remaining-possible enabled next output D u w s ru rw')
    where
      go : (v : List ℕ) → remaining u w ≡ v → Possible enabled next output v (reached enabled next output u s) → count e w ≤ count e u
      go [] z r = omega (arith, sym (count-remaining e u w) ∙ ap (count e) z)
      go (b ∷ v) z r = absurd (q b r.0)

  -- Two runs at rest have made each event equally often. For two capacities, hold each run against one reference possible at both.
  pub still-counts-equal : (u w : List ℕ) (s : S) → Possible enabled next output u s → Possible enabled next output w s →
      Still (reached enabled next output u s) → Still (reached enabled next output w s) → (e : ℕ) → count e u ≡ count e w
  still-counts-equal u w s ru rw' qu qw e = omega (arith, still-covers u w s ru rw' qu e, still-covers w u s rw' ru qw e)

  -- Where the reference comes to rest, what is left of it leads every run into the same state.
  pub still-joins : (u w : List ℕ) (s : S) → Possible enabled next output u s → Possible enabled next output w s → Still (reached enabled next output w s) →
      reached enabled next output (remaining u w) (reached enabled next output u s) ≡ reached enabled next output w s
  still-joins [] w s ru rw' q = refl
  still-joins (a ∷ u) w s ru rw' q =
      go (removed-first-joins enabled next output D a w s ru.0 rw')
      (λ z. still-joins u (removed-first a w) (next a s) ru.1 (removed-first-possible enabled next output D a w s ru.0 rw') z)
    where
      x : S
      x = reached enabled next output (removed-first a w) (next a s)

      y : S
      y = reached enabled next output w s

      go : (x ≡ y) ⊎ (enabled a y × (x ≡ next a y)) → (Still x → reached enabled next output (remaining u (removed-first a w)) (reached enabled next output u (next a s)) ≡ x) →
          reached enabled next output (remaining u (removed-first a w)) (reached enabled next output u (next a s)) ≡ y
      go (inl e) ih = ih (subst Still (sym e) q) ∙ e
      go (inr (h, e)) ih = absurd (q a h)

  -- Two runs that have made the same events, the one at rest: they are in one state.
  pub still-same-state : (u w : List ℕ) (s : S) → Possible enabled next output u s → Possible enabled next output w s → Still (reached enabled next output u s) →
      Still (reached enabled next output w s) → reached enabled next output u s ≡ reached enabled next output w s
  still-same-state u w s ru rw' qu qw = go (remaining u w) refl (remaining-possible enabled next output D u w s ru rw') (still-joins u w s ru rw' qw)
    where
      go : (v : List ℕ) → remaining u w ≡ v → Possible enabled next output v (reached enabled next output u s) →
          reached enabled next output (remaining u w) (reached enabled next output u s) ≡ reached enabled next output w s → reached enabled next output u s ≡ reached enabled next output w s
      go [] z r e = ap (λ v. reached enabled next output v (reached enabled next output u s)) (sym z) ∙ e
      go (b ∷ v) z r e = absurd (qu b r.0)

  -- Where nothing but a push can happen, the run has made each event at least as often as any reference of no more pushes.
  pub rest-covers : (push : ℕ) (u w : List ℕ) (s : S) → Possible enabled next output u s → Possible enabled next output w s → count push w ≤ count push u →
      ((e : ℕ) → e ≢ push → enabled e (reached enabled next output u s) → ⊥) → (e : ℕ) → count e w ≤ count e u
  rest-covers push u w s ru rw' le q e = go (remaining u w) refl (remaining-possible enabled next output D u w s ru rw')
    where
      go : (v : List ℕ) → remaining u w ≡ v → Possible enabled next output v (reached enabled next output u s) → count e w ≤ count e u
      go [] z r = omega (arith, sym (count-remaining e u w) ∙ ap (count e) z)
      go (b ∷ v) z r = absurd (q b (remaining-head-differs push b u w v z le) r.0)
