-- Runs by rounds (document 02: "operators rising, each that is able at its turn firing once") in any system whose different enabled events commute: a round
-- makes the first event left of every reference, since what can happen stays possible until it happens. So a reference of which only events below n are left is
-- made up after as many rounds as it has events left, and what follows it can happen then.
-- Assumes the diamond and that it is decided what can happen.
use Prim.Native.Nat.{ℕ, zero, suc, ◌+◌, ◌-◌, ◌≤◌, ◌<◌}
use Rattle.std.specs.Prelude.{◌≡◌, ◌≢◌}
use Rattle.std.proofs.Math.Path.{refl, ap, subst}
use Rattle.std.proofs.Common.{sym, ◌∙◌}
use Rattle.std.proofs.Math.Logic.{ite, if_neg, if_pos, Ne-symm}
use mathlib.Core.List.{List, [], ◌∷◌, ◌++◌}
use Rattle.std.proofs.Math.ListN.{length}
use Rattle.std.proofs.Math.Decide.{ℕ_discrete, dec_lt}
use native.Mathlib.Omega.{arith}
use Rattle.theory_schedule.specs.Schedules.{removed-first, remaining, reached}
use Rattle.theory_schedule.proofs.Schedules.{Possible, Diamond, remaining-possible, possible-append, reached-append}
use Rattle.theory_schedule.specs.Counts.{count}
use Rattle.theory_schedule.proofs.Counts.{count-append, count-remaining}

-- ---- how much is left
removed-shorter : (a : ℕ) (w : List ℕ) → length (removed-first a w) ≤ length w
removed-shorter a [] = omega arith
removed-shorter a (b ∷ w) = go (ℕ_discrete a b) (removed-shorter a w)
  where
    go : (d : Dec (a ≡ b)) → length (removed-first a w) ≤ length w → length (ite d w (b ∷ removed-first a w)) ≤ suc (length w)
    go (yes p) ih = omega arith
    go (no n) ih = omega arith

removed-one : (a : ℕ) (w : List ℕ) → 0 < count a w → length w ≡ suc (length (removed-first a w))
removed-one a [] h = absurd (omega arith)
removed-one a (b ∷ w) h = go (ℕ_discrete a b) h (removed-one a w)
  where
    go : (d : Dec (a ≡ b)) → 0 < ite d (suc (count a w)) (count a w) → (0 < count a w → length w ≡ suc (length (removed-first a w)))
        → suc (length w) ≡ suc (length (ite d w (b ∷ removed-first a w)))
    go (yes p) h ih = refl
    go (no n) h ih = ap suc (ih h)

pub remaining-shorter : (u w : List ℕ) → length (remaining u w) ≤ length w
remaining-shorter [] w = omega arith
remaining-shorter (a ∷ u) w = omega (arith, remaining-shorter u (removed-first a w), removed-shorter a w)

count-removed : (e a : ℕ) (w : List ℕ) → e ≢ a → count e (removed-first a w) ≡ count e w
count-removed e a w ne =
    let z = count-remaining e (a ∷ []) w in
    let y : count e (a ∷ []) ≡ 0 = if_neg (ℕ_discrete e a) ne 1 0 in
    omega (arith, z, y)

-- An event that both have is one less.
pub remaining-less : (e : ℕ) (u w : List ℕ) → 0 < count e u → 0 < count e w → length (remaining u w) < length w
remaining-less e [] w h k = absurd (omega arith)
remaining-less e (a ∷ u) w h k = go (ℕ_discrete e a) h (λ i j. remaining-less e u (removed-first a w) i j)
  where
    go : (d : Dec (e ≡ a)) → 0 < ite d (suc (count e u)) (count e u)
        → (0 < count e u → 0 < count e (removed-first a w) → length (remaining u (removed-first a w)) < length (removed-first a w))
        → length (remaining u (removed-first a w)) < length w
    go (yes p) h ih = omega (arith, remaining-shorter u (removed-first a w), removed-one a w (subst (λ z. 0 < count z w) p k))
    go (no n) h ih = omega (arith, ih h (rw (count-removed e a w n) k), removed-shorter a w)

count-own : (e : ℕ) (w : List ℕ) → 0 < count e (e ∷ w)
count-own e w = rw (if_pos (ℕ_discrete e e) refl (suc (count e w)) (count e w)) (omega arith)

remaining-append : (u v w : List ℕ) → remaining (u ++ v) w ≡ remaining v (remaining u w)
remaining-append [] v w = refl
remaining-append (a ∷ u) v w = remaining-append u v (removed-first a w)

module _ {S O : Type 0} (enabled : ℕ → S → Type 0) (next : ℕ → S → S) (output : ℕ → S → O) (dec : (e : ℕ) (s : S) → Dec (enabled e s)) where
  -- ---- a round
  -- Of k events from i on, rising, each that can happen at its turn, once.
  abbrev pub turn : {A : Type 0} → Dec A → ℕ → List ℕ → List ℕ → List ℕ
  turn (yes p) i fired passed = i ∷ fired
  turn (no n) i fired passed = passed

  unfoldable pub roundFrom : ℕ → ℕ → S → List ℕ
  roundFrom zero i s = []
  roundFrom (suc k) i s = turn (dec i s) i (roundFrom k (suc i) (next i s)) (roundFrom k (suc i) s)

  pub round-possible : (k i : ℕ) (s : S) → Possible enabled next output (roundFrom k i s) s
  unfolding roundFrom
  round-possible zero i s = tt
  round-possible (suc k) i s = go (dec i s) (round-possible k (suc i) (next i s)) (round-possible k (suc i) s)
    where
      go : (d : Dec (enabled i s)) → Possible enabled next output (roundFrom k (suc i) (next i s)) (next i s) → Possible enabled next output (roundFrom k (suc i) s) s
          → Possible enabled next output (turn d i (roundFrom k (suc i) (next i s)) (roundFrom k (suc i) s)) s
      go (yes p) a b = (p, a)
      go (no n) a b = b

  -- b rounds of the events below n.
  unfoldable pub rounds : ℕ → ℕ → S → List ℕ
  unfolding roundFrom
  rounds n zero s = []
  rounds n (suc b) s = roundFrom n 0 s ++ rounds n b (reached enabled next output (roundFrom n 0 s) s)

  pub rounds-possible : (n b : ℕ) (s : S) → Possible enabled next output (rounds n b s) s
  unfolding rounds
  rounds-possible n zero s = tt
  rounds-possible n (suc b) s =
      let t = reached enabled next output (roundFrom n 0 s) s in
      possible-append enabled next output (roundFrom n 0 s) (rounds n b t) s (round-possible n 0 s) (rounds-possible n b t)

  pub round-below : (k i : ℕ) (s : S) (e : ℕ) → i + k ≤ e → count e (roundFrom k i s) ≡ 0
  unfolding roundFrom
  round-below zero i s e h = refl
  round-below (suc k) i s e h = go (dec i s) (round-below k (suc i) (next i s) e (omega arith)) (round-below k (suc i) s e (omega arith))
    where
      go : (d : Dec (enabled i s)) → count e (roundFrom k (suc i) (next i s)) ≡ 0 → count e (roundFrom k (suc i) s) ≡ 0
          → count e (turn d i (roundFrom k (suc i) (next i s)) (roundFrom k (suc i) s)) ≡ 0
      go (yes p) a b = if_neg (ℕ_discrete e i) (λ (z : e ≡ i). absurd (omega arith)) _ _ ∙ a
      go (no x) a b = b

  pub rounds-below : (n b : ℕ) (s : S) (e : ℕ) → n ≤ e → count e (rounds n b s) ≡ 0
  unfolding rounds
  rounds-below n zero s e h = refl
  rounds-below n (suc b) s e h =
      let u = roundFrom n 0 s in
      let t = reached enabled next output u s in
      count-append e u (rounds n b t) ∙ omega (arith, round-below n 0 s e (omega arith), rounds-below n b t e h)

  module _ (D : Diamond enabled next output) where
    -- What can happen does, at its turn at the latest.
    pub round-makes : (k i : ℕ) (s : S) (e : ℕ) → enabled e s → i ≤ e → e < i + k → 0 < count e (roundFrom k i s)
    unfolding roundFrom
    round-makes zero i s e h l u = absurd (omega arith)
    round-makes (suc k) i s e h l u = go (dec i s) (ℕ_discrete e i) (λ t j m. round-makes k (suc i) t e j m (omega arith))
      where
        go : (d : Dec (enabled i s)) → Dec (e ≡ i) → ((t : S) → enabled e t → suc i ≤ e → 0 < count e (roundFrom k (suc i) t))
            → 0 < count e (turn d i (roundFrom k (suc i) (next i s)) (roundFrom k (suc i) s))
        go (yes p) (yes z) ih = subst (λ (c : ℕ). 0 < count c (i ∷ roundFrom k (suc i) (next i s))) (sym z) (count-own i (roundFrom k (suc i) (next i s)))
        go (yes p) (no z) ih =
            rw (if_neg (ℕ_discrete e i) z (suc (count e (roundFrom k (suc i) (next i s)))) (count e (roundFrom k (suc i) (next i s))))
            (ih (next i s) (D.stays i e s (Ne-symm z) p h) (omega arith))
        go (no n) (yes z) ih = absurd (n (subst (λ (c : ℕ). enabled c s) z h))
        go (no n) (no z) ih = ih s h (omega arith)

    -- Each round makes at least one of the events left.
    round-less : (n : ℕ) (w : List ℕ) (s : S) → Possible enabled next output w s → ((e : ℕ) → n ≤ e → count e w ≡ 0)
        → length (remaining (roundFrom n 0 s) w) ≤ length w - 1
    round-less n [] s r f = omega (arith, remaining-shorter (roundFrom n 0 s) [])
    round-less n (e ∷ w) s r f = go (ltb-or n e)
      where
        ltb-or : (n e : ℕ) → Dec (e < n)
        ltb-or n e = dec_lt e n

        go : Dec (e < n) → length (remaining (roundFrom n 0 s) (e ∷ w)) ≤ suc (length w) - 1
        go (yes l) = omega (arith, remaining-less e (roundFrom n 0 s) (e ∷ w) (round-makes n 0 s e r.0 (omega arith) (omega arith)) (count-own e w))
        go (no l) = absurd (omega (arith, f e (omega arith), count-own e w))

    pub rounds-finish : (n b : ℕ) (w : List ℕ) (s : S) → Possible enabled next output w s → ((e : ℕ) → n ≤ e → count e w ≡ 0) → length w ≤ b
        → length (remaining (rounds n b s) w) ≡ 0
    unfolding rounds
    rounds-finish n zero w s r f l = omega arith
    rounds-finish n (suc b) w s r f l =
        let u = roundFrom n 0 s in
        let t = reached enabled next output u s in
        ap length (remaining-append u (rounds n b t) w)
        ∙ rounds-finish n b (remaining u w) t (remaining-possible enabled next output D u w s (round-possible n 0 s) r)
        (λ e h. omega (arith, count-remaining e u w, f e h)) (omega (arith, round-less n w s r f))

    -- ---- a reference and what follows it
    none_left : (w : List ℕ) → length w ≡ 0 → (e : ℕ) → count e w ≡ 0
    none_left [] z e = refl
    none_left (a ∷ w) z e = absurd (omega arith)

    -- The events of `v` have been made, and of `k` one less than `v` and it have: then `k` can happen.
    follows-can : (k : ℕ) (u v : List ℕ) (s : S) → Possible enabled next output u s → Possible enabled next output (v ++ (k ∷ [])) s
        → ((e : ℕ) → count e v ≤ count e u) → count k u ≡ count k v → enabled k (reached enabled next output u s)
    follows-can k u v s ru rv all same = go (remaining u (v ++ (k ∷ []))) refl (remaining-possible enabled next output D u (v ++ (k ∷ [])) s ru rv)
      where
        left : (e : ℕ) → count e (remaining u (v ++ (k ∷ []))) ≡ count e v + count e (k ∷ []) - count e u
        left e = count-remaining e u (v ++ (k ∷ [])) ∙ ap (λ c. c - count e u) (count-append e v (k ∷ []))

        go : (r : List ℕ) → remaining u (v ++ (k ∷ [])) ≡ r → Possible enabled next output r (reached enabled next output u s) → enabled k (reached enabled next output u s)
        go [] z p = absurd (omega (arith, left k, ap (count k) z, count-own k []))
        go (b ∷ r) z p = by (ℕ_discrete b k)
          where
            by : Dec (b ≡ k) → enabled k (reached enabled next output u s)
            by (yes e) = subst (λ a. enabled a (reached enabled next output u s)) e p.0
            by (no n) = absurd (omega (arith, left b, ap (count b) z, count-own b r, all b, if_neg {C = ℕ} (ℕ_discrete b k) n 1 0))

    first-possible : (v w : List ℕ) (s : S) → Possible enabled next output (v ++ w) s → Possible enabled next output v s
    first-possible [] w s r = tt
    first-possible (a ∷ v) w s r = (r.0, first-possible v w (next a s) r.1)

    -- After as many rounds as the reference `v` has events left, `k` can happen: the run has made the events of `v` from n on and the `k`s of `v`.
    pub ready-after : (n k : ℕ) (u v : List ℕ) (s : S) → n ≤ k → Possible enabled next output u s → Possible enabled next output (v ++ (k ∷ [])) s
        → ((e : ℕ) → n ≤ e → count e v ≤ count e u) → count k u ≡ count k v → (b : ℕ) → length (remaining u v) ≤ b
        → enabled k (reached enabled next output (rounds n b (reached enabled next output u s)) (reached enabled next output u s))
    ready-after n k u v s nk ru rv far same b l =
        let q = reached enabled next output u s in
        let t = rounds n b q in
        let rv₁ : Possible enabled next output v s = first-possible v (k ∷ []) s rv in
        let w : List ℕ = remaining u v in
        let none = rounds-finish n b w q (remaining-possible enabled next output D u v s ru rv₁) (λ e h. omega (arith, count-remaining e u v, far e h)) l in
        subst (enabled k) (reached-append enabled next output u t s)
        (follows-can k (u ++ t) v s (possible-append enabled next output u t s ru (rounds-possible n b q)) rv
        (λ e. omega (arith, count-append e u t, count-remaining e u v, count-remaining e t w, none_left (remaining t w) none e))
        (omega (arith, same, count-append k u t, rounds-below n b q k nk)))
