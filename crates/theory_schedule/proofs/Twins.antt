-- Laws of specs/Twins.antt, and what only they need.
use Rattle.std.specs.Prelude.{ℕ, zero, suc, ◌≤◌, ◌≡◌, refl, ◌≢◌, ◌⊎◌, List, [], ◌∷◌, ◌++◌, length}
use Rattle.std.proofs.Common.{sym, ◌∙◌, ap, subst, inl, inr, ⊎_elim, arith}
use Rattle.std.proofs.Math.Logic.{ite}
use Rattle.std.proofs.Math.Decide.{ℕ_discrete}
use Rattle.theory_schedule.specs.Schedules.{Agree, removed-first}
use Rattle.theory_schedule.proofs.Schedules.{Possible, outputs}
use Rattle.theory_schedule.specs.Counts.{count}
use Rattle.theory_schedule.specs.Twins.{less_one}
use Rattle.theory_schedule.specs.Twins as Stated

less-below : (k : ℕ) → less_one k ≤ k
less-below zero = omega arith
less-below (suc k) = omega arith

less-mono : (j k : ℕ) → j ≤ k → less_one j ≤ less_one k
less-mono zero k le = omega arith
less-mono (suc j) zero le = absurd (omega arith)
less-mono (suc j) (suc k) le = omega arith

-- `plain` gives the operator to which an event belongs: a twin's is another number than its own.
module _ (plain : ℕ → ℕ) where
  abbrev Late-step : {P Q : Type 0} → Dec P → Dec Q → ℕ → (ℕ → Type 0) → Type 0
  Late-step = Stated.Late-step plain

  -- No twin of `a` happens in `w` before `a` itself has happened `k` times.
  abbrev pub Late : ℕ → ℕ → List ℕ → Type 0
  Late k a [] = Unit {0}
  Late k a (b ∷ w) = Late-step (ℕ_discrete a b) (ℕ_discrete a (plain b)) k (λ j. Late j a w)

  pub late-zero : (a : ℕ) (w : List ℕ) → Late 0 a w
  late-zero a [] = tt
  late-zero a (b ∷ w) = go (ℕ_discrete a b) (ℕ_discrete a (plain b)) (late-zero a w)
    where
      go : (d : Dec (a ≡ b)) (e : Dec (a ≡ plain b)) → Late 0 a w → Late-step d e 0 (λ j. Late j a w)
      go (yes p) e h = h
      go (no n) (yes q) h = (refl, h)
      go (no n) (no m) h = h

  pub late-less : (j k a : ℕ) (w : List ℕ) → j ≤ k → Late k a w → Late j a w
  late-less j k a [] le h = tt
  late-less j k a (b ∷ w) le h = go (ℕ_discrete a b) (ℕ_discrete a (plain b)) (λ i m l g. late-less i m a w l g) h
    where
      go : (d : Dec (a ≡ b)) (e : Dec (a ≡ plain b)) → ((i m : ℕ) → i ≤ m → Late m a w → Late i a w) →
          Late-step d e k (λ j. Late j a w) → Late-step d e j (λ j. Late j a w)
      go (yes p) e ih h = ih (less_one j) (less_one k) (less-mono j k le) h
      go (no n) (yes q) ih h = (omega (arith, h.0), ih j k le h.1)
      go (no n) (no m) ih h = ih j k le h

  -- One list after another.
  pub late-append : (k a : ℕ) (u w : List ℕ) → Late k a u → Late k a w → Late k a (u ++ w)
  late-append k a [] w g h = h
  late-append k a (b ∷ u) w g h =
      go (ℕ_discrete a b) (ℕ_discrete a (plain b)) (λ j l x. late-append j a u w x (late-less j k a w l h)) g
    where
      go : (d : Dec (a ≡ b)) (e : Dec (a ≡ plain b)) → ((j : ℕ) → j ≤ k → Late j a u → Late j a (u ++ w)) →
          Late-step d e k (λ j. Late j a u) → Late-step d e k (λ j. Late j a (u ++ w))
      go (yes p) e ih x = ih (less_one k) (less-below k) x
      go (no n) (yes q) ih x = (x.0, ih k (omega arith) x.1)
      go (no n) (no m) ih x = ih k (omega arith) x

  -- Behind as many of `a` anything may come.
  pub late-behind : (k a : ℕ) (u w : List ℕ) → Late k a u → k ≤ count a u → Late k a (u ++ w)
  late-behind k a [] w g le = let z : 0 ≡ k = omega arith in subst (λ j. Late j a w) z (late-zero a w)
  late-behind k a (b ∷ u) w g le = go (ℕ_discrete a b) (ℕ_discrete a (plain b)) (λ j x l. late-behind j a u w x l) g le
    where
      go : (d : Dec (a ≡ b)) (e : Dec (a ≡ plain b)) → ((j : ℕ) → Late j a u → j ≤ count a u → Late j a (u ++ w)) →
          Late-step d e k (λ j. Late j a u) → k ≤ ite d (suc (count a u)) (count a u) → Late-step d e k (λ j. Late j a (u ++ w))
      go (yes p) e ih x l = ih (less_one k) x (less-mono k (suc (count a u)) l)
      go (no n) (yes q) ih x l = (x.0, ih k x.1 l)
      go (no n) (no m) ih x l = ih k x l

  -- An event of its own operator is no twin.
  pub late-one : (k a b : ℕ) → plain b ≡ b → Late k a (b ∷ [])
  late-one k a b r = go (ℕ_discrete a b) (ℕ_discrete a (plain b))
    where
      go : (d : Dec (a ≡ b)) (e : Dec (a ≡ plain b)) → Late-step d e k (λ j. Late j a [])
      go (yes p) e = tt
      go (no n) (yes q) = absurd (n (q ∙ r))
      go (no n) (no m) = tt

  -- Nor is the twin of another operator one of this.
  pub late-other : (k a b : ℕ) → a ≢ plain b → Late k a (b ∷ [])
  late-other k a b ne = go (ℕ_discrete a b) (ℕ_discrete a (plain b))
    where
      go : (d : Dec (a ≡ b)) (e : Dec (a ≡ plain b)) → Late-step d e k (λ j. Late j a [])
      go (yes p) e = tt
      go (no n) (yes q) = absurd (ne q)
      go (no n) (no m) = tt

  -- What one event of a run takes away.
  pub late-removed : (k a c : ℕ) (w : List ℕ) → plain c ≡ c → Late (suc k) a w → Late k a (removed-first c w)
  late-removed k a c [] r h = tt
  late-removed k a c (b ∷ w) r h =
      go (ℕ_discrete c b) (ℕ_discrete a b) (ℕ_discrete a (plain b)) refl refl (λ m x. late-removed m a c w r x) h
    where
      kept : (d : Dec (a ≡ b)) (e : Dec (a ≡ plain b)) → ((m : ℕ) → Late (suc m) a w → Late m a (removed-first c w)) →
          Late-step d e (suc k) (λ j. Late j a w) → Late-step d e k (λ j. Late j a (removed-first c w))
      kept (yes p) e ih x = zero_or k x
        where
          zero_or : (k : ℕ) → Late k a w → Late (less_one k) a (removed-first c w)
          zero_or zero y = late-zero a (removed-first c w)
          zero_or (suc m) y = ih m y
      kept (no n) (yes q) ih x = absurd (omega (arith, x.0))
      kept (no n) (no m) ih x = ih k x

      gone : (p : c ≡ b) (d : Dec (a ≡ b)) (e : Dec (a ≡ plain b)) → Late-step d e (suc k) (λ j. Late j a w) → Late k a w
      gone p (yes z) e x = x
      gone p (no n) (yes q) x = absurd (omega (arith, x.0))
      gone p (no n) (no m) x = late-less k (suc k) a w (omega arith) x

      go : (d : Dec (c ≡ b)) (x : Dec (a ≡ b)) (y : Dec (a ≡ plain b)) → ℕ_discrete a b ≡ x → ℕ_discrete a (plain b) ≡ y →
          ((m : ℕ) → Late (suc m) a w → Late m a (removed-first c w)) → Late-step x y (suc k) (λ j. Late j a w) → Late k a (ite d w (b ∷ removed-first c w))
      go (yes p) x y ex ey ih z = gone p x y z
      go (no n) x y ex ey ih z = rw (ex, ey) (kept x y ih z)

  module _ {S O : Type 0} (enabled : ℕ → S → Type 0) (next : ℕ → S → S) (output : ℕ → S → O) where
    -- An operator's own event and an event of another operator.
    pub record Part-diamond : Type 0 where
      pub stays : (a b : ℕ) (s : S) → plain a ≡ a → a ≢ plain b → enabled a s → enabled b s → enabled b (next a s) × enabled a (next b s)
      pub meets : (a b : ℕ) (s : S) → plain a ≡ a → a ≢ plain b → enabled a s → enabled b s → next b (next a s) ≡ next a (next b s)
      pub same : (a b : ℕ) (s : S) → plain a ≡ a → a ≢ plain b → enabled a s → enabled b s →
          (output b (next a s) ≡ output b s) × (output a (next b s) ≡ output a s)

    abbrev pub Own-events : List ℕ → Type 0
    Own-events [] = Unit {0}
    Own-events (a ∷ u) = (plain a ≡ a) × Own-events u

    module _ (D : Part-diamond) where
      -- what Late says of the first event, if it is not `a`
      other-first : (k a b : ℕ) (w : List ℕ) → a ≢ b → Late (suc k) a (b ∷ w) → (a ≢ plain b) × Late (suc k) a w
      other-first k a b w ne h = go (ℕ_discrete a b) (ℕ_discrete a (plain b)) h
        where
          go : (d : Dec (a ≡ b)) (e : Dec (a ≡ plain b)) → Late-step d e (suc k) (λ j. Late j a w) → (a ≢ plain b) × Late (suc k) a w
          go (yes p) e x = absurd (ne p)
          go (no n) (yes q) x = absurd (omega (arith, x.0))
          go (no n) (no m) x = (m, x)

      pub removed-possible : (k a : ℕ) (w : List ℕ) (s : S) → plain a ≡ a → enabled a s → Possible enabled next output w s → Late (suc k) a w →
          Possible enabled next output (removed-first a w) (next a s)
      removed-possible k a [] s r h p l = tt
      removed-possible k a (b ∷ w) s r h p l = go (λ x y. removed-possible k a w (next b s) r x p.1 y) (ℕ_discrete a b)
        where
          go : (enabled a (next b s) → Late (suc k) a w → Possible enabled next output (removed-first a w) (next a (next b s))) → (d : Dec (a ≡ b)) → Possible enabled next output (ite d w (b ∷ removed-first a w)) (next a s)
          go ih (yes e) = rw e p.1
          go ih (no n) =
              let o = other-first k a b w n l in
              let c = D.stays a b s r o.0 h p.0 in
              (c.0, rw (D.meets a b s r o.0 h p.0) (ih c.1 o.1))

      -- Another event than `a` gives what it gave.
      others_same : (e k a : ℕ) (w : List ℕ) (s : S) → e ≢ a → plain a ≡ a → enabled a s → Possible enabled next output w s → Late (suc k) a w →
          outputs enabled next output e (removed-first a w) (next a s) ≡ outputs enabled next output e w s
      others_same e k a [] s ne r h p l = refl
      others_same e k a (b ∷ w) s ne r h p l = go (λ x y. others_same e k a w (next b s) ne r x p.1 y) (ℕ_discrete a b)
        where
          skip : (q : a ≡ b) (c : Dec (e ≡ b)) → outputs enabled next output e w (next a s)
              ≡ ite c (output b s ∷ outputs enabled next output e w (next b s)) (outputs enabled next output e w (next b s))
          skip q (yes z) = absurd (ne (z ∙ sym q))
          skip q (no z) = ap (λ c. outputs enabled next output e w (next c s)) q

          go : (enabled a (next b s) → Late (suc k) a w → outputs enabled next output e (removed-first a w) (next a (next b s)) ≡ outputs enabled next output e w (next b s)) →
              (d : Dec (a ≡ b)) → outputs enabled next output e (ite d w (b ∷ removed-first a w)) (next a s) ≡ outputs enabled next output e (b ∷ w) s
          go ih (yes q) = skip q (ℕ_discrete e b)
          go ih (no n) =
              let o = other-first k a b w n l in
              let c = D.stays a b s r o.0 h p.0 in
              let z = ih c.1 o.1 in
              cc ((D.same a b s r o.0 h p.0).0, D.meets a b s r o.0 h p.0)

      abbrev Shifted : ℕ → List O → List O → S → Type 0
      Shifted a xs ys s = (xs ≡ []) ⊎ (xs ≡ output a s ∷ ys)

      own-shift : (k a : ℕ) (w : List ℕ) (s : S) → plain a ≡ a → enabled a s → Possible enabled next output w s → Late (suc k) a w →
          Shifted a (outputs enabled next output a w s) (outputs enabled next output a (removed-first a w) (next a s)) s
      own-shift k a [] s r h p l = inl refl
      own-shift k a (b ∷ w) s r h p l = go (λ x y. own-shift k a w (next b s) r x p.1 y) (ℕ_discrete a b) refl
        where
          go : (enabled a (next b s) → Late (suc k) a w →
              Shifted a (outputs enabled next output a w (next b s)) (outputs enabled next output a (removed-first a w) (next a (next b s))) (next b s)) →
              (d : Dec (a ≡ b)) → ℕ_discrete a b ≡ d →
              Shifted a (ite d (output b s ∷ outputs enabled next output a w (next b s)) (outputs enabled next output a w (next b s)))
              (outputs enabled next output a (ite d w (b ∷ removed-first a w)) (next a s)) s
          go ih (yes q) e = inr (cc)
          go ih (no n) e =
              let o = other-first k a b w n l in
              let c = D.stays a b s r o.0 h p.0 in
              ⊎_elim (λ z. inl z) (λ z. inr (cc ((D.same a b s r o.0 h p.0).1, D.meets a b s r o.0 h p.0)))
              (ih c.1 o.1)

      -- A run of own events, no longer than k: every event gives the same along it and along the reference, as far as both go.
      pub late-outputs-agree : (k e : ℕ) (u w : List ℕ) (s : S) → Own-events u → length u ≤ k → Possible enabled next output u s →
          Possible enabled next output w s → ((a : ℕ) → Late k a w) → Agree (outputs enabled next output e u s) (outputs enabled next output e w s)
      late-outputs-agree k e [] w s o le ru h l = tt
      late-outputs-agree zero e (a ∷ u) w s o le ru h l = absurd (omega arith)
      late-outputs-agree (suc k) e (a ∷ u) w s o le ru h l =
          go (late-outputs-agree k e u (removed-first a w) (next a s) o.1 (omega arith) ru.1
          (removed-possible k a w s o.0 ru.0 h (l a)) (λ b. late-removed k b a w o.0 (l b))) (ℕ_discrete e a)
        where
          both : (ys : List O) → Agree (outputs enabled next output a u (next a s)) ys → Shifted a (outputs enabled next output a w s) ys s →
              Agree (output a s ∷ outputs enabled next output a u (next a s)) (outputs enabled next output a w s)
          both ys ih (inl z) = rw z tt
          both ys ih (inr z) = rw z (refl, ih)

          go : Agree (outputs enabled next output e u (next a s)) (outputs enabled next output e (removed-first a w) (next a s)) → (d : Dec (e ≡ a)) →
              Agree (ite d (output a s ∷ outputs enabled next output e u (next a s)) (outputs enabled next output e u (next a s))) (outputs enabled next output e w s)
          go ih (no n) = rw (others_same e k a w s n o.0 ru.0 h (l a)) at ih
          go ih (yes q) = rw q (both _ (rw q at ih) (own-shift k a w s o.0 ru.0 h (l a)))
