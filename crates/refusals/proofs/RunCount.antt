-- Laws of specs/RunCount.antt, and what only they need.
use Rattle.std.specs.Prelude.{ℕ, zero, suc, ◌+◌, ◌-◌, ◌≤◌, ◌<◌, ◌≡◌, Bool, List, ltb}
use Rattle.std.proofs.Math.Path.{refl}
use Rattle.std.proofs.Common.{sym, ap, ◌∙◌, arith, ltb-true, ltb-false}
use Rattle.std.proofs.Math.Bool.{true, false}
use Rattle.std.proofs.lemmas.Bool.{false≢true, not-true, not-false}
use Rattle.std.proofs.Math.Decide.{ℕ_discrete}
use Rattle.value.specs.Operators.{pick}
use Rattle.machine_layout.specs.Layout.{links_at, operators_of}
use Rattle.machine_firing.specs.Fire.{able_at, fired_at}
use Rattle.machine_runs.specs.Run.{least_from, first_from, least, lowest_from, Ran, runs, runs_from, still_at, still_from}
use Rattle.machine_runs.specs.RunLaws.{Quiet, runs-step, runs-end, runs-zero, runs-below}
use Rattle.machine_calls.specs.Calls.{size_in, standing, ended, ran}
use Rattle.machine_calls.specs.CallLaws.{ran-ended}
use Rattle.refusals.specs.RunCount.{Firings, Found, Counted, RunCounts}

found : (m : List ℕ) (size k s : ℕ) → Found m size k s
unfolding first_from
found m size zero s = record { from = omega arith; upto = omega arith; able = λ h. absurd (omega arith); quiet = λ j a b. absurd (omega arith) }
found m size (suc k) s = go (able_at m size s) refl (found m size k (suc s))
  where
    go : (b : Bool) → able_at m size s ≡ b → Found m size k (suc s) → Found m size (suc k) s
    go true e F =
        let z : pick (able_at m size s) s (least_from m size k (suc s)) ≡ s = (rw e refl) in
        record {
          from = omega (arith, z);
          upto = omega (arith, z);
          able = λ h. ap (able_at m size) z ∙ e;
          quiet = λ j a b. absurd (omega (arith, z));
        }
    go false e F =
        let z : pick (able_at m size s) s (least_from m size k (suc s)) ≡ least_from m size k (suc s) = (rw e refl) in
        record {
          from = omega (arith, z, F.from);
          upto = omega (arith, z, F.upto);
          able = λ h. ap (able_at m size) z ∙ F.able (omega (arith, z));
          quiet = λ j a b. later j a (omega (arith, z)) (ℕ_discrete j s);
        }
      where
        later : (j : ℕ) → s ≤ j → j < least_from m size k (suc s) → Dec (j ≡ s) → able_at m size j ≡ false
        later j a b (yes p) = ap (able_at m size) p ∙ e
        later j a b (no q) = F.quiet j (omega arith) b

-- Nothing can fire: no operator is able.
pub still-quiet : (m : List ℕ) (size n : ℕ) → still_at m size n ≡ true → Quiet m size n
unfolding still_from lowest_from
still-quiet m size n h j l =
    let F = found m size n 0 in
    let e = ltb-false (least_from m size n 0) n (not-true (ltb (least_from m size n 0) n) h) in
    F.quiet j (omega arith) (omega arith)

-- Something can fire: an operator is able.
pub unstill-able : (m : List ℕ) (size n : ℕ) → still_at m size n ≡ false → (i : ℕ) × (i < n) × (able_at m size i ≡ true)
unfolding still_from lowest_from
unstill-able m size n h =
    let F = found m size n 0 in
    let e = ltb-true (least_from m size n 0) n (not-false (ltb (least_from m size n 0) n) h) in
    (least_from m size n 0, e, F.able (omega arith))

counted : (size n b : ℕ) (m : List ℕ) (c : ℕ) → Counted size n b m (runs size n b m c) c
unfolding runs_from lowest_from
counted size n zero m c = record { made = 0; counts = omega arith; lent = omega arith; between = refl }
counted size n (suc b) m c = go (ltb (least m size n) n) refl (counted size n b (fired_at m size (least m size n)) (c + 1))
  where
    go : (t : Bool) → ltb (least m size n) n ≡ t
        → Counted size n b (fired_at m size (least m size n)) (runs size n b (fired_at m size (least m size n)) (c + 1)) (c + 1)
        → Counted size n (suc b) m (pick t (runs size n b (fired_at m size (least m size n)) (c + 1)) (record { mem = m; count = c })) c
    go true e I =
        let F = found m size n 0 in
        let l = ltb-true (least_from m size n 0) n e in
        record {
          made = suc I.made;
          counts = omega (arith, I.counts);
          lent = omega (arith, I.lent);
          between = (least_from m size n 0, l, F.able (omega arith), λ j h. F.quiet j (omega arith) h, I.between);
        }
    go false e I = record { made = 0; counts = omega arith; lent = omega arith; between = refl }

only : (size n b k : ℕ) (m m' : List ℕ) (c : ℕ) → k ≤ b → Firings size n k m m' → (k < b → still_at m' size n ≡ true)
    → runs size n b m c ≡ record { mem = m'; count = c + k }
only size n b zero m m' c l f s = go (ℕ_discrete b 0)
  where
    z : c + 0 ≡ c
    z = omega arith

    go : Dec (b ≡ 0) → runs size n b m c ≡ record { mem = m'; count = c + 0 }
    go (yes p) = rw (p, f, z) (runs-zero links_at size n m c)
    go (no q) = rw (f, z) (runs-end links_at size n b m c (still-quiet m size n (rw f at (s (omega arith)))))
only size n b (suc k) m m' c l f s =
    let z : c + suc k ≡ c + 1 + k = omega arith in
    runs-step links_at size n b m c f.0 (omega arith) f.1 f.3 f.2
    ∙ only size n (b - 1) k (fired_at m size f.0) m' (c + 1) (omega arith) f.4 (λ h. s (omega arith))
    ∙ (λ i. record { mem = m'; count = sym z i })

module _ (m : List ℕ) (firings : ℕ) (st : standing m ≡ 0) where
  abbrev R : Ran
  R = runs (size_in m) (operators_of m) firings m 0

  pub run_is : (b : Bool) → still_at R.mem (size_in m) (operators_of m) ≡ b
      → ((ran m firings).answer.count ≡ R.count) × ((ran m firings).mem ≡ R.mem) × ((ran m firings).answer.refusal ≡ pick b 0 36)
  unfolding ended
  run_is b e = rw (ran-ended m st firings) (go b e)
    where
      go : (b : Bool) → still_at R.mem (size_in m) (operators_of m) ≡ b
          → ((ended R (size_in m) (operators_of m)).answer.count ≡ R.count) × ((ended R (size_in m) (operators_of m)).mem ≡ R.mem)
          × ((ended R (size_in m) (operators_of m)).answer.refusal ≡ pick b 0 36)
      go true e = rw e (refl, refl, refl)
      go false e = rw e (refl, refl, refl)

  pub run-counts : RunCounts m firings
  run-counts = go (still_at R.mem (size_in m) (operators_of m)) refl
    where
      C : Counted (size_in m) (operators_of m) firings m R 0
      C = counted (size_in m) (operators_of m) firings m 0

      early : R.count < firings → still_at R.mem (size_in m) (operators_of m) ≡ true
      early h = runs-below links_at (size_in m) (operators_of m) firings m 0 (omega arith)

      go : (b : Bool) → still_at R.mem (size_in m) (operators_of m) ≡ b → RunCounts m firings
      go b e =
          let i = run_is b e in
          let z : (ran m firings).answer.count ≡ C.made = omega (arith, i.0, C.counts) in
          let s : still_at (ran m firings).mem (size_in m) (operators_of m) ≡ b = ap (λ (x : List ℕ). still_at x (size_in m) (operators_of m)) i.1 ∙ e in
          record {
            lent = omega (arith, z, C.lent);
            between = rw (z, i.1) C.between;
            below = λ h. ap (λ (x : List ℕ). still_at x (size_in m) (operators_of m)) i.1 ∙ early (omega (arith, i.0));
            unfinished = λ h. full b e s (sym i.2 ∙ h) (ℕ_discrete (ran m firings).answer.count firings) z;
            accepted = λ h. done b s (sym i.2 ∙ h);
          }
        where
          full : (b : Bool) → still_at R.mem (size_in m) (operators_of m) ≡ b → still_at (ran m firings).mem (size_in m) (operators_of m) ≡ b
              → ◌≡◌ {A = ℕ} (pick b 0 36) 36 → Dec ((ran m firings).answer.count ≡ firings) → (ran m firings).answer.count ≡ C.made
              → ((ran m firings).answer.count ≡ firings) × (still_at (ran m firings).mem (size_in m) (operators_of m) ≡ false)
          full true e s h d z = absurd (omega arith)
          full false e s h (yes p) z = (p, s)
          full false e s h (no q) z = absurd (false≢true (sym e ∙ early (omega (arith, z, C.counts, C.lent))))

          done : (b : Bool) → still_at (ran m firings).mem (size_in m) (operators_of m) ≡ b → ◌≡◌ {A = ℕ} (pick b 0 36) 0
              → still_at (ran m firings).mem (size_in m) (operators_of m) ≡ true
          done true s h = s
          done false s h = absurd (omega arith)

  -- No other count and no other memory is a run's: k firings up to the lent number, fewer only where nothing can fire.
  pub run_only : (k : ℕ) (m' : List ℕ) → k ≤ firings → Firings (size_in m) (operators_of m) k m m'
      → (k < firings → still_at m' (size_in m) (operators_of m) ≡ true) → ((ran m firings).answer.count ≡ k) × ((ran m firings).mem ≡ m')
  run_only k m' l f s =
      let o = only (size_in m) (operators_of m) firings k m m' 0 l f s in
      let i = run_is (still_at R.mem (size_in m) (operators_of m)) refl in
      let z : 0 + k ≡ k = omega arith in
      (i.0 ∙ ap (λ (r : Ran). r.count) o ∙ z, i.1 ∙ ap (λ (r : Ran). r.mem) o)
