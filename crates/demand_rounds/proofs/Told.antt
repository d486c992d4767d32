-- Laws of specs/Told.antt, and what only they need.
use Prim.Native.Nat.{ℕ, zero, suc, ◌+◌, ◌≤◌, ◌<◌}
use Rattle.std.specs.Prelude.{◌≡◌, Bool, cond, eqb, ltb, length, take as first_of}
use Rattle.std.proofs.Math.Path.{refl, ap}
use Rattle.std.proofs.Common.{sym, subst, ◌∙◌, arith, eq-eqb, ne_eqb, ltb-true, eqb-true, length-append}
use Rattle.std.proofs.Math.Bool.{true, false}
use mathlib.Core.List.{List, [], ◌∷◌, ◌++◌}
use Rattle.std.proofs.Math.Decide.{ℕ_discrete}
use Rattle.value.specs.Operators.{pick}
use Rattle.formula.specs.declared.Refusal.TheVariants.{Unfinished}
use Rattle.formula.specs.Refusals.{number_of}
use Rattle.machine_layout.specs.Layout.{operators_of}
use Rattle.machine_firing.specs.Fire.{able_at, fired_at}
use Rattle.machine_runs.specs.Run.{least_from, first_from, lowest_from, Ran, ran as ran_to, runs, runs_from, still_at}
use Rattle.machine_calls.specs.Calls.{Outcome, outcome, answers, size_in, standing, ended, ran}
use Rattle.machine_calls.specs.CallLaws.{ran-refused, ran-ended}
use Rattle.machine_rounds.specs.Rounds.{Swept, sweep, round, Rounded, rounded, rounds_from, ran_rounds}
use Rattle.machine_rounds.specs.Rounds.{outcome as rounds-outcome, answers as rounds-answers, ended as rounds-ended}
use Rattle.demand.specs.MemoryCalls.{run, by_rounds, answer_of}
use Rattle.demand_rounds.specs.InTurn.{run_fires, sweep_fires, rounds_fire, fired_by}
use Rattle.demand_rounds.specs.Told.{Told}
use Rattle.demand_rounds.specs.Told as Stated

module _ (size n : ℕ) where
  abbrev firedInTurn : List ℕ → List ℕ → List ℕ
  firedInTurn = Stated.firedInTurn size n

  abbrev AbleInTurn : List ℕ → List ℕ → Type 0
  AbleInTurn = Stated.AbleInTurn size n

  none_told : (m : List ℕ) (c : ℕ) → (Told size n) [] m m c c
  none_told m c = record { able = tt; leads = refl; counts = omega arith }

  one_told : (i : ℕ) (fires m m' : List ℕ) (c counted : ℕ) → i < n → able_at m size i ≡ true → (Told size n) fires (fired_at m size i) m' (c + 1) counted → (Told size n) (i ∷ fires) m m' c counted
  one_told i fires m m' c counted l a T = record { able = (l, a, T.able); leads = T.leads; counts = omega (arith, T.counts) }

  -- ---- a run
  least-able : (m : List ℕ) (k i : ℕ) → least_from m size k i < i + k → able_at m size (least_from m size k i) ≡ true
  unfolding first_from
  least-able m zero i l = absurd (omega arith)
  least-able m (suc k) i l = go (able_at m size i) refl l (least-able m k (suc i))
    where
      go : (a : Bool) → able_at m size i ≡ a → pick a i (least_from m size k (suc i)) < i + suc k
          → (least_from m size k (suc i) < suc i + k → able_at m size (least_from m size k (suc i)) ≡ true) → able_at m size (pick a i (least_from m size k (suc i))) ≡ true
      go true e h ih = e
      go false e h ih = ih (omega arith)

  run-told : (b : ℕ) (m : List ℕ) (c : ℕ) → (Told size n) (run_fires size n b m) m (runs size n b m c).mem c (runs size n b m c).count
  unfolding run_fires runs_from lowest_from
  run-told zero m c = none_told m c
  run-told (suc b) m c = go (ltb (least_from m size n 0) n) refl (run-told b (fired_at m size (least_from m size n 0)) (c + 1))
    where
      i : ℕ
      i = least_from m size n 0

      go : (a : Bool) → ltb (least_from m size n 0) n ≡ a
          → (Told size n) (run_fires size n b (fired_at m size i)) (fired_at m size i) (runs size n b (fired_at m size i) (c + 1)).mem (c + 1) (runs size n b (fired_at m size i) (c + 1)).count
          → (Told size n) (pick a (i ∷ run_fires size n b (fired_at m size i)) []) m (pick a (runs size n b (fired_at m size i) (c + 1)) (ran_to m c)).mem c
          (pick a (runs size n b (fired_at m size i) (c + 1)) (ran_to m c)).count
      go true e ih =
          let l = ltb-true (least_from m size n 0) n e in
          one_told i (run_fires size n b (fired_at m size i)) m (runs size n b (fired_at m size i) (c + 1)).mem c (runs size n b (fired_at m size i) (c + 1)).count l (least-able m n 0 (omega arith)) ih
      go false e ih = none_told m c

  -- ---- a round
  sweep-told : (k i : ℕ) → i + k ≤ n → (m : List ℕ) (c : ℕ) → (Told size n) (sweep_fires size k i m) m (sweep size k i m c).mem c (sweep size k i m c).firings
  unfolding sweep_fires sweep
  sweep-told zero i l m c = none_told m c
  sweep-told (suc k) i l m c = go (able_at m size i) refl (sweep-told k (suc i) (omega arith) (fired_at m size i) (c + 1)) (sweep-told k (suc i) (omega arith) m c)
    where
      fired : Swept
      fired = sweep size k (suc i) (fired_at m size i) (c + 1)

      passed : Swept
      passed = sweep size k (suc i) m c

      go : (a : Bool) → able_at m size i ≡ a → (Told size n) (sweep_fires size k (suc i) (fired_at m size i)) (fired_at m size i) fired.mem (c + 1) fired.firings
          → (Told size n) (sweep_fires size k (suc i) m) m passed.mem c passed.firings
          → (Told size n) (pick a (i ∷ sweep_fires size k (suc i) (fired_at m size i)) (sweep_fires size k (suc i) m)) m (pick a fired passed).mem c (pick a fired passed).firings
      go true e f g = one_told i (sweep_fires size k (suc i) (fired_at m size i)) m fired.mem c fired.firings (omega arith) e f
      go false e f g = g

  round-told : (m : List ℕ) → (Told size n) (sweep_fires size n 0 m) m (round size n m).mem 0 (round size n m).firings
  unfolding round
  round-told m = sweep-told n 0 (omega arith) m 0

  -- ---- rounds one after another
  in-turn-append : (f g m : List ℕ) → firedInTurn (f ++ g) m ≡ firedInTurn g (firedInTurn f m)
  in-turn-append [] g m = refl
  in-turn-append (i ∷ f) g m = in-turn-append f g (fired_at m size i)

  able-append : (f g m : List ℕ) → AbleInTurn f m → AbleInTurn g (firedInTurn f m) → AbleInTurn (f ++ g) m
  able-append [] g m a b = b
  able-append (i ∷ f) g m a b = (a.0, a.1, able-append f g (fired_at m size i) a.2 b)

  both_told : (f g m m' m'' : List ℕ) (c counted all : ℕ) → (Told size n) f m m' 0 counted → (Told size n) g m' m'' (c + counted) all → (Told size n) (f ++ g) m m'' c all
  both_told f g m m' m'' c counted all F G =
      record {
        able = able-append f g m F.able (subst (AbleInTurn g) F.leads G.able);
        leads = G.leads ∙ ap (firedInTurn g) F.leads ∙ sym (in-turn-append f g m);
        counts = omega (arith, F.counts, G.counts, length-append f g);
      }

  none-long : (f : List ℕ) → length f ≡ 0 → f ≡ []
  none-long [] e = refl
  none-long (i ∷ f) e = absurd (omega arith)

  -- Behind a round in which nothing fires nothing fires.
  idle-none : (b : ℕ) (m : List ℕ) → sweep_fires size n 0 m ≡ [] → rounds_fire size n b m ≡ []
  unfolding rounds_fire
  idle-none zero m e = refl
  idle-none (suc b) m e =
      let s : (round size n m).mem ≡ m = (round-told m).leads ∙ ap (λ (f : List ℕ). firedInTurn f m) e in
      ap (λ (f : List ℕ). f ++ rounds_fire size n b (round size n m).mem) e ∙ ap (rounds_fire size n b) s ∙ idle-none b m e

  rounds-told : (b : ℕ) (m : List ℕ) (r f : ℕ) → (Told size n) (rounds_fire size n b m) m (rounds_from size n b m r f).mem f (rounds_from size n b m r f).firings
  unfolding rounds_from rounds_fire
  rounds-told zero m r f = none_told m f
  rounds-told (suc b) m r f =
      go (eqb (round size n m).firings 0) refl (rounds-told b (round size n m).mem (r + 1) (f + (round size n m).firings)) (λ e. idle-none (suc b) m e)
    where
      next : Rounded
      next = rounds_from size n b (round size n m).mem (r + 1) (f + (round size n m).firings)

      later : List ℕ
      later = rounds_fire size n b (round size n m).mem

      go : (a : Bool) → eqb (round size n m).firings 0 ≡ a → (Told size n) later (round size n m).mem next.mem (f + (round size n m).firings) next.firings
          → (sweep_fires size n 0 m ≡ [] → sweep_fires size n 0 m ++ later ≡ [])
          → (Told size n) (sweep_fires size n 0 m ++ later) m (pick a (rounded m r f) next).mem f (pick a (rounded m r f) next).firings
      go true e T idle =
          let z : sweep_fires size n 0 m ≡ [] = none-long (sweep_fires size n 0 m) (omega (arith, (round-told m).counts, eqb-true (round size n m).firings 0 e)) in
          subst (λ (w : List ℕ). (Told size n) w m m f f) (sym (idle z)) (none_told m f)
      go false e T idle = both_told (sweep_fires size n 0 m) later m (round size n m).mem next.mem f (round size n m).firings next.firings (round-told m) T

-- ---- the calls
module _ (lent : ℕ) (m : List ℕ) where
  abbrev part : List ℕ
  part = first_of lent m

  -- A RUN: what it fires leads to the bytes that it leaves, and its answer counts it.
  pub run-fires-told : (firings : ℕ)
      → Told (size_in (first_of lent m)) (operators_of (first_of lent m)) (fired_by (run lent firings) m) (first_of lent m) (ran (first_of lent m) firings).mem 0 (answer_of (run lent firings) m).count
  unfolding fired_by answer_of ended
  run-fires-told firings = go (ℕ_discrete (standing part) 0)
    where
      fires : List ℕ
      fires = run_fires (size_in part) (operators_of part) firings part

      T : Outcome → List ℕ → Type 0
      T o f = Told (size_in part) (operators_of part) f part o.mem 0 o.answer.count

      r : Ran
      r = runs (size_in part) (operators_of part) firings part 0

      by-still : (t : Bool) → T (pick t (outcome (answers 0 r.count) r.mem) (outcome (answers (number_of Unfinished) r.count) r.mem)) fires
      by-still true = run-told (size_in part) (operators_of part) firings part 0
      by-still false = run-told (size_in part) (operators_of part) firings part 0

      go : Dec (standing part ≡ 0) → T (ran part firings) (cond (eqb (standing part) 0) fires [])
      go (yes e) =
          rw (eq-eqb (standing part) 0 e) (subst (λ (o : Outcome). T o fires) (sym (ran-ended part e firings)) (by-still (still_at r.mem (size_in part) (operators_of part))))
      go (no z) = rw (ne_eqb (standing part) 0 z) (subst (λ (o : Outcome). T o []) (sym (ran-refused part firings z)) (none_told (size_in part) (operators_of part) part 0))

  -- A RUN BY ROUNDS: the same, with the firings that it gives.
  pub rounds-fires-told : (rounds : ℕ)
      → Told (size_in (first_of lent m)) (operators_of (first_of lent m)) (fired_by (by_rounds lent rounds) m) (first_of lent m) (ran_rounds (first_of lent m) rounds).mem 0
      (ran_rounds (first_of lent m) rounds).answer.firings
  unfolding fired_by ran_rounds rounds-ended
  rounds-fires-told rounds = go (ℕ_discrete (standing part) 0)
    where
      go : Dec (standing part ≡ 0)
          → Told (size_in part) (operators_of part) (cond (eqb (standing part) 0) (rounds_fire (size_in part) (operators_of part) rounds part) []) part
          (pick (eqb (standing part) 0) (rounds-ended (rounds_from (size_in part) (operators_of part) rounds part 0 0) (size_in part) (operators_of part))
          (rounds-outcome (rounds-answers (standing part) 0 0) part)).mem 0
          (pick (eqb (standing part) 0) (rounds-ended (rounds_from (size_in part) (operators_of part) rounds part 0 0) (size_in part) (operators_of part))
          (rounds-outcome (rounds-answers (standing part) 0 0) part)).answer.firings
      go (yes e) = rw (eq-eqb (standing part) 0 e) (rounds-told (size_in part) (operators_of part) rounds part 0 0)
      go (no z) = rw (ne_eqb (standing part) 0 z) (none_told (size_in part) (operators_of part) part 0)
