-- Laws of specs/RoundSteps.antt, and what only they need.
use Prim.Native.Nat.{ℕ, zero, suc, ◌+◌, ◌≤◌, ◌<◌}
use Rattle.std.specs.Prelude.{◌≡◌, ◌≢◌, Bool, true, false, eqb, length}
use Rattle.std.proofs.Math.Path.{refl}
use Rattle.std.proofs.Common.{sym, ap, subst, ◌∙◌, arith, eqb-true, length-append}
use mathlib.Core.List.{List, [], ◌∷◌, ◌++◌}
use Rattle.std.proofs.lemmas.Bool.{eqb-false}
use Rattle.value.specs.Operators.{pick}
use Rattle.network.specs.Net.{Links, Able, act}
use Rattle.theory_pieces.specs.Tape.{Step, firing}
use Rattle.formula.specs.Tree.{Exp}
use Rattle.graph.specs.Assembly.{up_from}
use Rattle.graph.specs.Translation.{made_of}
use Rattle.machine_layout.specs.Layout.{size_of}
use Rattle.machine_firing.specs.Fire.{able_at, fired_at}
use Rattle.machine_rounds.specs.Rounds.{Swept, sweep, round, Rounded, rounded, rounds_from}
use Rattle.theory_verdicts.specs.Running.{places, dec_able, operator_at, accept, after_steps, steps_of, steps_from}
use Rattle.demand_view.specs.Sound.{Sound}
use Rattle.demand_view.specs.Stands.{Stands}
use Rattle.demand_view.proofs.Able.{able-on-bytes}
use Rattle.demand_view.proofs.Fired.{fired-stands}
use Rattle.demand_view.proofs.Run.{unable-on-bytes}
use Rattle.demand.proofs.Followed.{after-append, steps-append}
use Rattle.demand.specs.RoundSteps.{turn_calls, round_calls, rounds_calls, Same-rounds}
use Rattle.demand.specs.RoundSteps as Stated

module _ (x : Exp) (capacity : ℕ) where
  abbrev roundSteps : Links → List Step
  roundSteps = Stated.roundSteps x capacity

  abbrev roundsSteps : ℕ → Links → List Step
  roundsSteps = Stated.roundsSteps x capacity

  -- no round more
  pub rounds-none : (q : Links) → roundsSteps 0 q ≡ []
  unfolding rounds_calls steps_from
  rounds-none q = refl

  -- one round more, made first
  pub rounds-more : (r : ℕ) (q : Links) → roundsSteps (suc r) q ≡ roundSteps q ++ roundsSteps r (after_steps x (roundSteps q) q)
  unfolding rounds_calls
  rounds-more r q = steps-append x capacity (round_calls x) (rounds_calls x r) q

  pub rounds-after : (r : ℕ) (q : Links) → after_steps x (roundsSteps (suc r) q) q ≡ after_steps x (roundsSteps r (after_steps x (roundSteps q) q)) (after_steps x (roundSteps q) q)
  rounds-after r q =
      ap (λ (w : List Step). after_steps x w q) (rounds-more r q) ∙ after-append x capacity (roundSteps q) (roundsSteps r (after_steps x (roundSteps q) q)) q

  -- Where a round has no step, none has.
  pub rounds-idle : (r : ℕ) (q : Links) → roundSteps q ≡ [] → roundsSteps r q ≡ []
  rounds-idle zero q e = rounds-none q
  rounds-idle (suc r) q e = rounds-more r q ∙ ap (λ (w : List Step). w ++ roundsSteps r (after_steps x w q)) e ∙ rounds-idle r q e

none-long : (w : List Step) → length w ≡ 0 → w ≡ []
none-long [] e = refl
none-long (s ∷ w) e = absurd (omega arith)

module _ (x : Exp) (S : Sound (made_of x)) (kinds : List ℕ) (capacity : ℕ) (one : 1 ≤ capacity) where
  abbrev size : ℕ
  size = size_of capacity

  abbrev count : ℕ
  count = length (made_of x).operators

  -- ---- one round
  -- Operators in turn on bytes and their steps on links: the memory stands with the links after them, and so many have fired, c before them.
  abbrev Same-sweep : Swept → List Step → Links → ℕ → Type 0
  Same-sweep s w q c = Stands (made_of x) kinds capacity s.mem (after_steps x w q) × (s.firings ≡ c + length w)

  sweep-same : (k i : ℕ) → i + k ≤ count → (m : List ℕ) (q : Links) → Stands (made_of x) kinds capacity m q → (c : ℕ) → Same-sweep (sweep size k i m c) (steps_from x capacity (turn_calls i k) q) q c
  unfolding sweep up_from steps_from steps_of
  sweep-same zero i h m q H c = (H, omega arith)
  sweep-same (suc k) i h m q H c =
      go (dec_able (places capacity) (operator_at x i) q)
      (λ t. sweep-same k (suc i) (omega arith) (fired_at m size i) (act (operator_at x i) q) (fired-stands (made_of x) S kinds capacity m q H i (omega arith) t) (c + 1))
      (sweep-same k (suc i) (omega arith) m q H c)
    where
      later : Links → List Step
      later = steps_from x capacity (turn_calls (suc i) k)

      go : (d : Dec (Able (places capacity) (operator_at x i) q))
          → (able_at m size i ≡ true → Same-sweep (sweep size k (suc i) (fired_at m size i) (c + 1)) (later (act (operator_at x i) q)) (act (operator_at x i) q) (c + 1))
          → Same-sweep (sweep size k (suc i) m c) (later q) q c
          → Same-sweep (pick (able_at m size i) (sweep size k (suc i) (fired_at m size i) (c + 1)) (sweep size k (suc i) m c))
          (accept d (firing i) ++ later (after_steps x (accept d (firing i)) q)) q c
      go (yes p) f g =
          let t = able-on-bytes (made_of x) S kinds capacity m q H i (omega arith) p in
          let r = f t in
          rw t (r.0, omega (arith, r.1))
      go (no n) f g = rw (unable-on-bytes x S kinds capacity one m q H i (omega arith) n) g

  -- A ROUND.
  pub round_same : (m : List ℕ) (q : Links) → Stands (made_of x) kinds capacity m q →
      Stands (made_of x) kinds capacity (round size count m).mem (after_steps x (roundSteps x capacity q) q) × ((round size count m).firings ≡ length (roundSteps x capacity q))
  unfolding round
  round_same m q H = let r = sweep-same count 0 (omega arith) m q H 0 in (r.0, r.1 ∙ omega arith)

  module _ (q : Links) where
    abbrev q' : Links
    q' = after_steps x (roundSteps x capacity q) q

    none-counted : (b : ℕ) (m : List ℕ) → Stands (made_of x) kinds capacity m q → (0 < b → roundSteps x capacity q ≡ []) → roundsSteps x capacity b q ≡ [] → (Same-rounds x S kinds capacity one) b 0 0 q m
    none-counted b m H n e =
        let z = rounds-none x capacity q in
        record {
          stands = rw z H;
          firings-are = rw z refl;
          few = omega arith;
          live = λ j h. absurd (omega arith);
          last = λ h. rw z (n h);
          lent_same = e ∙ sym z;
        }

    one-counted : (b k f : ℕ) (m : List ℕ) → 0 < length (roundSteps x capacity q) → (Same-rounds x S kinds capacity one) b k f q' m → (Same-rounds x S kinds capacity one) (suc b) (suc k) (length (roundSteps x capacity q) + f) q m
    one-counted b k f m p M =
        let e = rounds-more x capacity k q in
        let a = rounds-after x capacity k q in
        record {
          stands = subst (Stands (made_of x) kinds capacity m) (sym a) M.stands;
          firings-are = omega (arith, M.firings-are, ap length e ∙ length-append (roundSteps x capacity q) (roundsSteps x capacity k q'));
          few = omega (arith, M.few);
          live = each;
          last = λ h. ap (roundSteps x capacity) a ∙ M.last (omega arith);
          lent_same = rounds-more x capacity b q ∙ ap (λ (u : List Step). roundSteps x capacity q ++ u) M.lent_same ∙ sym e;
        }
      where
        each : (j : ℕ) → j < suc k → 0 < length (roundSteps x capacity (after_steps x (roundsSteps x capacity j q) q))
        each zero h = rw (rounds-none x capacity q) p
        each (suc j) h = subst (λ (z : Links). 0 < length (roundSteps x capacity z)) (sym (rounds-after x capacity j q)) (M.live j (omega arith))

  -- with r rounds and f firings made before
  record Onward (b r f : ℕ) (q : Links) (w : Rounded) : Type 0 where
    counted : ℕ
    new : ℕ
    rounds-are : w.rounds ≡ r + counted
    firings-are : w.firings ≡ f + new
    same : (Same-rounds x S kinds capacity one) b counted new q w.mem

  onward : (b : ℕ) (m : List ℕ) (q : Links) → Stands (made_of x) kinds capacity m q → (r f : ℕ) → Onward b r f q (rounds_from size count b m r f)
  unfolding rounds_from
  onward zero m q H r f =
      record {
        counted = 0;
        new = 0;
        rounds-are = omega arith;
        firings-are = omega arith;
        same = none-counted q 0 m H (λ h. absurd (omega arith)) (rounds-none x capacity q);
      }
  onward (suc b) m q H r f =
      let R = round_same m q H in
      go (eqb (round size count m).firings 0) refl R.1 (onward b (round size count m).mem (q' q) R.0 (r + 1) (f + (round size count m).firings))
    where
      next : Rounded
      next = rounds_from size count b (round size count m).mem (r + 1) (f + (round size count m).firings)

      go : (z : Bool) → eqb (round size count m).firings 0 ≡ z → (round size count m).firings ≡ length (roundSteps x capacity q)
          → Onward b (r + 1) (f + (round size count m).firings) (q' q) next → Onward (suc b) r f q (pick z (rounded m r f) next)
      go true e n M =
          let i = none-long (roundSteps x capacity q) (sym n ∙ eqb-true (round size count m).firings 0 e) in
          record {
            counted = 0;
            new = 0;
            rounds-are = omega arith;
            firings-are = omega arith;
            same = none-counted q (suc b) m H (λ h. i) (rounds-idle x capacity (suc b) q i);
          }
      go false e n M =
          record {
            counted = suc M.counted;
            new = length (roundSteps x capacity q) + M.new;
            rounds-are = omega (arith, M.rounds-are);
            firings-are = omega (arith, M.firings-are, n);
            same = one-counted q b M.counted M.new next.mem (some-fired (eqb-false (round size count m).firings 0 e)) M.same;
          }
        where
          some-fired : (round size count m).firings ≢ 0 → 0 < length (roundSteps x capacity q)
          some-fired ne = omega (arith, n)

  -- THE ROUNDS.
  pub rounds-same : (lent : ℕ) (m : List ℕ) (q : Links) → Stands (made_of x) kinds capacity m q →
      (Same-rounds x S kinds capacity one) lent (rounds_from size count lent m 0 0).rounds (rounds_from size count lent m 0 0).firings q (rounds_from size count lent m 0 0).mem
  rounds-same lent m q H =
      let M = onward lent m q H 0 0 in
      let r : M.counted ≡ (rounds_from size count lent m 0 0).rounds = omega (arith, M.rounds-are) in
      let f : M.new ≡ (rounds_from size count lent m 0 0).firings = omega (arith, M.firings-are) in
      subst (λ (k : ℕ). (Same-rounds x S kinds capacity one) lent k (rounds_from size count lent m 0 0).firings q (rounds_from size count lent m 0 0).mem) r
      (subst (λ (k : ℕ). (Same-rounds x S kinds capacity one) lent M.counted k q (rounds_from size count lent m 0 0).mem) f M.same)
