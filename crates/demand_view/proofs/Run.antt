-- Laws of specs/Run.antt, and what only they need.
use Prim.Native.Nat.{ℕ, zero, suc, ◌+◌, ◌≤◌, ◌<◌}
use Rattle.std.specs.Prelude.{◌≡◌, Bool, true, false, ltb}
use Rattle.std.proofs.Math.Path.{refl, ap, subst}
use Rattle.std.proofs.Common.{sym, ◌∙◌}
use Rattle.std.proofs.lemmas.Bool.{false≢true}
use mathlib.Core.List.{List, []}
use Rattle.std.proofs.Math.Option.{Option, none, some}
use native.Mathlib.Omega.{arith}
use borrow.Author.Tests.{lt-ltb, le-ltb}
use Rattle.std.proofs.Math.ListN.{length}
use Rattle.value.specs.Operators.{pick}
use Rattle.network.specs.Net.{Links, Able, act}
use Rattle.network.proofs.Firing.{none-is-not-some, some_same}
use Rattle.theory_pieces.specs.Tape.{Step, firing}
use Rattle.formula.specs.Tree.{Exp}
use Rattle.graph.specs.Translation.{made_of}
use Rattle.machine_layout.specs.Layout.{links_at, size_of}
use Rattle.machine_firing.specs.Fire.{able_at, fired_at}
use Rattle.machine_runs.specs.Run.{least_from, first_from, least, lowest_from, Ran, ran, runs, runs_from, still_at, still_from}
use Rattle.machine_runs.specs.RunLaws.{least-none}
use Rattle.theory_verdicts.specs.Running.{places, dec_able, operator_at, fires, accept, after_steps, least_able, onward, run_steps, steps_of}
use Rattle.theory_verdicts.proofs.RunLaws.{least-is-least, run-below-lent}
use Rattle.theory_verdicts.specs.Running.{least_from as leastAbleFrom, pick as choose}
use Rattle.demand_view.specs.Sound.{Sound}
use Rattle.demand_view.specs.Stands.{Stands}
use Rattle.demand_view.proofs.Able.{able-on-links, able-on-bytes}
use Rattle.demand_view.proofs.Fired.{fired-stands}
use Rattle.demand_view.specs.Run.{numbered}

module _ (x : Exp) (S : Sound (made_of x)) (kinds : List ℕ) (capacity : ℕ) (one : 1 ≤ capacity) where
  abbrev size : ℕ
  size = size_of capacity

  abbrev count : ℕ
  count = length (made_of x).operators

  abbrev Cannot : ℕ → Links → Type 0
  Cannot a q = Able (places capacity) (operator_at x a) q → ⊥

  module _ (m : List ℕ) (q : Links) (H : Stands (made_of x) kinds capacity m q) where
    pub unable-on-bytes : (i : ℕ) → i < count → Cannot i q → able_at m size i ≡ false
    unable-on-bytes i h n = go (able_at m size i) refl
      where
        go : (b : Bool) → able_at m size i ≡ b → able_at m size i ≡ false
        go true e = absurd (n (able-on-links (made_of x) S kinds capacity m q H one i h e))
        go false e = e

    least-from : (k a : ℕ) → a + k ≤ count → least_from m size k a ≡ numbered (leastAbleFrom x capacity k a q) (a + k)
    unfolding first_from leastAbleFrom
    least-from zero a h = omega arith
    least-from (suc k) a h = go (dec_able (places capacity) (operator_at x a) q) (least-from k (suc a) (omega arith))
      where
        go : (d : Dec (Able (places capacity) (operator_at x a) q)) → least_from m size k (suc a) ≡ numbered (leastAbleFrom x capacity k (suc a) q) (suc a + k) →
            pick (able_at m size a) a (least_from m size k (suc a)) ≡ numbered (choose d a (leastAbleFrom x capacity k (suc a) q)) (a + suc k)
        go (yes p) ih = rw (able-on-bytes (made_of x) S kinds capacity m q H a (omega arith) p) refl
        go (no n) ih =
            let e : suc a + k ≡ a + suc k = omega arith in
            rw (unable-on-bytes a (omega arith) n) (ih ∙ ap (numbered (leastAbleFrom x capacity k (suc a) q)) e)

    least-is : least m size count ≡ numbered (least_able x capacity q) count
    unfolding lowest_from
    least-is = let z : 0 + count ≡ count = omega arith in least-from count 0 (omega arith) ∙ ap (numbered (least_able x capacity q)) z

  -- an operator that is found is one of the graph's
  found_below : (k a : ℕ) (q : Links) (c : ℕ) → leastAbleFrom x capacity k a q ≡ some c → c < a + k
  unfolding leastAbleFrom
  found_below zero a q c e = absurd (none-is-not-some c e)
  found_below (suc k) a q c e = go (dec_able (places capacity) (operator_at x a) q) e (found_below k (suc a) q c)
    where
      go : (d : Dec (Able (places capacity) (operator_at x a) q)) → choose d a (leastAbleFrom x capacity k (suc a) q) ≡ some c →
          (leastAbleFrom x capacity k (suc a) q ≡ some c → c < suc a + k) → c < a + suc k
      go (yes p) f ih = let z : a ≡ c = some_same a c f in omega arith
      go (no n) f ih = let z = ih f in omega arith

  found-there : (q : Links) (c : ℕ) → least_able x capacity q ≡ some c → c < count
  found-there q c e = let z = found_below count 0 q c e in omega arith

  -- ---- the run
  -- A run on bytes and its steps on links: the memory stands with the links after them, and the count is theirs.
  abbrev pub Same-run : Ran → List Step → Links → ℕ → Type 0
  Same-run r w q c = Stands (made_of x) kinds capacity r.mem (after_steps x w q) × (r.count ≡ c + length w)

  -- with c firings made before
  runs_same : (lent : ℕ) (m : List ℕ) (q : Links) → Stands (made_of x) kinds capacity m q → (c : ℕ) → Same-run (runs size count lent m c) (run_steps x capacity lent q) q c
  unfolding runs_from run_steps
  runs_same zero m q H c = (H, omega arith)
  runs_same (suc b) m q H c =
      subst (λ n. Same-run (pick (ltb n count) (runs size count b (fired_at m size n) (c + 1)) (ran m c)) (onward (least_able x capacity q) later) q c)
      (sym (least-is m q H)) (go (least_able x capacity q) refl (λ a h t. runs_same b (fired_at m size a) (act (operator_at x a) q) (fired-stands (made_of x) S kinds capacity m q H a h t) (c + 1)))
    where
      later : ℕ → List Step
      later = λ a. run_steps x capacity b (act (operator_at x a) q)

      go : (z : Option ℕ) → least_able x capacity q ≡ z →
          ((a : ℕ) → a < count → able_at m size a ≡ true → Same-run (runs size count b (fired_at m size a) (c + 1)) (run_steps x capacity b (act (operator_at x a) q)) (act (operator_at x a) q) (c + 1)) →
          Same-run (pick (ltb (numbered z count) count) (runs size count b (fired_at m size (numbered z count)) (c + 1)) (ran m c)) (onward z later) q c
      go none e ih = rw (le-ltb count count (omega arith)) (H, omega arith)
      go (some a) e ih =
          let h = found-there q a e in
          let t = able-on-bytes (made_of x) S kinds capacity m q H a h (least-is-least x capacity count 0 q a e).0 in
          let r = ih a h t in
          rw (lt-ltb a count h) (r.0, omega (arith, r.1))

  -- THE RUN.
  pub run-same : (lent : ℕ) (m : List ℕ) (q : Links) → Stands (made_of x) kinds capacity m q →
      Stands (made_of x) kinds capacity (runs size count lent m 0).mem (after_steps x (run_steps x capacity lent q) q)
      × ((runs size count lent m 0).count ≡ length (run_steps x capacity lent q))
  run-same lent m q H = let r = runs_same lent m q H 0 in (r.0, r.1 ∙ omega arith)

  -- ---- nothing can fire
  module _ (m : List ℕ) (q : Links) (H : Stands (made_of x) kinds capacity m q) where
    none-still : ((a : ℕ) → a < count → Cannot a q) → still_at m size count ≡ true
    unfolding still_from
    none-still n =
        rw (least-none m links_at size count (λ j h. unable-on-bytes m q H j h (n j h)), le-ltb count count (omega arith)) refl

    still-found : (c : ℕ) → least_able x capacity q ≡ some c → still_at m size count ≡ false
    unfolding still_from
    still-found c e = rw (least-is m q H, e, lt-ltb c count (found-there q c e)) refl

    no_step : least_able x capacity q ≡ none → run_steps x capacity 1 q ≡ []
    unfolding run_steps
    no_step e = rw e refl

    -- "Nothing can fire when each operator would get 34."
    pub still-refused : still_at m size count ≡ true → (a : ℕ) → steps_of x capacity (fires a) q ≡ []
    still-refused t a = go (least_able x capacity q) refl
      where
        go : (z : Option ℕ) → least_able x capacity q ≡ z → steps_of x capacity (fires a) q ≡ []
        go (some c) e = absurd (false≢true (sym (still-found c e) ∙ t))
        go none e =
            subst (λ w. steps_of x capacity (fires a) (after_steps x w q) ≡ []) (no_step e)
            (run-below-lent x capacity 1 q (let z = ap length (no_step e) in omega arith) a)

    pub still-cannot : still_at m size count ≡ true → (a : ℕ) → Cannot a q
    unfolding steps_of
    still-cannot t a = go (dec_able (places capacity) (operator_at x a) q) (still-refused t a)
      where
        go : (d : Dec (Able (places capacity) (operator_at x a) q)) → accept d (firing a) ≡ [] → Cannot a q
        go (yes p) e = let z = ap length e in absurd (omega arith)
        go (no n) e = n

    pub cannot-still : ((a : ℕ) → Cannot a q) → still_at m size count ≡ true
    cannot-still n = none-still (λ a h. n a)
