-- Laws of specs/Onward.antt, and what only they need.
use Prim.Native.Nat.{ℕ, zero, suc, ◌+◌, ◌-◌, ◌≤◌, ◌<◌}
use Rattle.std.specs.Prelude.{◌≡◌, ◌⊎◌, ◌≢◌, true, replicate}
use Rattle.std.proofs.Math.Path.{refl, ap, ap₂, subst}
use Rattle.std.proofs.Common.{sym, ◌∙◌, arith, lt-ltb, length-append}
use Rattle.std.proofs.Math.Logic.{inl, inr}
use mathlib.Core.List.{List, [], ◌∷◌, ◌++◌, append_assoc, append-nil}
use Rattle.std.proofs.Math.Decide.{ℕ_discrete}
use Rattle.std.proofs.Math.ListN.{length, length-replicate}
use Rattle.std.proofs.Math.Seq.{take-length}
use Rattle.formula.specs.declared.Refusal.TheVariants.{NotAble}
use Rattle.formula.specs.Refusals.{number_of}
use Rattle.formula.specs.Tree.{Exp, formula_of}
use Rattle.network.specs.Net.{Links}
use Rattle.graph.specs.Translation.{made_of}
use Rattle.machine_layout.specs.Layout.{operators_of, untaken_of, capacity_in, size_of, need}
use Rattle.machine_runs.specs.Run.{still_at}
use Rattle.machine_calls.specs.Calls.{Outcome, size_in, standing, pushed, fired, ran, taken}
use Rattle.value_sets.specs.Sets.{set_ok}
use Rattle.machine_calls.specs.CallLaws.{fired-idle}
use Rattle.demand_view.specs.Stands.{Stands}
use Rattle.machine_start.specs.Start.{started}
use Rattle.refusals.specs.RunCount.{Firings, RunCounts}
use Rattle.refusals.proofs.RunCount.{still-quiet, run-counts}
use Rattle.refusals.proofs.Kept.{push-keeps}
use Rattle.demand.specs.MemoryCalls.{Call, fire, take, Result, answer_of, memory_after_all, sets_pushed, results_taken}
use Rattle.demand.proofs.ByHistory.{machine-stands}
use Rattle.demand.proofs.Demand3.{demand-3}
use Rattle.demand.proofs.Onward.{never-short, push-accepted-when-still}
use Rattle.text.proofs.PrintLaws.{line-length}
use Rattle.session.specs.Passes.{Fed, feeding, taken_from, line_by, Drained, draining, drained_of, Pass, pass_of, remaining_after}
use Rattle.session.proofs.PassLaws.{line-handed, drain-zero, drain-handed, drain-refused, drain-more, remaining-plain, remaining-refused}
use Rattle.session.proofs.FeedLaws.{feed-none, feed-accepted, feed-refused}
use Rattle.session.specs.WholeSets.{EachWhole}
use Rattle.session.specs.Reached.{Reached, handed_from}
use Rattle.session.proofs.Reached.{line-of-take, after_push, after-refused-push, after_run, after-take, after-refused-take}
use Rattle.session.specs.Onward.{lines_of, Underway, Going, over, on}
use Rattle.session.specs.Onward as Stated

-- ---- a feed and a drain as calls
module _ (start kinds : List ℕ) where
  -- What a feed leaves: these sets more are pushed, and it stops at a refused one or at the end.
  pub record FeedReached (ss : List (List ℕ)) (s : List (List ℕ)) (r : List Result) (f : Fed) : Type 0 where
    pub more : List (List ℕ)
    pub reached : Reached start f.mem (s ++ more) r
    pub all-sets : more ++ f.rest ≡ ss
    pub whole : EachWhole kinds f.rest
    pub stopped : (t : List ℕ) (ts : List (List ℕ)) → f.rest ≡ t ∷ ts → (pushed f.mem t).answer.refusal ≢ 0

  head-is : (t u : List ℕ) (ts us : List (List ℕ)) → ◌≡◌ {A = List (List ℕ)} (t ∷ ts) (u ∷ us) → t ≡ u
  head-is t u ts us e = cc

  pub feed-reached : (ss : List (List ℕ)) (m : List ℕ) (s : List (List ℕ)) (r : List Result) → Reached start m s r → EachWhole kinds ss → FeedReached ss s r (feeding ss m)
  feed-reached [] m s r R w =
      rw (feed-none m)
      (record {
        more = [];
        reached = subst (λ (n : List (List ℕ)). Reached start m n r) (sym (append-nil s)) R;
        all-sets = refl;
        whole = tt;
        stopped = λ t ts e. let y : ◌≡◌ {A = ℕ} 0 (suc (length ts)) = ap length e in absurd (omega arith);
      })
  feed-reached (t ∷ ss) m s r R w =
      go (ℕ_discrete (pushed m t).answer.refusal 0) (λ e. feed-reached ss (pushed m t).mem (s ++ (t ∷ [])) r (after_push start m s r R t e) w.1)
    where
      go : Dec ((pushed m t).answer.refusal ≡ 0) → ((pushed m t).answer.refusal ≡ 0 → FeedReached ss (s ++ (t ∷ [])) r (feeding ss (pushed m t).mem))
          → FeedReached (t ∷ ss) s r (feeding (t ∷ ss) m)
      go (yes e) later =
          let I = later e in
          rw (feed-accepted t ss m e)
          (record {
            more = t ∷ I.more;
            reached = subst (λ (n : List (List ℕ)). Reached start (feeding ss (pushed m t).mem).mem n r) (append_assoc s (t ∷ []) I.more) I.reached;
            all-sets = ap (λ (n : List (List ℕ)). t ∷ n) I.all-sets;
            whole = I.whole;
            stopped = I.stopped;
          })
      go (no n) later =
          rw (feed-refused t ss m n)
          (record {
            more = [];
            reached = subst (λ (i : List (List ℕ)). Reached start (pushed m t).mem i r) (sym (append-nil s)) (after-refused-push start m s r R t n);
            all-sets = refl;
            whole = w;
            stopped = λ u us e q.
                n (ap (λ (x : List ℕ). (pushed x t).answer.refusal) (sym (push-keeps m t n).1)
                ∙ ap (λ (x : List ℕ). (pushed (pushed m t).mem x).answer.refusal) (head-is t u ss us e) ∙ q);
          })

  -- What a drain leaves: these results more are taken, and their lines are printed.
  pub record DrainReached (s : List (List ℕ)) (r : List Result) (d : Drained) : Type 0 where
    pub more : List Result
    pub reached : Reached start d.mem s (r ++ more)
    pub count-is : d.count ≡ length more
    pub lines_are : d.lines ≡ lines_of more

  drain-reached : (n : ℕ) (m : List ℕ) (s : List (List ℕ)) (r : List Result) → Reached start m s r → DrainReached s r (draining n m)
  unfolding lines_of
  drain-reached zero m s r R =
      rw (drain-zero m) (record { more = []; reached = subst (Reached start m s) (sym (append-nil r)) R; count-is = refl; lines_are = refl })
  drain-reached (suc n) m s r R =
      go (ℕ_discrete (taken_from m).answer.refusal 0) (λ e. drain-reached n (taken_from m).mem s (r ++ (handed_from m ∷ [])) (after-take start m s r R e))
    where
      go : Dec ((taken_from m).answer.refusal ≡ 0)
          → ((taken_from m).answer.refusal ≡ 0 → DrainReached s (r ++ (handed_from m ∷ [])) (draining n (taken_from m).mem)) → DrainReached s r (draining (suc n) m)
      go (yes e) later =
          let I = later e in
          rw (drain-handed n m e)
          (record {
            more = handed_from m ∷ I.more;
            reached =
                subst (Reached start (draining n (taken_from m).mem).mem s) (append_assoc r (handed_from m ∷ []) I.more) I.reached;
            count-is = ap suc I.count-is;
            lines_are = ap₂ (λ (a b : List ℕ). a ++ b) (line-of-take m e) I.lines_are;
          })
      go (no i) later =
          rw (drain-refused n m i)
          (record {
            more = [];
            reached = subst (Reached start (taken_from m).mem s) (sym (append-nil r)) (after-refused-take start m s r R i);
            count-is = refl;
            lines_are = refl;
          })

  pub drained-reached : (m : List ℕ) (s : List (List ℕ)) (r : List Result) → Reached start m s r → DrainReached s r (drained_of m)
  unfolding drained_of
  drained-reached m s r R = drain-reached (untaken_of m) m s r R

-- A take that is accepted is made.
pub drains-one : (m : List ℕ) → (taken_from m).answer.refusal ≡ 0 → 1 ≤ (drained_of m).count
drains-one m e =
    let z : length (line_by (taken_from m)) ≡ 0 → ⊥ = λ q. omega (arith, q, ap length (line-handed m e), line-length (taken_from m).answer.count (taken_from m).out) in
    let c : (drained_of m).count ≡ suc (drained_of (taken_from m).mem).count = ap (λ (d : Drained). d.count) (drain-more m z).on in
    omega arith

-- ---- the loop underway
module _ (sheet line : List ℕ) (capacity : ℕ) (memory : List ℕ) (h : (started sheet line capacity memory).answer.refusal ≡ 0) where
  abbrev start : List ℕ
  start = Stated.start sheet line capacity memory h

  abbrev x : Exp
  x = formula_of sheet

  abbrev kinds : List ℕ
  kinds = Stated.kinds sheet line capacity memory h

  -- The machine stands after every list of calls.
  stands-now : (calls : List Call) → (q : Links) × Stands (made_of x) kinds capacity (memory_after_all calls start) q
  stands-now calls = machine-stands sheet line capacity memory h calls

  -- The same operators and capacity at every time, and neither 11 nor 31.
  pub same-machine : (m : List ℕ) (s : List (List ℕ)) (r : List Result) → Reached start m s r
      → (operators_of m ≡ length (made_of x).operators) × (size_in m ≡ size_of (capacity_in capacity)) × (standing m ≡ 0)
  same-machine m s r R =
      let S = (stands-now R.calls).1 in
      subst (λ (z : List ℕ). (operators_of z ≡ length (made_of x).operators) × (size_in z ≡ size_of (capacity_in capacity)) × (standing z ≡ 0)) R.memory
      (S.operators-are, ap (λ (c : ℕ). size_of (capacity_in c)) S.capacity-is, never-short sheet line capacity memory h R.calls)

  abbrev Still : List ℕ → Type 0
  Still m = (i : ℕ) → i < operators_of m → (answer_of (fire (length m) i) m).refusal ≡ number_of NotAble

  still-now : (m : List ℕ) → standing m ≡ 0 → still_at m (size_in m) (operators_of m) ≡ true → Still m
  unfolding answer_of
  still-now m st e i l =
      ap (λ (z : List ℕ). (fired z i).answer.refusal) (take-length m)
      ∙ ap (λ (o : Outcome). o.answer.refusal) (fired-idle m st i (lt-ltb i (operators_of m) l) (still-quiet m (size_in m) (operators_of m) e i l))

  -- Where nothing can fire, a set can be taken, or every set is taken and the next could be pushed.
  module _ (m : List ℕ) (s : List (List ℕ)) (r : List Result) (R : Reached start m s r) (st : still_at m (size_in m) (operators_of m) ≡ true) where
    here : standing m ≡ 0
    here = (same-machine m s r R).2

    long : need (size_of capacity) ≤ length m
    long = subst (λ (z : List ℕ). need (size_of capacity) ≤ length z) R.memory (stands-now R.calls).1.long

    still : Still (memory_after_all R.calls start)
    still = subst Still (sym R.memory) (still-now m here st)

    pushes : length r ≡ length s → (t : List ℕ) → set_ok kinds t ≡ true → (pushed m t).answer.refusal ≡ 0
    unfolding answer_of
    pushes e t w =
        let p = push-accepted-when-still sheet line capacity memory h R.calls still (ap length R.results-are ∙ e ∙ ap length (sym R.sets-are)) (length m) t long w in
        ap (λ (z : List ℕ). (pushed z t).answer.refusal) (sym (ap {B = List ℕ} (λ z. z) (take-length m)))
        ∙ rw R.memory at p

    takes : (length r ≡ length s) ⊎ ((taken_from m).answer.refusal ≡ 0)
    unfolding answer_of taken_from
    takes = go ((demand-3 sheet line capacity memory h R.calls).ready still)
      where
        go : (length (results_taken R.calls start) ≡ length (sets_pushed R.calls start))
            ⊎ ((lent : ℕ) (out : List ℕ) → need (size_of capacity) ≤ lent → 80 ≤ length out → (answer_of (take lent out) (memory_after_all R.calls start)).refusal ≡ 0)
            → (length r ≡ length s) ⊎ ((taken_from m).answer.refusal ≡ 0)
        go (inl e) = inl (ap length (sym R.results-are) ∙ e ∙ ap length R.sets-are)
        go (inr f) =
            let p = f (length m) (replicate 80 0) long (omega (arith, length-replicate {A = ℕ} 80 0)) in
            inr (ap (λ (z : List ℕ). (taken z (replicate 80 0)).answer.refusal) (sym (take-length m)) ∙ (rw R.memory at p))

  -- ---- one repetition
  module _ (all : List (List ℕ)) (n : ℕ) (rest : List (List ℕ)) (m : List ℕ) (left : ℕ) (U : (Underway sheet line capacity memory h) all n rest m) where
    abbrev f : Fed
    f = feeding rest m

    abbrev a : Outcome
    a = ran f.mem left

    abbrev d : Drained
    d = drained_of a.mem

    pub F : FeedReached start kinds rest U.sets U.results f
    F = feed-reached start kinds rest m U.sets U.results U.reached U.whole

    pub A : Reached start a.mem (U.sets ++ F.more) U.results
    A = after_run start f.mem (U.sets ++ F.more) U.results F.reached left

    pub D : DrainReached start kinds (U.sets ++ F.more) U.results d
    D = drained-reached start kinds a.mem (U.sets ++ F.more) U.results A

    pub all_here : (U.sets ++ F.more) ++ f.rest ≡ all
    all_here = append_assoc U.sets F.more f.rest ∙ ap (λ (z : List (List ℕ)). U.sets ++ z) F.all-sets ∙ U.in_order

    -- No more is taken than was pushed.
    pub few-taken : length U.results + d.count ≤ length (U.sets ++ F.more)
    few-taken =
        omega (
          arith,
          (demand-3 sheet line capacity memory h D.reached.calls).none-invented,
          ap length D.reached.results-are ∙ length-append U.results D.more,
          ap length D.reached.sets-are,
          D.count-is,
        )

    pub pushed-or-waiting : length (U.sets ++ F.more) + length f.rest ≡ length all
    pushed-or-waiting = sym (length-append (U.sets ++ F.more) f.rest) ∙ ap length all_here

    unfoldable pub underway-on : (Underway sheet line capacity memory h) all (n - d.count) f.rest d.mem
    underway-on =
        record {
          sets = U.sets ++ F.more;
          results = U.results ++ D.more;
          reached = D.reached;
          in_order = all_here;
          counts = omega (arith, U.counts, few-taken, pushed-or-waiting, length-append U.results D.more, D.count-is);
          whole = F.whole;
        }

    pub C : RunCounts f.mem left
    C = run-counts f.mem left (same-machine f.mem (U.sets ++ F.more) U.results F.reached).2

    -- A run without a firing leaves the memory as it was.
    unfired : a.answer.count ≡ 0 → a.mem ≡ f.mem
    unfired e = subst (λ (c : ℕ). Firings (size_in f.mem) (operators_of f.mem) c f.mem a.mem) e C.between

    takes_one : 0 < n → a.answer.refusal ≡ 0 → a.answer.count ≡ 0 → 1 ≤ d.count
    takes_one p e z = go (takes f.mem (U.sets ++ F.more) U.results F.reached st)
      where
        st : still_at f.mem (size_in f.mem) (operators_of f.mem) ≡ true
        st = subst (λ (y : List ℕ). still_at y (size_in f.mem) (operators_of f.mem) ≡ true) (unfired z) (C.accepted e)

        none-pushed : (ts : List (List ℕ)) → f.rest ≡ ts → EachWhole kinds ts → length U.results ≡ length (U.sets ++ F.more) → 1 ≤ d.count
        none-pushed [] q w i = absurd (omega (arith, i, U.counts, pushed-or-waiting, ap length q))
        none-pushed (t ∷ ts) q w i =
            absurd (F.stopped t ts q (pushes f.mem (U.sets ++ F.more) U.results F.reached st i t w.0))

        go : (length U.results ≡ length (U.sets ++ F.more)) ⊎ ((taken_from f.mem).answer.refusal ≡ 0) → 1 ≤ d.count
        go (inl i) = none-pushed f.rest refl F.whole i
        go (inr i) = drains-one a.mem (ap (λ (y : List ℕ). (taken_from y).answer.refusal) (unfired z) ∙ i)

    -- Sets to take and firings left, together, are fewer.
    pub less-to-do : 0 < n → a.answer.refusal ≡ 0 → n - d.count + (left - a.answer.count) < n + left
    less-to-do p e = go (ℕ_discrete a.answer.count 0)
      where
        go : Dec (a.answer.count ≡ 0) → n - d.count + (left - a.answer.count) < n + left
        go (yes z) = omega (arith, takes_one p e z, z)
        go (no z) = omega (arith, z, C.lent)

module _ (n : ℕ) (rest : List (List ℕ)) (m : List ℕ) (left : ℕ) where
  abbrev p : Pass
  p = pass_of rest m left

  -- What a repetition leaves, and that it is less.
  pub record GoesOn : Type 0 where
    pub going : Going (remaining_after n p) p.rest p.mem
    pub less : remaining_after n p + p.left < n + left

  pub goes_on : Going n rest m → 0 < n → GoesOn
  unfolding pass_of
  goes_on (over e) h = absurd (omega arith)
  goes_on (on sheet line capacity memory i all U) h = go (ℕ_discrete (ran (feeding rest m).mem left).answer.refusal 0)
    where
      go : Dec ((ran (feeding rest m).mem left).answer.refusal ≡ 0) → GoesOn
      go (yes e) =
          let k = remaining-plain rest m left n e in
          record {
            going =
                subst (λ (i : ℕ). Going i p.rest p.mem) (sym k) (on sheet line capacity memory i all (underway-on sheet line capacity memory i all n rest m left U));
            less = omega (arith, k, less-to-do sheet line capacity memory i all n rest m left U h e);
          }
      go (no e) =
          let k = remaining-refused rest m left n e in
          record { going = over k; less = omega (arith, k) }
