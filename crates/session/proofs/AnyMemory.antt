-- What the program prints does not depend on what was in the memory that it lends to start: two memories in which one machine stands with the same tokens on its
-- links answer every call alike (demand_view/specs/Stands), and stand so again after it. Assumes an accepted sheet, a capacity of 1 to 16 and sets that pass 12.
use Prim.Native.Nat.{ℕ, zero, suc, ◌+◌, ◌-◌, ◌≤◌}
use Rattle.std.specs.Prelude.{◌≡◌, Bool, true, false, eqb, length, replicate}
use Rattle.std.proofs.Math.Path.{refl, sym, ap, ap₂}
use Rattle.std.proofs.Common.{subst, ◌∙◌, arith}
use Rattle.std.proofs.lemmas.Bool.{false≢true}
use mathlib.Core.List.{List, [], ◌∷◌, ◌++◌}
use Rattle.std.proofs.Math.Decide.{ℕ_discrete}
use Rattle.std.proofs.lemmas.List.{length-replicate}
use Rattle.value.specs.Operators.{pick}
use Rattle.formula.specs.Tree.{Exp}
use Rattle.network.specs.Net.{Links, Able, act}
use Rattle.graph.specs.Translation.{made_of}
use Rattle.machine_layout.specs.Layout.{operators_of, untaken_of, size_of}
use Rattle.machine_runs.specs.Run.{Ran, runs, still_at}
use Rattle.machine_calls.specs.Calls.{Outcome, Handed, refusal, size_in, standing, pushed, ran, taken}
use Rattle.value_sets.specs.Sets.{set_ok}
use Rattle.value_sets.proofs.Sets.{set_values_lem}
use Rattle.theory_verdicts.specs.Running.{places, dec_able, after_steps, run_steps}
use Rattle.demand_view.specs.Sound.{Sound}
use Rattle.demand_view.specs.Stands.{Stands}
use Rattle.demand_view.proofs.Run.{run-same, still-cannot, cannot-still}
use Rattle.demand_ends.proofs.Take.{take_from, stands-taken, take-accepted, take-refused}
use Rattle.demand_view.proofs.FireCall.{stands-size}
use Rattle.demand_begin.proofs.StandsValid.{stands-well}
use Rattle.refusals.proofs.RunCount.{run_is}
use Rattle.demand.specs.Pushes.{after_push}
use Rattle.demand.proofs.Pushes.{push-answered}
use Rattle.session.specs.Passes.{Fed, feeding, taken_from, line_by, Drained, draining, drained_of, Pass, pass_of, part_of, remaining_after, passes}
use Rattle.session.proofs.PassLaws.{drain-zero, drain-handed, drain-refused}
use Rattle.session.proofs.FeedLaws.{feed-none, feed-accepted, feed-refused}
use Rattle.session.specs.WholeSets.{EachWhole}

module _ (x : Exp) (S : Sound (made_of x)) (kinds : List ℕ) (capacity : ℕ) (low : 1 ≤ capacity) (high : capacity ≤ 16) where
  abbrev Standing : List ℕ → Links → Type 0
  Standing m q = Stands (made_of x) kinds capacity m q

  -- Two memories with one machine and the same tokens.
  pub record Alike (m m' : List ℕ) : Type 0 where
    pub links : Links
    pub first : Standing m links
    pub second : Standing m' links

  -- ---- push
  module _ (set : List ℕ) (w : set_ok kinds set ≡ true) (m m' : List ℕ) (A : Alike m m') where
    pub pushes-alike : ((pushed m set).answer.refusal ≡ (pushed m' set).answer.refusal) × Alike (pushed m set).mem (pushed m' set).mem
    pushes-alike =
        let v = set_values_lem kinds set w in
        let count : length kinds ≡ (made_of x).inputs = A.first.kinds-count in
        let a = push-answered x S kinds capacity low high count set v.0 v.1 m A.links A.first in
        let b = push-answered x S kinds capacity low high count set v.0 v.1 m' A.links A.second in
        (a.answer ∙ sym b.answer, record { links = after_push x capacity v.0 A.links; first = a.stands; second = b.stands })

  -- ---- run
  abbrev size : ℕ
  size = size_of capacity

  abbrev count : ℕ
  count = length (made_of x).operators

  -- Whether anything can fire is said by the links.
  still_alike : (m m' : List ℕ) (q : Links) → Standing m q → Standing m' q → still_at m size count ≡ still_at m' size count
  still_alike m m' q H H' = go (still_at m size count) refl (still_at m' size count) refl
    where
      go : (a : Bool) → still_at m size count ≡ a → (b : Bool) → still_at m' size count ≡ b → a ≡ b
      go true e true f = refl
      go false e false f = refl
      go true e false f = absurd (false≢true (sym f ∙ cannot-still x S kinds capacity low m' q H' (still-cannot x S kinds capacity low m q H e)))
      go false e true f = absurd (false≢true (sym e ∙ cannot-still x S kinds capacity low m q H (still-cannot x S kinds capacity low m' q H' f)))

  -- What a run answers, by its links.
  record RanOn (m : List ℕ) (firings : ℕ) (q : Links) : Type 0 where
    made : (ran m firings).answer.count ≡ length (run_steps x capacity firings q)
    stands : Standing (ran m firings).mem (after_steps x (run_steps x capacity firings q) q)
    says : (ran m firings).answer.refusal ≡ pick (still_at (ran m firings).mem size count) 0 36

  ran_on : (m : List ℕ) (firings : ℕ) (q : Links) → Standing m q → RanOn m firings q
  ran_on m firings q H =
      let st = stands-well (made_of x) S kinds capacity low high m q H in
      let z = stands-size (made_of x) S kinds capacity low high m q H in
      let n : operators_of m ≡ count = H.operators-are in
      let i = run_is m firings st (still_at (runs (size_in m) (operators_of m) firings m 0).mem (size_in m) (operators_of m)) refl in
      let r : runs (size_in m) (operators_of m) firings m 0 ≡ runs size count firings m 0 = rw (z, n) refl in
      let s = run-same x S kinds capacity low firings m q H in
      record {
        made = i.0 ∙ ap (λ (t : Ran). t.count) r ∙ s.1;
        stands = subst (λ (t : List ℕ). Standing t (after_steps x (run_steps x capacity firings q) q)) (sym (i.1 ∙ ap (λ (t : Ran). t.mem) r)) s.0;
        says = i.2 ∙ ap (λ (t : List ℕ). pick (still_at t (size_in m) (operators_of m)) 0 36) (sym i.1) ∙ rw (z, n) refl;
      }

  pub record RunsAlike (a b : Outcome) : Type 0 where
    pub same_count : a.answer.count ≡ b.answer.count
    pub same-refusal : a.answer.refusal ≡ b.answer.refusal
    pub alike : Alike a.mem b.mem

  pub runs-alike : (firings : ℕ) (m m' : List ℕ) → Alike m m' → RunsAlike (ran m firings) (ran m' firings)
  runs-alike firings m m' A =
      let a = ran_on m firings A.links A.first in
      let b = ran_on m' firings A.links A.second in
      let q = after_steps x (run_steps x capacity firings A.links) A.links in
      record {
        same_count = a.made ∙ sym b.made;
        same-refusal =
            a.says ∙ ap (λ (t : Bool). pick t 0 36) (still_alike (ran m firings).mem (ran m' firings).mem q a.stands b.stands) ∙ sym b.says;
        alike = record { links = q; first = a.stands; second = b.stands };
      }

  -- ---- take
  pub record TakesAlike (a b : Handed) : Type 0 where
    pub same_answer : a.answer ≡ b.answer
    pub same_out : a.out ≡ b.out
    pub alike : Alike a.mem b.mem

  abbrev room : 80 ≤ length (replicate {A = ℕ} 80 0)
  room = omega (arith, length-replicate {A = ℕ} 80 0)

  pub takes-alike : (m m' : List ℕ) → Alike m m' → TakesAlike (taken_from m) (taken_from m')
  unfolding taken_from
  takes-alike m m' A = go (dec_able (places capacity) (take_from (made_of x)) A.links)
    where
      st : standing m ≡ 0
      st = stands-well (made_of x) S kinds capacity low high m A.links A.first

      st' : standing m' ≡ 0
      st' = stands-well (made_of x) S kinds capacity low high m' A.links A.second

      go : Dec (Able (places capacity) (take_from (made_of x)) A.links) → TakesAlike (taken m (replicate 80 0)) (taken m' (replicate 80 0))
      go (yes a) =
          let e = take-accepted (made_of x) S kinds capacity low high m A.links A.first st (replicate 80 0) room a in
          let f = take-accepted (made_of x) S kinds capacity low high m' A.links A.second st' (replicate 80 0) room a in
          rw (e, f)
          (record {
            same_answer = refl;
            same_out = refl;
            alike = record {
              links = act (take_from (made_of x)) A.links;
              first = stands-taken (made_of x) S kinds capacity low high m A.links A.first a;
              second = stands-taken (made_of x) S kinds capacity low high m' A.links A.second a;
            };
          })
      go (no n) =
          let e = take-refused (made_of x) S kinds capacity low high m A.links A.first st (replicate 80 0) room n in
          let f = take-refused (made_of x) S kinds capacity low high m' A.links A.second st' (replicate 80 0) room n in
          rw (e, f) (record { same_answer = refl; same_out = refl; alike = A })

  pub lines-alike : (a b : Handed) → TakesAlike a b → line_by a ≡ line_by b
  unfolding line_by
  lines-alike a b T = rw (T.same_answer, T.same_out) refl

  -- ---- a feed, a drain, a repetition
  pub record FeedsAlike (f g : Fed) : Type 0 where
    pub same_rest : f.rest ≡ g.rest
    pub whole : EachWhole kinds f.rest
    pub alike : Alike f.mem g.mem

  pub feeds-alike : (ss : List (List ℕ)) → EachWhole kinds ss → (m m' : List ℕ) → Alike m m' → FeedsAlike (feeding ss m) (feeding ss m')
  feeds-alike [] w m m' A = rw (feed-none m, feed-none m') (record { same_rest = refl; whole = tt; alike = A })
  feeds-alike (s ∷ ss) w m m' A =
      go (ℕ_discrete (pushed m s).answer.refusal 0) (pushes-alike s w.0 m m' A) (λ B. feeds-alike ss w.1 (pushed m s).mem (pushed m' s).mem B)
    where
      go : Dec ((pushed m s).answer.refusal ≡ 0) → ((pushed m s).answer.refusal ≡ (pushed m' s).answer.refusal) × Alike (pushed m s).mem (pushed m' s).mem
          → (Alike (pushed m s).mem (pushed m' s).mem → FeedsAlike (feeding ss (pushed m s).mem) (feeding ss (pushed m' s).mem))
          → FeedsAlike (feeding (s ∷ ss) m) (feeding (s ∷ ss) m')
      go (yes e) p later = rw (feed-accepted s ss m e, feed-accepted s ss m' (sym p.0 ∙ e)) (later p.1)
      go (no n) p later =
          rw (feed-refused s ss m n, feed-refused s ss m' (λ e. n (p.0 ∙ e))) (record { same_rest = refl; whole = w; alike = p.1 })

  pub record DrainsAlike (d e : Drained) : Type 0 where
    pub same_lines : d.lines ≡ e.lines
    pub same_count : d.count ≡ e.count
    pub alike : Alike d.mem e.mem

  drain-alike : (n : ℕ) (m m' : List ℕ) → Alike m m' → DrainsAlike (draining n m) (draining n m')
  drain-alike zero m m' A = rw (drain-zero m, drain-zero m') (record { same_lines = refl; same_count = refl; alike = A })
  drain-alike (suc n) m m' A =
      go (takes-alike m m' A) (ℕ_discrete (taken_from m).answer.refusal 0) (λ B. drain-alike n (taken_from m).mem (taken_from m').mem B)
    where
      go : TakesAlike (taken_from m) (taken_from m') → Dec ((taken_from m).answer.refusal ≡ 0)
          → (Alike (taken_from m).mem (taken_from m').mem → DrainsAlike (draining n (taken_from m).mem) (draining n (taken_from m').mem))
          → DrainsAlike (draining (suc n) m) (draining (suc n) m')
      go T (yes e) later =
          let z : (taken_from m').answer.refusal ≡ 0 = ap (λ a. a.refusal) (sym T.same_answer) ∙ e in
          let D = later T.alike in
          rw (drain-handed n m e, drain-handed n m' z)
          (record {
            same_lines = ap₂ (λ (a b : List ℕ). a ++ b) (lines-alike (taken_from m) (taken_from m') T) D.same_lines;
            same_count = ap suc D.same_count;
            alike = D.alike;
          })
      go T (no i) later =
          let z : (taken_from m').answer.refusal ≡ 0 → ⊥ = λ e. i (ap (λ a. a.refusal) T.same_answer ∙ e) in
          rw (drain-refused n m i, drain-refused n m' z) (record { same_lines = refl; same_count = refl; alike = T.alike })

  drains-alike : (m m' : List ℕ) → Alike m m' → DrainsAlike (drained_of m) (drained_of m')
  unfolding drained_of
  drains-alike m m' A =
      let n : untaken_of m' ≡ untaken_of m = A.second.untaken-is ∙ sym A.first.untaken-is in
      rw n (drain-alike (untaken_of m) m m' A)

  pub record PassesAlike (p r : Pass) : Type 0 where
    pub same-part : part_of p ≡ part_of r
    pub same-remaining : (n : ℕ) → remaining_after n p ≡ remaining_after n r
    pub same_left : p.left ≡ r.left
    pub same_rest : p.rest ≡ r.rest
    pub whole : EachWhole kinds p.rest
    pub alike : Alike p.mem r.mem

  pass-alike : (rest : List (List ℕ)) → EachWhole kinds rest → (m m' : List ℕ) (left : ℕ) → Alike m m'
      → PassesAlike (pass_of rest m left) (pass_of rest m' left)
  unfolding pass_of part_of remaining_after
  pass-alike rest w m m' left A =
      let F = feeds-alike rest w m m' A in
      let R = runs-alike left (feeding rest m).mem (feeding rest m').mem F.alike in
      let D = drains-alike (ran (feeding rest m).mem left).mem (ran (feeding rest m').mem left).mem R.alike in
      record {
        same-part = rw (D.same_lines, R.same-refusal) refl;
        same-remaining = λ n. rw (D.same_count, R.same-refusal) refl;
        same_left = ap (λ (c : ℕ). left - c) R.same_count;
        same_rest = F.same_rest;
        whole = F.whole;
        alike = D.alike;
      }

  -- ---- the loop
  pub same-passes : (f n : ℕ) (rest : List (List ℕ)) → EachWhole kinds rest → (m m' : List ℕ) (left : ℕ) → Alike m m'
      → passes f n rest m left ≡ passes f n rest m' left
  unfolding passes
  same-passes zero n rest w m m' left A = refl
  same-passes (suc f) n rest w m m' left A =
      let P = pass-alike rest w m m' left A in
      let p = pass_of rest m left in
      let r = pass_of rest m' left in
      ap₂ (λ (a b : List ℕ). pick (eqb n 0) [] (a ++ b)) P.same-part
      (same-passes f (remaining_after n p) p.rest P.whole p.mem r.mem p.left P.alike
      ∙ rw (P.same-remaining n, P.same_left, P.same_rest) refl)
