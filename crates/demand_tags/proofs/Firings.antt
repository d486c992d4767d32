-- A firing under a tag is a step (Stepped) and is by Brock's rule on the tokens of its tag (OutOfOrder `FiresUnder`); a run is as many of them as it counts. Assumes an
-- accepted sheet and a benched memory.
use Rattle.std.specs.Prelude.{ℕ, ◌≤◌, ◌<◌, ◌≡◌, refl, true, List, [], ◌∷◌, ◌++◌, length}
use Rattle.std.proofs.Common.{sym, ap, subst, ◌∙◌, arith}
use Rattle.formula.specs.Tree.{formula_of}
use Rattle.formula.specs.Faults.{letters_of}
use Rattle.formula.specs.Acceptance.{Admissible}
use Rattle.graph.specs.Translation.{made_of}
use Rattle.machine_layout.specs.Layout.{operators_of, operator_count_at, links_at}
use Rattle.machine_calls.specs.Calls.{Outcome}
use Rattle.machine_planes.specs.Planes.{most_tags, tagged_need, plane_of}
use Rattle.machine_planes.proofs.PlaneBytes.{plane-operators}
use Rattle.machine_planes.proofs.PlaneFirings.{plane-able, plane-fired}
use Rattle.machine_tags.specs.TagRun.{able_under, fired_under, tag_runs}
use Rattle.machine_tags.specs.TagCalls.{tag_standing}
use Rattle.machine_tags.specs.RunSteps.{TagFiring, tag_firings, fired_all, FiringsAccepted}
use Rattle.machine_tags.proofs.RunSteps.{run-steps}
use Rattle.machine_tags.proofs.PlaneFire.{plane-fire, fired-tag-bytes, beside-fire}
use Rattle.machine_tags.proofs.Changes.{fire-changes}
use Rattle.demand_view.proofs.Operators.{ith-there}
use Rattle.demand_view.specs.FiredHistory.{Fires-in-memory}
use Rattle.demand_view.proofs.FiredHistory.{fired-by-history}
use Rattle.demand_begin.proofs.MadeSound.{made-sound}
use Rattle.demand_begin.proofs.Lent.{agree-number}
use Rattle.demand_tags.specs.OutOfOrder.{FiresUnder, FiringsUnder}
use Rattle.demand_tags.specs.Plays.{Plays}
use Rattle.demand_tags.proofs.Plays.{plays-fire}
use Rattle.demand_tags.proofs.LentPlanes.{plane-behind}
use Rattle.demand_tags.specs.Benched.{Benched}
use Rattle.demand_tags.proofs.Benched.{few-operators, bench-stands}
use Rattle.demand_tags.proofs.Stepped.{Stepped, step-none, step_then, changed-step, bench-stepped}
use Rattle.demand_tags.specs.Stepped.{no-sets, no-results}

module _ (sheet line : List ℕ) (ok : Admissible sheet) where
  -- ---- one firing
  module _ (m : List ℕ) (B : Benched sheet line m) (i : ℕ) (few : i < operators_of m) (t : ℕ) (tag : t < most_tags) (able : able_under m i t ≡ true) where
    st : tag_standing m ≡ 0
    st = bench-stands sheet line ok m B

    pub fired-step : Stepped m (fired_under m i t) no-sets no-results
    fired-step =
        changed-step m (fired_under m i t) t (fire-changes m st t tag i few (B.registers i few)) no-sets no-results (λ u n. refl) (λ u n. refl) (omega (arith, fired-tag-bytes m st i few t tag t))
        (subst (λ (x : List ℕ). Plays (plane_of m t) x [] []) (ap (λ (o : Outcome). o.mem) (plane-fire m st i few t tag able)) (plays-fire (plane_of m t) i))

    pub fired-by-rule : FiresUnder sheet line m i t (fired_under m i t)
    fired-by-rule =
        let g = made_of (formula_of sheet) in
        let s = B.planes t tag in
        let there = few-operators sheet line ok m B in
        let n : operators_of (plane_of m t) ≡ operators_of m = plane-operators m t B.long tag in
        let w = ith-there g.operators i (omega (arith, s.1.operators-are)) in
        let f =
        fired-by-history g (made-sound sheet ok) (letters_of (formula_of sheet) line) 1 (plane_of m t) s.0 s.1 i w.0 w.1 (omega arith)
        (sym (plane-able m t B.long tag i (omega arith)) ∙ able) in (
          s.0,
          s.1,
          w.0,
          w.1,
          subst (Fires-in-memory g (letters_of (formula_of sheet) line) 1 (plane_of m t) s.0 i w.0) (sym (plane-fired m t B.long tag i (omega arith))) f,
          beside-fire m st i few t tag (B.registers i few),
        )

  -- in a memory with more behind it
  pub fires-behind : (m n rest : List ℕ) (i t : ℕ) → t < most_tags → tagged_need ≤ length m → tagged_need ≤ length n
      → FiresUnder sheet line m i t n → FiresUnder sheet line (m ++ rest) i t (n ++ rest)
  fires-behind m n rest i t tag long long' (q, H, o, at, f, others) = (
    q,
    rw (plane-behind m rest long t tag) H,
    o,
    at,
    rw (plane-behind m rest long t tag, plane-behind n rest long' t tag) f,
    λ u h d. plane-behind n rest long' u h ∙ others u h d ∙ sym (plane-behind m rest long u h),
  )

  -- ---- a run
  -- Firings one after another, in a memory with more behind it.
  list-fires : (rest : List ℕ) (fs : List TagFiring) (m : List ℕ) → Benched sheet line m → (n : ℕ) → n ≡ operators_of m → FiringsAccepted n m fs
      → FiringsUnder sheet line (length fs) (m ++ rest) (fired_all m fs ++ rest) × Stepped m (fired_all m fs) no-sets no-results
  list-fires rest [] m B n e a = (refl, step-none m)
  list-fires rest (f ∷ fs) m B n e (first, later) =
      let i = f.operator in
      let t = f.tag in
      let next = fired_under m i t in
      let few : i < operators_of m = omega (arith, first.there) in
      let S = fired-step m B i few t first.tagged first.able in
      let B' = bench-stepped sheet line ok m next no-sets no-results B S in
      let same : operators_of next ≡ operators_of m = agree-number links_at m next S.low operator_count_at (omega arith) in
      let r = list-fires rest fs next B' n (omega arith) later in (
        (i, t, next ++ rest, first.tagged, fires-behind m next rest i t first.tagged B.long B'.long (fired-by-rule m B i few t first.tagged first.able), r.0),
        step_then m next (fired_all next fs) no-sets no-sets no-results no-results S r.1,
      )

  -- A run makes as many firings as it counts.
  pub run-fires : (rest : List ℕ) (b : ℕ) (m : List ℕ) → Benched sheet line m
      → FiringsUnder sheet line (tag_runs (operators_of m) b m 0).count (m ++ rest) ((tag_runs (operators_of m) b m 0).mem ++ rest)
      × Stepped m (tag_runs (operators_of m) b m 0).mem no-sets no-results
  run-fires rest b m B =
      let s = run-steps (operators_of m) b m 0 in
      let count : (tag_runs (operators_of m) b m 0).count ≡ length (tag_firings (operators_of m) b m) = omega (arith, s.count) in
      rw (count, ← s.memory) (list-fires rest (tag_firings (operators_of m) b m) m B (operators_of m) refl s.accepted)
