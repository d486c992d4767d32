-- "each taken result is that of the set last pushed under its tag" (document 02, Job 12): OutOfOrder's `own` and `in-turn`. Assumes what a start leaves (Begins).
use Rattle.std.specs.Prelude.{ℕ, zero, suc, ◌+◌, ◌≤◌, ◌<◌, ◌≡◌, Bool, ◌&&◌, List, [], ◌∷◌, ◌++◌, length, get_or, take as first_of}
use Rattle.std.proofs.Math.Path.{refl, ap}
use Rattle.std.proofs.Common.{sym, ◌∙◌, subst, append-nil, arith, length-append, length-take, get_or-append-add}
use Rattle.std.proofs.Math.Bool.{cond}
use Rattle.std.proofs.Math.Decide.{dec_lt}
use borrow.Author.Tests.{eq-eqb}
use Rattle.std.proofs.Math.Dec.{eqb}
use Rattle.formula.specs.Acceptance.{Admissible}
use Rattle.meaning.specs.Evaluate.{evaluation_of}
use Rattle.machine_calls.specs.Calls.{Handed}
use Rattle.machine_planes.specs.Planes.{most_tags, tagged_need}
use Rattle.machine_tags.specs.TagCalls.{tag_taken}
use Rattle.demand.specs.MemoryCalls.{Result, result, accepted}
use Rattle.demand.specs.Claim.{Enough, yielded}
use Rattle.demand_tags.specs.TagLists.{Call, take, answer_of, memory_after, memory_after_all, set_under, result_under, sets_under, results_under}
use Rattle.demand_tags.specs.Benched.{Benched}
use Rattle.demand_tags.proofs.Benched.{bench-stands, bench-lent}
use Rattle.demand_tags.proofs.Stepped.{Stepped, step_then}
use Rattle.demand_tags.proofs.Tested.{take_short, take-case}
use Rattle.demand_tags.specs.Tested.{TakeCase, no_room, not-whole, whole}
use Rattle.demand_tags.proofs.CallSteps.{call-steps}
use Rattle.demand_tags.specs.Begins.{Begins}
use Rattle.demand_tags.proofs.LooplessEnds.{loopless-enough}
use Rattle.demand_tags.proofs.Played.{played-own, played-reads}
use Rattle.demand_tags.proofs.UnderTags.{played-from, counted-from, stepped, benched, untaken-under}

-- A list that is not empty, by its last.
last_of : (l : List (List ℕ)) (k : ℕ) → length l ≡ suc k → (before : List (List ℕ)) × (x : List ℕ) × (l ≡ before ++ (x ∷ [])) × (get_or l k [] ≡ x)
last_of [] k e = absurd (omega arith)
last_of (x ∷ []) zero e = ([], x, refl, refl)
last_of (x ∷ []) (suc k) e = absurd (omega arith)
last_of (x ∷ y ∷ l) zero e = absurd (omega arith)
last_of (x ∷ y ∷ l) (suc k) e =
    let r = last_of (y ∷ l) k (omega arith) in
    (x ∷ r.0, r.1, ap (λ (z : List (List ℕ)). x ∷ z) r.2, r.3)

-- ---- an accepted take
module _ (sheet line : List ℕ) (ok : Admissible sheet) (m : List ℕ) (B : Benched sheet line m) (lent t : ℕ) (out : List ℕ)
    (z : (answer_of (take lent t out) m).refusal ≡ 0) where
  -- It names a tag.
  taken-tag : t < most_tags
  unfolding answer_of
  taken-tag = go (dec_lt lent tagged_need)
    where
      refused : (h : Handed) → tag_taken (first_of lent m) t out ≡ h → h.answer.refusal ≡ 0
      refused h e = ap (λ (x : Handed). x.answer.refusal) (sym e) ∙ z

      tested : TakeCase (first_of lent m) t out → t < most_tags
      tested (no_room e) = absurd (omega (arith, refused _ e))
      tested (not-whole e) = absurd (omega (arith, refused _ e))
      tested (whole room p r e) = p

      go : Dec (lent < tagged_need) → t < most_tags
      go (yes l) = absurd (omega (arith, refused _ (take_short (first_of lent m) (omega (arith, length-take lent m)) t out)))
      go (no l) = tested (take-case (first_of lent m) (bench-stands sheet line ok (first_of lent m) (bench-lent sheet line ok m B lent (omega arith))) t out)

  -- It takes one result.
  taken-one : (r : Result) × (result_under t (take lent t out) m ≡ r ∷ [])
  unfolding result_under answer_of accepted
  taken-one =
      let h = tag_taken (first_of lent m) t out in (
        result h.answer.count (first_of 80 h.out),
        ap (λ (b : Bool). cond b (result h.answer.count (first_of 80 h.out) ∷ []) [])
            (ap (λ (b : Bool). b && eqb t t) (eq-eqb h.answer.refusal 0 z) ∙ eq-eqb t t refl),
      )

  taken-no-set : set_under t (take lent t out) m ≡ []
  unfolding set_under
  taken-no-set = refl

-- ---- behind a list of calls
module _ (sheet line start : List ℕ) (b : Begins sheet line start) (calls : List Call) where
  abbrev now : List ℕ
  now = memory_after_all calls start

  abbrev sets : ℕ → List (List ℕ)
  sets t = sets_under t calls start

  abbrev results : ℕ → List Result
  results t = results_under t calls start

  pub in-turn : (t : ℕ) → t < most_tags → (length (results t) ≤ length (sets t)) × (length (sets t) ≤ length (results t) + 1)
  in-turn t h =
      let c = untaken-under sheet line start b calls t h in
      let small = (benched sheet line start b calls).bytes t h in
      (omega arith, omega arith)

  module _ (lent t : ℕ) (out : List ℕ) (z : (answer_of (take lent t out) now).refusal ≡ 0) where
    abbrev call : Call
    call = take lent t out

    tag : t < most_tags
    tag = taken-tag sheet line b.admissible now (benched sheet line start b calls) lent t out z

    -- the list and the take behind it
    further : Stepped start (memory_after call now) (λ u. sets u ++ set_under u call now) (λ u. results u ++ result_under u call now)
    further =
        step_then start now (memory_after call now) sets (λ u. set_under u call now) results (λ u. result_under u call now) (stepped sheet line start b calls)
        (call-steps sheet line b.admissible now (benched sheet line start b calls) call).0

    one : (r : Result) × (result_under t call now ≡ r ∷ [])
    one = taken-one sheet line b.admissible now (benched sheet line start b calls) lent t out z

    same-sets : sets t ++ set_under t call now ≡ sets t
    same-sets = ap (λ (s : List (List ℕ)). sets t ++ s) (taken-no-set sheet line b.admissible now (benched sheet line start b calls) lent t out z) ∙ append-nil (sets t)

    one_more : length (results t ++ result_under t call now) ≡ suc (length (results t))
    one_more =
        let n : length (result_under t call now) ≡ 1 = ap length one.1 in
        omega (arith, length-append (results t) (result_under t call now))

    -- one set is untaken
    untaken-one : length (sets t) ≡ suc (length (results t))
    untaken-one =
        let c = counted-from sheet line start b (memory_after call now) (λ u. sets u ++ set_under u call now) (λ u. results u ++ result_under u call now) further t tag in
        omega (arith, c, one_more, ap length same-sets, (in-turn t tag).1)

    last-result : get_or (results t ++ result_under t call now) (length (results t)) (result 0 []) ≡ one.0
    last-result =
        let e : length (results t) ≡ length (results t) + 0 = omega arith in
        ap (λ (k : ℕ). get_or (results t ++ result_under t call now) k (result 0 [])) e
        ∙ get_or-append-add (results t) (result_under t call now) 0 (result 0 [])
        ∙ ap (λ (x : List Result). get_or x 0 (result 0 [])) one.1

    pub own : (before : List (List ℕ)) × (set : List ℕ) × (sets t ≡ before ++ (set ∷ []))
        × ((rounds : ℕ) → Enough sheet line set rounds × (result_under t call now ≡ yielded (evaluation_of sheet line set rounds) ∷ []))
    own =
        let l = last_of (sets t) (length (results t)) untaken-one in
        let at : get_or (sets t ++ set_under t call now) (length (results t)) [] ≡ l.1 = ap (λ (s : List (List ℕ)). get_or s (length (results t)) []) same-sets ∙ l.3 in
        let p = b.planes t tag in
        let P = played-from sheet line start b (memory_after call now) (λ u. sets u ++ set_under u call now) (λ u. results u ++ result_under u call now) further t tag in
        let v = played-reads sheet line p.0 p.1 _ _ _ P (length (results t)) (omega (arith, untaken-one, ap length same-sets)) in
        let enough : (rounds : ℕ) → Enough sheet line l.1 rounds
        = subst (λ (s : List ℕ). (rounds : ℕ) → Enough sheet line s rounds) at (loopless-enough sheet line b.admissible b.kinded b.loopless _ v.0 v.1) in
        let says : (rounds : ℕ) → one.0 ≡ yielded (evaluation_of sheet line l.1 rounds)
        = λ rounds. sym last-result
        ∙ played-own sheet line p.0 p.1 _ _ _ P (length (results t)) (omega (arith, one_more)) rounds (subst (λ (s : List ℕ). Enough sheet line s rounds) (sym at) (enough rounds))
        ∙ ap (λ (s : List ℕ). yielded (evaluation_of sheet line s rounds)) at in
        (l.0, l.1, l.2, λ rounds. (enough rounds, one.1 ∙ ap (λ (r : Result). r ∷ []) (says rounds)))
