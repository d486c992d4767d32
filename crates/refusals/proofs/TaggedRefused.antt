-- Laws of specs/TaggedRefused.antt, and what only they need.
use Rattle.std.specs.Prelude.{ℕ, ◌≡◌, refl, Bool, true, false, not, ◌&&◌, ◌⊎◌, ◌≢◌, List, [], ◌∷◌, ◌++◌, ltb, eqb, length, Ok, Err}
use Rattle.std.proofs.Common.{sym, ap, ◌∙◌, subst, inl, inr, arith, ltb-true, ltb-false, ne_eqb}
use Rattle.std.proofs.Math.Decide.{ℕ_discrete}
use Rattle.value.specs.Operators.{pick}
use Rattle.formula.specs.declared.Refusal.TheVariants.{Memory, Set, Altered, NoTag, NoTagResult, Loop}
use Rattle.formula.specs.Results.{Verdict}
use Rattle.formula.specs.Refusals.{number_of}
use Rattle.formula.proofs.Refusals.{number-positive}
use Rattle.formula.specs.Tree.{Exp, formula_of}
use Rattle.formula.specs.Faults.{letters_of}
use Rattle.formula.specs.Tests.{verdict_of}
use Rattle.value_sets.specs.Sets.{set_ok}
use Rattle.machine_layout.specs.Layout.{operators_of, results_of, stored_kinds, least_size}
use Rattle.machine_valid.specs.Below.{all_below, below_all, below-fail}
use Rattle.machine_runs.specs.Run.{Ran}
use Rattle.machine_calls.specs.Calls.{Outcome, outcome, answers, refusal, written_from}
use Rattle.machine_tray.specs.OneByOne.{either}
use Rattle.machine_start.specs.Start.{begun, refusal as startRefusal}
use Rattle.machine_planes.specs.Planes.{most_tags, plane_at}
use Rattle.machine_tags.specs.Least.{Least, least}
use Rattle.machine_tags.proofs.Least.{least-says}
use Rattle.machine_tags.specs.TagRun.{able_under, fired_under, tag_runs, tag_still}
use Rattle.machine_tags.specs.TagValid.{tag_valid}
use Rattle.machine_tags.specs.TagCalls.{tag_standing, free_tag, lowest_free, tag_pushed_memory, tag_pushed, tag_fired, tag_ended, tag_ran, whole_result, tag_taken_memory, tag_taken}
use Rattle.machine_tag_start.specs.TagStart.{has_for, tag_by_verdict, tag_started}
use Rattle.refusals.specs.FirstRefusal.{Row, first-refusal}
use Rattle.refusals.specs.Conditions.{no_room, no-set, tagged-short, tagged-altered, no-tag-free, tagged_push_table, tagged_fire_table, tagged_run_table, tagged_take_table, sheet_table, tagged_start_table}
use Rattle.refusals.specs.Exact.{number_in}
use Rattle.refusals.proofs.Exact.{behind-none, behind-some, sheet-exact, fire-order, run-order, take-order}
use Rattle.refusals.specs.Rows.{VerdictRow}
use Rattle.refusals.proofs.Rows.{verdict-row}
use Rattle.refusals.specs.Kept.{StartKeeps, Keeps, KeepsBoth}
use Rattle.refusals.proofs.Kept.{keeps-refused, keeps-accepted, both-refused}
use Rattle.refusals.specs.TagRunCount.{TagFirings}
use Rattle.refusals.proofs.TagRunCount.{tag-run-is, tag-run-counts}
use Rattle.refusals.specs.TaggedRefused.{UsedUpTagged}

-- ---- push
-- No tag is free exactly where there is no lowest free one.
no-lowest : (m : List ℕ) → no-tag-free m ≡ not (ltb (lowest_free m) most_tags)
unfolding lowest_free
no-lowest m = go (ltb (least (free_tag m) most_tags) most_tags) refl
  where
    s : Least (free_tag m) most_tags (least (free_tag m) most_tags)
    s = least-says (free_tag m) most_tags

    go : (b : Bool) → ltb (least (free_tag m) most_tags) most_tags ≡ b → all_below most_tags (λ t. not (free_tag m t)) ≡ not b
    go true e =
        let l = ltb-true (least (free_tag m) most_tags) most_tags e in
        below-fail most_tags (λ t. not (free_tag m t)) (least (free_tag m) most_tags) l (rw (s.passes l) refl)
    go false e =
        let l = ltb-false (least (free_tag m) most_tags) most_tags e in
        below_all most_tags (λ t. not (free_tag m t)) (λ t h. rw (s.none t (omega arith)) refl)

tagged-push-order : (s v i f : Bool) (m m' : List ℕ) (t : ℕ) → (pick (eqb (pick s 11 (pick v 0 31)) 0)
    (pick i (pick f (outcome (answers 0 t) m') (outcome (refusal NoTag) m)) (outcome (refusal Set) m))
    (outcome (answers (pick s 11 (pick v 0 31)) 0) m)).answer.refusal
    ≡ first-refusal ((s, Memory) ∷ (not v, Altered) ∷ (not i, Set) ∷ (not f, NoTag) ∷ [])
unfolding first-refusal
tagged-push-order true v i f m m' t = refl
tagged-push-order false false i f m m' t = refl
tagged-push-order false true false f m m' t = refl
tagged-push-order false true true false m m' t = refl
tagged-push-order false true true true m m' t = refl

-- 11, 31, 12, 37
pub tagged-push-exact : (m set : List ℕ) → (tag_pushed m set).answer.refusal ≡ first-refusal (tagged_push_table m set)
unfolding tag_pushed tag_standing
tagged-push-exact m set =
    tagged-push-order (tagged-short m) (tag_valid m) (set_ok (stored_kinds m) set) (ltb (lowest_free m) most_tags) m (tag_pushed_memory m set (lowest_free m)) (lowest_free m)
    ∙ ap (λ (b : Bool). first-refusal ((tagged-short m, Memory) ∷ (tagged-altered m, Altered) ∷ (no-set m set, Set) ∷ (b, NoTag) ∷ [])) (sym (no-lowest m))

pub tagged-push-keeps : (m set : List ℕ) → (tag_pushed m set).answer.refusal ≢ 0 → ((tag_pushed m set).answer.count ≡ 0) × ((tag_pushed m set).mem ≡ m)
unfolding tag_pushed
tagged-push-keeps m set =
    either (Keeps m) (eqb (tag_standing m) 0) _ _
    (either (Keeps m) (set_ok (stored_kinds m) set) _ _
    (either (Keeps m) (ltb (lowest_free m) most_tags) _ _ (keeps-accepted m (tag_pushed_memory m set (lowest_free m)) (lowest_free m)) (keeps-refused m 37))
    (keeps-refused m 12))
    (keeps-refused m (tag_standing m))

-- ---- fire
-- 11, 31, 34
pub tagged-fire-exact : (m : List ℕ) (i t : ℕ) → (tag_fired m i t).answer.refusal ≡ first-refusal (tagged_fire_table m i t)
unfolding tag_fired tag_standing
tagged-fire-exact m i t = fire-order (tagged-short m) (tag_valid m) (ltb i (operators_of m) && (ltb t most_tags && able_under m i t)) m (fired_under m i t)

pub tagged-fire-keeps : (m : List ℕ) (i t : ℕ) → (tag_fired m i t).answer.refusal ≢ 0 → ((tag_fired m i t).answer.count ≡ 0) × ((tag_fired m i t).mem ≡ m)
unfolding tag_fired
tagged-fire-keeps m i t =
    either (Keeps m) (eqb (tag_standing m) 0) _ _
    (either (Keeps m) (ltb i (operators_of m) && (ltb t most_tags && able_under m i t)) _ _ (keeps-accepted m (fired_under m i t) 0) (keeps-refused m 34))
    (keeps-refused m (tag_standing m))

-- ---- run
-- 11, 31, 36
pub tagged-run-exact : (m : List ℕ) (firings : ℕ) → (tag_ran m firings).answer.refusal ≡ first-refusal (tagged_run_table m firings)
unfolding tag_ran tag_standing tag_ended
tagged-run-exact m firings =
    let r : Ran = tag_runs (operators_of m) firings m 0 in
    run-order (tagged-short m) (tag_valid m) (tag_still r.mem (operators_of m)) m r.mem r.count

tagged-run-refused : (m : List ℕ) (firings : ℕ) → tag_standing m ≢ 0 → tag_ran m firings ≡ outcome (answers (tag_standing m) 0) m
unfolding tag_ran
tagged-run-refused m firings n = simp (ne_eqb (tag_standing m) 0 n)

-- 11 and 31 leave the memory.
pub tagged-run-keeps : (m : List ℕ) (firings : ℕ) → (tag_ran m firings).answer.refusal ≢ 0
    → (((tag_ran m firings).answer.count ≡ 0) × ((tag_ran m firings).mem ≡ m)) ⊎ UsedUpTagged m firings
tagged-run-keeps m firings h = go (ℕ_discrete (tag_standing m) 0)
  where
    go : Dec (tag_standing m ≡ 0) → (((tag_ran m firings).answer.count ≡ 0) × ((tag_ran m firings).mem ≡ m)) ⊎ UsedUpTagged m firings
    go (yes st) = used (tag_still (tag_runs (operators_of m) firings m 0).mem (operators_of m)) refl
      where
        used : (b : Bool) → tag_still (tag_runs (operators_of m) firings m 0).mem (operators_of m) ≡ b
            → (((tag_ran m firings).answer.count ≡ 0) × ((tag_ran m firings).mem ≡ m)) ⊎ UsedUpTagged m firings
        used true e = absurd (h (tag-run-is m firings st true e).2)
        used false e =
            let r = (tag-run-is m firings st false e).2 in
            let C = tag-run-counts m firings st in
            let full = (C.unfinished r).0 in
            inr (r, full, subst (λ (k : ℕ). TagFirings (operators_of m) k m (tag_ran m firings).mem) full C.between)
    go (no n) = let e = tagged-run-refused m firings n in inl (ap (λ (o : Outcome). o.answer.count) e, ap (λ (o : Outcome). o.mem) e)

-- ---- take
-- 11, 31, 38
pub tagged-take-exact : (m : List ℕ) (t : ℕ) (out : List ℕ) → (tag_taken m t out).answer.refusal ≡ first-refusal (tagged_take_table m t out)
unfolding tag_taken tag_standing
tagged-take-exact m t out =
    take-order NoTagResult (no_room out) (tagged-short m) (tag_valid m) (ltb t most_tags && whole_result m t) m (tag_taken_memory m t) out
    (written_from 16 m (plane_at t) least_size (results_of m) out) (results_of m)

pub tagged-take-keeps : (m : List ℕ) (t : ℕ) (out : List ℕ) → (tag_taken m t out).answer.refusal ≢ 0
    → ((tag_taken m t out).answer.count ≡ 0) × ((tag_taken m t out).mem ≡ m) × ((tag_taken m t out).out ≡ out)
unfolding tag_taken
tagged-take-keeps m t out =
    either (KeepsBoth m out) (ltb (length out) 80) _ _ (both-refused m out 11)
    (either (KeepsBoth m out) (eqb (tag_standing m) 0) _ _
    (either (KeepsBoth m out) (ltb t most_tags && whole_result m t) _ _ (λ h. absurd (h refl)) (both-refused m out 38))
    (both-refused m out (tag_standing m)))

-- ---- start
tagged-start-order : (s l : Bool) (v : Verdict) (x : Exp) (kinds m : List ℕ) (cs : List Row) → number_in v ≡ first-refusal cs
    → (pick s (begun (startRefusal Memory 0) m) (tag_by_verdict v l x kinds m)).answer.refusal ≡ first-refusal ((s, Memory) ∷ (cs ++ ((l, Loop) ∷ [])))
unfolding first-refusal tag_by_verdict
tagged-start-order true l v x kinds m cs h = refl
tagged-start-order false l (Err why) x kinds m cs h = behind-some cs _ (number_of why.refusal) (number-positive why.refusal) h
tagged-start-order false l (Ok _) x kinds m cs h = looped l ∙ sym (behind-none cs _ (sym h))
  where
    looped : (l : Bool) → (tag_by_verdict (Ok tt) l x kinds m).answer.refusal ≡ first-refusal ((l, Loop) ∷ [])
    looped true = refl
    looped false = refl

-- 11, the sheet's, 19
pub tagged-start-exact : (sheet line m : List ℕ) → (tag_started sheet line m).answer.refusal ≡ first-refusal (tagged_start_table sheet line m)
unfolding tag_started
tagged-start-exact sheet line m =
    tagged-start-order (tagged-short m) (has_for sheet) (verdict_of sheet line) (formula_of sheet) (letters_of (formula_of sheet) line) m (sheet_table sheet line) (sheet-exact sheet line)

tagged-start-by : (sheet line : List ℕ) (v : Verdict) (l : Bool) (x : Exp) (kinds m : List ℕ) → VerdictRow sheet line v → StartKeeps sheet line m (tag_by_verdict v l x kinds m)
unfolding tag_by_verdict
tagged-start-by sheet line (Err why) l x kinds m s h = ((why.refusal, refl, s), refl, refl, refl, refl)
tagged-start-by sheet line (Ok _) true x kinds m s h = ((Loop, refl, refl), refl, refl, refl, refl)
tagged-start-by sheet line (Ok _) false x kinds m s h = absurd (h refl)

pub tagged-start-keeps : (sheet line m : List ℕ) → StartKeeps sheet line m (tag_started sheet line m)
unfolding tag_started
tagged-start-keeps sheet line m =
    either (StartKeeps sheet line m) (tagged-short m) _ _ (λ h. ((Memory, refl, refl), refl, refl, refl, refl))
    (tagged-start-by sheet line (verdict_of sheet line) (has_for sheet) (formula_of sheet) (letters_of (formula_of sheet) line) m (verdict-row sheet line))
