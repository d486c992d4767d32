-- Every call of the machine with tags is a step (Stepped) with the sets and results that TagLists counts under each tag, and so is a list of calls; 31 is answered nowhere in the list.
-- Assumes an accepted sheet and a benched memory.
use Prim.Native.Nat.{ℕ, zero, suc, ◌≤◌, ◌<◌}
use Rattle.std.specs.Prelude.{◌≡◌, ◌≢◌, true, cond, ◌&&◌, eqb, length, get_or, drop, take as first_of}
use Rattle.std.proofs.Common.{sym, arith, length-take, take-append-drop}
use Rattle.std.proofs.Math.Path.{subst}
use mathlib.Core.List.{List, [], ◌∷◌, ◌++◌}
use Rattle.std.proofs.Math.Decide.{dec_lt}
use Rattle.formula.specs.declared.Refusal.TheVariants.{Altered}
use Rattle.formula.specs.Refusals.{number_of}
use Rattle.formula.specs.Acceptance.{Admissible}
use Rattle.machine_calls.specs.Calls.{Outcome, Handed, answers}
use Rattle.machine_planes.specs.Planes.{most_tags, tagged_need}
use Rattle.machine_tags.proofs.Least.{least-says}
use Rattle.machine_tags.specs.TagCalls.{tag_standing, free_tag, lowest_free, tag_pushed, tag_fired, tag_ran, tag_taken}
use Rattle.demand.specs.MemoryCalls.{Result, result, accepted}
use Rattle.demand_tags.specs.TagLists.{Call, push, fire, run, take, answer_of, memory_after, memory_after_all, answers_of, set_under, result_under, sets_under, results_under}
use Rattle.demand_tags.specs.Benched.{Benched}
use Rattle.demand_tags.proofs.Benched.{bench-stands, bench-lent}
use Rattle.demand_tags.proofs.Stepped.{Stepped, step-none, step_then, step-lent, bench-stepped}
use Rattle.demand_tags.specs.Stepped.{no-sets, no-results}
use Rattle.demand_tags.proofs.Tested.{push-short, fire-short, run_short, take_short, push_case, fire-case, take-case, run-made}
use Rattle.demand_tags.specs.Tested.{PushCase, no-set, none_free, went-in, FireCase, not-able, able, TakeCase, no_room, not-whole, whole}
use Rattle.demand_tags.proofs.Firings.{fired-step, run-fires}
use Rattle.demand_tags.proofs.PushTake.{push_step, take_step}

pub lowest-free : (m : List ℕ) → lowest_free m < most_tags → free_tag m (lowest_free m) ≡ true
unfolding lowest_free
lowest-free m h = (least-says (free_tag m) most_tags).passes h

module _ (sheet line : List ℕ) (ok : Admissible sheet) (m : List ℕ) (B : Benched sheet line m) (lent : ℕ) where
  abbrev lentPart : List ℕ
  lentPart = first_of lent m

  abbrev behind : List ℕ
  behind = drop lent m

  short : lent < tagged_need → length lentPart < tagged_need
  short l = omega (arith, length-take lent m)

  benched : tagged_need ≤ lent → Benched sheet line lentPart
  benched l = bench-lent sheet line ok m B lent l

  good : (l : tagged_need ≤ lent) → tag_standing lentPart ≡ 0
  good l = bench-stands sheet line ok lentPart (benched l)

  refused-step : Stepped m (lentPart ++ behind) no-sets no-results
  refused-step = rw (take-append-drop lent m) (step-none m)

  whole-step : tagged_need ≤ lent → (k : List ℕ) (s : ℕ → List (List ℕ)) (r : ℕ → List Result) → Stepped lentPart k s r → Stepped m (k ++ behind) s r
  whole-step l = step-lent m lent B.long l

  -- ---- push
  abbrev PushSteps : List ℕ → Outcome → Type 0
  PushSteps s o = Stepped m (o.mem ++ behind) (λ t. cond (accepted o.answer && eqb o.answer.count t) (s ∷ []) []) no-results × (o.answer.refusal ≢ number_of Altered)

  pub push-steps : (s : List ℕ) → PushSteps s (tag_pushed lentPart s)
  unfolding accepted
  push-steps s = go (dec_lt lent tagged_need)
    where
      tested : tagged_need ≤ lent → PushCase lentPart s → PushSteps s (tag_pushed lentPart s)
      tested l (no-set e) = subst (PushSteps s) (sym e) (refused-step, omega arith)
      tested l (none_free p e) = subst (PushSteps s) (sym e) (refused-step, omega arith)
      tested l (went-in set p e) =
          subst (PushSteps s) (sym e)
          (whole-step l _ _ no-results (push_step lentPart (good l) (lowest_free lentPart) p s set (lowest-free lentPart p)), omega arith)

      go : Dec (lent < tagged_need) → PushSteps s (tag_pushed lentPart s)
      go (yes l) = subst (PushSteps s) (sym (push-short lentPart (short l) s)) (refused-step, omega arith)
      go (no l) = tested (omega arith) (push_case lentPart (good (omega arith)) s)

  -- ---- fire and run
  abbrev MoveSteps : Outcome → Type 0
  MoveSteps o = Stepped m (o.mem ++ behind) no-sets no-results × (o.answer.refusal ≢ number_of Altered)

  pub fire-steps : (i t : ℕ) → MoveSteps (tag_fired lentPart i t)
  fire-steps i t = go (dec_lt lent tagged_need)
    where
      tested : tagged_need ≤ lent → FireCase lentPart i t → MoveSteps (tag_fired lentPart i t)
      tested l (not-able e) = subst MoveSteps (sym e) (refused-step, omega arith)
      tested l (able p q r e) =
          subst MoveSteps (sym e) (whole-step l _ no-sets no-results (fired-step sheet line ok lentPart (benched l) i p t q r), omega arith)

      go : Dec (lent < tagged_need) → MoveSteps (tag_fired lentPart i t)
      go (yes l) = subst MoveSteps (sym (fire-short lentPart (short l) i t)) (refused-step, omega arith)
      go (no l) = tested (omega arith) (fire-case lentPart (good (omega arith)) i t)

  pub run-steps : (firings : ℕ) → MoveSteps (tag_ran lentPart firings)
  run-steps firings = go (dec_lt lent tagged_need)
    where
      go : Dec (lent < tagged_need) → MoveSteps (tag_ran lentPart firings)
      go (yes l) = subst MoveSteps (sym (run_short lentPart (short l) firings)) (refused-step, omega arith)
      go (no l) =
          let w = run-made lentPart (good (omega arith)) firings in
          (rw w.0 (whole-step (omega arith) _ no-sets no-results (run-fires sheet line ok [] firings lentPart (benched (omega arith))).1), w.2)

  -- ---- take
  abbrev TakeSteps : ℕ → Handed → Type 0
  TakeSteps tag h =
      Stepped m (h.mem ++ behind) no-sets (λ t. cond (accepted h.answer && eqb tag t) (result h.answer.count (first_of 80 h.out) ∷ []) []) × (h.answer.refusal ≢ number_of Altered)

  pub take_steps : (t : ℕ) (o : List ℕ) → TakeSteps t (tag_taken lentPart t o)
  unfolding accepted
  take_steps t o = go (dec_lt lent tagged_need)
    where
      tested : tagged_need ≤ lent → TakeCase lentPart t o → TakeSteps t (tag_taken lentPart t o)
      tested l (no_room e) = subst (TakeSteps t) (sym e) (refused-step, omega arith)
      tested l (not-whole e) = subst (TakeSteps t) (sym e) (refused-step, omega arith)
      tested l (whole room p r e) =
          subst (TakeSteps t) (sym e) (whole-step l _ no-sets _ (take_step lentPart (good l) t p o room r), omega arith)

      go : Dec (lent < tagged_need) → TakeSteps t (tag_taken lentPart t o)
      go (yes l) = subst (TakeSteps t) (sym (take_short lentPart (short l) t o)) (refused-step, omega arith)
      go (no l) = tested (omega arith) (take-case lentPart (good (omega arith)) t o)

-- ---- every call, and lists of calls
module _ (sheet line : List ℕ) (ok : Admissible sheet) where
  pub call-steps : (m : List ℕ) → Benched sheet line m → (c : Call)
      → Stepped m (memory_after c m) (λ t. set_under t c m) (λ t. result_under t c m) × ((answer_of c m).refusal ≢ number_of Altered)
  unfolding memory_after set_under result_under answer_of
  call-steps m B (push lent set) = push-steps sheet line ok m B lent set
  call-steps m B (fire lent operator tag) = fire-steps sheet line ok m B lent operator tag
  call-steps m B (run lent firings) = run-steps sheet line ok m B lent firings
  call-steps m B (take lent tag out) = take_steps sheet line ok m B lent tag out

  pub bench-call : (m : List ℕ) → Benched sheet line m → (c : Call) → Benched sheet line (memory_after c m)
  bench-call m B c = bench-stepped sheet line ok m (memory_after c m) (λ t. set_under t c m) (λ t. result_under t c m) B (call-steps m B c).0

  pub calls-step : (calls : List Call) (m : List ℕ) → Benched sheet line m → Stepped m (memory_after_all calls m) (λ t. sets_under t calls m) (λ t. results_under t calls m)
  unfolding memory_after_all sets_under results_under
  calls-step [] m B = step-none m
  calls-step (c ∷ calls) m B =
      let n = memory_after c m in
      step_then m n (memory_after_all calls n) (λ t. set_under t c m) (λ t. sets_under t calls n) (λ t. result_under t c m) (λ t. results_under t calls n) (call-steps m B c).0
      (calls-step calls n (bench-call m B c))

  -- 31 "never given for a machine that start made and nothing but its calls has touched since"
  pub calls-unaltered : (calls : List Call) (m : List ℕ) → Benched sheet line m
      → (k : ℕ) → k < length (answers_of calls m) → (get_or (answers_of calls m) k (answers 0 0)).refusal ≢ number_of Altered
  unfolding answers_of
  calls-unaltered [] m B k l = absurd (omega arith)
  calls-unaltered (c ∷ calls) m B zero l = (call-steps m B c).1
  calls-unaltered (c ∷ calls) m B (suc k) l = calls-unaltered calls (memory_after c m) (bench-call m B c) k (omega arith)
