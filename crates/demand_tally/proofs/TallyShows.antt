-- Laws of specs/TallyShows.antt, and what only they need.
use Rattle.std.specs.Prelude.{ℕ, ◌+◌, ◌≤◌, ◌<◌, min, ◌≡◌, refl, Bool, true, false, cond, List, [], ◌∷◌, ◌++◌, eqb, length, take as first_of}
use Rattle.std.proofs.Common.{sym, ◌∙◌, arith, length-append}
use Rattle.std.proofs.Math.Path.{ap}
use Rattle.value.specs.Operators.{pick}
use Rattle.theory_schedule.specs.Counts.{count}
use Rattle.formula.specs.Tree.{Exp, formula_of}
use Rattle.formula.specs.Faults.{letters_of}
use Rattle.graph.specs.Translation.{made_of}
use Rattle.machine_layout.specs.Layout.{operators_of}
use Rattle.machine_calls.specs.Calls.{pushed, fired, taken}
use Rattle.machine_tray.specs.Tray.{trayed}
use Rattle.machine_start.specs.Start.{started}
use Rattle.machine_start.specs.StartLaws.{AcceptedStart, accepted-start}
use Rattle.machine_tally.specs.declared.Tally.{Tally}
use Rattle.machine_tally.specs.Tallied.{tallies, most, capped, more_firings, one_take, one_refused, after_start, after_push, after_tray, after_fire, after_run, after_rounds, after_take}
use Rattle.machine_tally.specs.TallyLaws.{when-accepted}
use Rattle.theory_verdicts.specs.Running.{start_of, history}
use Rattle.theory_verdicts.proofs.RunningLaws.{calls-made}
use Rattle.theory_rounds.proofs.Shares.{length-counts}
use Rattle.theory_rounds.proofs.TurnLaws.{past-never}
use Rattle.demand_view.specs.Stands.{Stands}
use Rattle.demand_begin.proofs.StartedStands.{accepted-stands}
use Rattle.demand.specs.MemoryCalls.{Call, push, tray, fire, run, by_rounds, take, Result, result, accepted, answer_of, memory_after, memory_after_all, result_of, sets_pushed, results_taken}
use Rattle.demand.proofs.Agreed.{calls-agree}
use Rattle.demand_rounds.specs.InTurn.{fired_by, all_fired}
use Rattle.demand_rounds.proofs.Told.{run-fires-told, rounds-fires-told}
use Rattle.demand_rounds.proofs.Traced.{Traced, calls-traced}
use Rattle.demand_rounds.proofs.Waiting.{times-count}
use Rattle.demand_tally.specs.TallyCounts.{tally_after, tally_after_all, firings_of_all, accepted_takes, refused_push, refused_pushes, shown}
use Rattle.demand_tally.specs.TallyShows as Stated

-- ---- one call, on every memory
tallies-same : (f f' t t' r r' : ℕ) → f ≡ f' → t ≡ t' → r ≡ r' → tallies f t r ≡ tallies f' t' r'
tallies-same f f' t t' r r' a b c = rw (a, b, c) refl

-- A number that stops and goes on stops where one that counts all would.
stops-once : (a n : ℕ) → capped (min a most) n ≡ min (a + n) most
unfolding capped
stops-once a n = omega arith

none_more : (a : ℕ) → min a most ≡ min (a + 0) most
none_more a = omega arith

module _ (f t r : ℕ) where
  keeps : shown f t r ≡ shown (f + 0) (t + 0) (r + 0)
  keeps = tallies-same _ _ _ _ _ _ (none_more f) (none_more t) (none_more r)

  one-refused : one_refused (shown f t r) ≡ shown (f + 0) (t + 0) (r + 1)
  unfolding one_refused
  one-refused = tallies-same _ _ _ _ _ _ (none_more f) (none_more t) (stops-once r 1)

  one-take : one_take (shown f t r) ≡ shown (f + 0) (t + 1) (r + 0)
  unfolding one_take
  one-take = tallies-same _ _ _ _ _ _ (none_more f) (stops-once t 1) (none_more r)

  more-firings : (n : ℕ) → more_firings (shown f t r) n ≡ shown (f + n) (t + 0) (r + 0)
  unfolding more_firings
  more-firings n = tallies-same _ _ _ _ _ _ (stops-once f n) (none_more t) (none_more r)

  by-push : (b : Bool) → pick b (shown f t r) (one_refused (shown f t r)) ≡ shown (f + 0) (t + 0) (r + cond b 0 1)
  by-push true = keeps
  by-push false = one-refused

  by-fire : (b : Bool) (i : ℕ) → pick b (more_firings (shown f t r) 1) (shown f t r) ≡ shown (f + length (cond b (i ∷ []) [])) (t + 0) (r + 0)
  by-fire true i = more-firings 1
  by-fire false i = keeps

  by-take : (b : Bool) (x : Result) → pick b (one_take (shown f t r)) (shown f t r) ≡ shown (f + 0) (t + length (cond b (x ∷ []) [])) (r + 0)
  by-take true x = one-take
  by-take false x = keeps

  by-run : (n n' : ℕ) → n ≡ 0 + n' → more_firings (shown f t r) n ≡ shown (f + n') (t + 0) (r + 0)
  by-run n n' e = let s : n ≡ n' = omega arith in more-firings n ∙ ap (λ (k : ℕ). shown (f + k) (t + 0) (r + 0)) s

  call-tallied : (c : Call) (m : List ℕ) → tally_after c m (shown f t r) ≡ shown (f + length (fired_by c m)) (t + length (result_of c m)) (r + refused_push c m)
  unfolding tally_after fired_by result_of refused_push answer_of accepted after_push after_tray after_fire after_run after_rounds after_take
  call-tallied (push lent set) m = by-push (eqb (pushed (first_of lent m) set).answer.refusal 0)
  call-tallied (tray lent sets number) m = by-push (eqb (trayed (first_of lent m) sets number).answer.refusal 0)
  call-tallied (fire lent i) m = by-fire (eqb (fired (first_of lent m) i).answer.refusal 0) i
  call-tallied (run lent n) m = by-run _ _ (run-fires-told lent m n).counts
  call-tallied (by_rounds lent n) m = by-run _ _ (rounds-fires-told lent m n).counts
  call-tallied (take lent out) m =
      let h = taken (first_of lent m) out in
      by-take (eqb h.answer.refusal 0) (result h.answer.count (first_of 80 h.out))

-- ---- a list of calls, on every memory
calls-tallied : (calls : List Call) (m : List ℕ) (f t r : ℕ)
    → tally_after_all calls m (shown f t r) ≡ shown (f + length (all_fired calls m)) (t + accepted_takes calls m) (r + refused_pushes calls m)
unfolding tally_after_all all_fired results_taken refused_pushes
calls-tallied [] m f t r = keeps f t r
calls-tallied (c ∷ calls) m f t r =
    let m' = memory_after c m in
    let F : (f + length (fired_by c m)) + length (all_fired calls m') ≡ f + length (fired_by c m ++ all_fired calls m') = omega (arith, length-append (fired_by c m) (all_fired calls m')) in
    let T : (t + length (result_of c m)) + length (results_taken calls m') ≡ t + length (result_of c m ++ results_taken calls m')
    = omega (arith, length-append (result_of c m) (results_taken calls m')) in
    let R : (r + refused_push c m) + refused_pushes calls m' ≡ r + (refused_push c m + refused_pushes calls m') = omega arith in
    ap (tally_after_all calls m') (call-tallied f t r c m)
    ∙ calls-tallied calls m' (f + length (fired_by c m)) (t + length (result_of c m)) (r + refused_push c m)
    ∙ tallies-same _ _ _ _ _ _ (ap (λ (n : ℕ). min n most) F) (ap (λ (n : ℕ). min n most) T) (ap (λ (n : ℕ). min n most) R)

-- ---- from an accepted start
module _ (sheet line : List ℕ) (capacity : ℕ) (memory : List ℕ) (h : (started sheet line capacity memory).answer.refusal ≡ 0) (calls : List Call) where
  abbrev x : Exp
  x = formula_of sheet

  abbrev kinds : List ℕ
  kinds = letters_of (formula_of sheet) line

  abbrev start : List ℕ
  start = Stated.start sheet line capacity memory h calls

  begun : AcceptedStart sheet line capacity memory
  begun = accepted-start sheet line capacity memory h

  H : Stands (made_of x) kinds capacity start (start_of x)
  H = accepted-stands sheet line capacity memory h

  T : Traced x kinds capacity (start_of x) (memory_after_all calls start) (sets_pushed calls start) (length (results_taken calls start)) (all_fired calls start)
  T =
      calls-traced x kinds capacity begun.some begun.most (calls-agree sheet begun.admissible kinds capacity begun.some begun.most) calls start (start_of x) H

  -- Only operators of the graph fire, so all firings are the sum of theirs.
  fired-in-all : length (all_fired calls start) ≡ firings_of_all calls start
  fired-in-all =
      length-counts (operators_of start) (all_fired calls start)
      (λ e l.
      ap (count e) (sym T.fires-are) ∙ sym (times-count e (history x capacity T.calls))
      ∙ past-never x capacity (history x capacity T.calls) (start_of x) (calls-made x capacity T.calls (start_of x)) e (omega (arith, H.operators-are)))

  abbrev recordAfter : Tally → Tally
  recordAfter = Stated.recordAfter sheet line capacity memory h calls

  -- EACH NUMBER IS ITS COUNT, UP TO WHERE IT STOPS.
  pub tally-shows : (before : Tally) → recordAfter before ≡ shown (firings_of_all calls start) (accepted_takes calls start) (refused_pushes calls start)
  unfolding after_start
  tally-shows before =
      ap (tally_after_all calls start) (when-accepted (started sheet line capacity memory).answer.refusal (tallies 0 0 0) before h)
      ∙ calls-tallied calls start 0 0 0
      ∙ tallies-same _ _ _ _ _ _ (omega (arith, fired-in-all)) (omega arith) (omega arith)

  -- "While no number has stopped": no count is more than a number can be.
  pub shows-counts : (before : Tally) → firings_of_all calls start ≤ most → accepted_takes calls start ≤ most → refused_pushes calls start ≤ most
      → recordAfter before ≡ tallies (firings_of_all calls start) (accepted_takes calls start) (refused_pushes calls start)
  shows-counts before f t r = tally-shows before ∙ tallies-same _ _ _ _ _ _ (omega arith) (omega arith) (omega arith)
