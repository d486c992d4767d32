-- Laws of specs/Kept.antt, and what only they need.
use Rattle.std.specs.Prelude.{ℕ, zero, suc, ◌≡◌, refl, Bool, true, false, ◌&&◌, ◌⊎◌, ◌≢◌, List, leb, ltb, eqb, length, Ok, Err}
use Rattle.std.proofs.Common.{ap, subst, inl, inr, arith}
use Rattle.std.proofs.Math.Option.{Option, some, none}
use Rattle.std.proofs.Math.Decide.{ℕ_discrete}
use Rattle.value.specs.declared.Value.{Value}
use Rattle.formula.specs.declared.Refusal.TheVariants.{Memory, Capacity}
use Rattle.formula.specs.Results.{Verdict}
use Rattle.formula.specs.declared.Figures.{Figures}
use Rattle.formula.specs.Tree.{Exp, formula_of}
use Rattle.formula.specs.Free.{free_e}
use Rattle.formula.specs.Faults.{letters_of}
use Rattle.formula.specs.Tests.{verdict_of, figures_of, answer_by, reading_of}
use Rattle.sheet_read.specs.Reading.{answer_of}
use Rattle.meaning.specs.Meaning.{Outcome as Ended, yields, inputs_hold, eval_e}
use Rattle.meaning.specs.declared.Evaluation.{Evaluation}
use Rattle.meaning.specs.Evaluate.{concluded, evaluated_with, evaluated, after_verdict, evaluation_of}
use Rattle.value_sets.specs.Sets.{set_values}
use Rattle.eval_sheet.specs.Handed.{told, handed_out}
use Rattle.machine_layout.specs.Layout.{operators_of, results_of, untaken_of}
use Rattle.machine_firing.specs.Fire.{able_at, fired_at}
use Rattle.machine_valid.specs.Below.{all_below}
use Rattle.machine_runs.specs.Run.{runs, still_at}
use Rattle.machine_calls.specs.Calls.{Outcome, outcome, handed, answers, refusal, size_in, standing, pushed, fired, ran, result_ready, taken}
use Rattle.machine_calls.specs.CallLaws.{ran-refused}
use Rattle.machine_rounds.specs.Rounds.{Outcome as RoundsOutcome, ran_rounds}
use Rattle.machine_rounds.specs.RoundLaws.{rounds-refused}
use Rattle.machine_rounds.specs.Turns.{RoundsMade}
use Rattle.machine_rounds.specs.Counted.{RoundsCount, rounds-count}
use Rattle.machine_tray.specs.Tray.{trayed}
use Rattle.machine_tray.specs.TrayLaws.{tray-of-none}
use Rattle.machine_tray.specs.OneByOne.{either, push-leaves, went-in, refused-set}
use Rattle.machine_start.specs.Start.{by_verdict, started}
use Rattle.refusals.specs.Conditions.{no_room, short-asked}
use Rattle.refusals.specs.Rows.{VerdictRow}
use Rattle.refusals.proofs.Rows.{verdict-row}
use Rattle.refusals.specs.RunCount.{Firings}
use Rattle.refusals.proofs.RunCount.{run_is, run-counts}
use Rattle.refusals.specs.Kept.{Keeps, SetRefused, UsedUpFirings, UsedUpRounds, RoundsLeave, KeepsBoth, ReadKeeps, StartKeeps, EvaluateKeeps}

pub keeps-refused : (m : List ℕ) (n : ℕ) → Keeps m (outcome (answers n 0) m)
keeps-refused m n h = (refl, refl)

pub keeps-accepted : (m m' : List ℕ) (c : ℕ) → Keeps m (outcome (answers 0 c) m')
keeps-accepted m m' c h = absurd (h refl)

pub push-keeps : (m set : List ℕ) → (pushed m set).answer.refusal ≢ 0 → ((pushed m set).answer.count ≡ 0) × ((pushed m set).mem ≡ m)
push-keeps m set h = let e = push-leaves m set h in (ap (λ (o : Outcome). o.answer.count) e, ap (λ (o : Outcome). o.mem) e)

-- 11 and 31 of a tray of none leave the memory.
pub tray-keeps : (m sets : List ℕ) (number : ℕ) → (trayed m sets number).answer.refusal ≢ 0
    → (((trayed m sets number).answer.count ≡ 0) × ((trayed m sets number).mem ≡ m)) ⊎ SetRefused m sets number
tray-keeps m sets zero h = let e = tray-of-none m sets in inl (ap (λ (o : Outcome). o.answer.count) e, ap (λ (o : Outcome). o.mem) e)
tray-keeps m sets (suc n) h = inr (went-in m sets (suc n), refused-set m sets (suc n) (omega arith) h)

pub fire-keeps : (m : List ℕ) (i : ℕ) → (fired m i).answer.refusal ≢ 0 → ((fired m i).answer.count ≡ 0) × ((fired m i).mem ≡ m)
unfolding fired
fire-keeps m i =
    either (Keeps m) (eqb (standing m) 0) _ _
    (either (Keeps m) (ltb i (operators_of m) && able_at m (size_in m) i) _ _ (keeps-accepted m (fired_at m (size_in m) i) 0) (keeps-refused m 34))
    (keeps-refused m (standing m))

-- 11 and 31 leave the memory.
pub run-keeps : (m : List ℕ) (firings : ℕ) → (ran m firings).answer.refusal ≢ 0
    → (((ran m firings).answer.count ≡ 0) × ((ran m firings).mem ≡ m)) ⊎ UsedUpFirings m firings
run-keeps m firings h = go (ℕ_discrete (standing m) 0)
  where
    go : Dec (standing m ≡ 0) → (((ran m firings).answer.count ≡ 0) × ((ran m firings).mem ≡ m)) ⊎ UsedUpFirings m firings
    go (yes st) = used (still_at (runs (size_in m) (operators_of m) firings m 0).mem (size_in m) (operators_of m)) refl
      where
        used : (b : Bool) → still_at (runs (size_in m) (operators_of m) firings m 0).mem (size_in m) (operators_of m) ≡ b
            → (((ran m firings).answer.count ≡ 0) × ((ran m firings).mem ≡ m)) ⊎ UsedUpFirings m firings
        used true e = absurd (h (run_is m firings st true e).2)
        used false e =
            let r = (run_is m firings st false e).2 in
            let C = run-counts m firings st in
            let full = (C.unfinished r).0 in
            inr (r, full, subst (λ (k : ℕ). Firings (size_in m) (operators_of m) k m (ran m firings).mem) full C.between)
    go (no n) = let e = ran-refused m firings n in inl (ap (λ (o : Outcome). o.answer.count) e, ap (λ (o : Outcome). o.mem) e)

pub rounds-keeps : (m : List ℕ) (number : ℕ) → (ran_rounds m number).answer.refusal ≢ 0 → RoundsLeave m (ran_rounds m number) ⊎ UsedUpRounds m number
rounds-keeps m number h = go (ℕ_discrete (standing m) 0)
  where
    used : RoundsCount m number (ran_rounds m number) → (b : Bool) → still_at (ran_rounds m number).mem (size_in m) (operators_of m) ≡ b
        → RoundsLeave m (ran_rounds m number) ⊎ UsedUpRounds m number
    used C true e = absurd (h (C.finished e))
    used C false e =
        let r = C.goes_on e in
        let full = (C.unfinished r).0 in
        inr (r, full, subst (λ (k : ℕ). RoundsMade (size_in m) (operators_of m) k (ran_rounds m number).answer.firings m (ran_rounds m number).mem) full C.between)

    go : Dec (standing m ≡ 0) → RoundsLeave m (ran_rounds m number) ⊎ UsedUpRounds m number
    go (yes st) = used (rounds-count m number st) (still_at (ran_rounds m number).mem (size_in m) (operators_of m)) refl
    go (no n) =
        let e = rounds-refused m number n in
        inl (ap (λ (o : RoundsOutcome). o.answer.rounds) e, ap (λ (o : RoundsOutcome). o.answer.firings) e, ap (λ (o : RoundsOutcome). o.mem) e)

pub both-refused : (m out : List ℕ) (n : ℕ) → KeepsBoth m out (handed (answers n 0) m out)
both-refused m out n h = (refl, refl, refl)

pub take-keeps : (m out : List ℕ) → (taken m out).answer.refusal ≢ 0
    → ((taken m out).answer.count ≡ 0) × ((taken m out).mem ≡ m) × ((taken m out).out ≡ out)
unfolding taken
take-keeps m out =
    either (KeepsBoth m out) (ltb (length out) 80) _ _ (both-refused m out 11)
    (either (KeepsBoth m out) (eqb (standing m) 0) _ _
    (either (KeepsBoth m out) (ltb 0 (untaken_of m) && all_below (results_of m) (result_ready m (size_in m))) _ _
    (λ h. absurd (h refl))
    (both-refused m out 35))
    (both-refused m out (standing m)))

read_by : (sheet line : List ℕ) (v : Verdict) (f : Figures) → VerdictRow sheet line v → ReadKeeps sheet line (answer_of (answer_by v f))
unfolding answer_by
read_by sheet line (Ok _) f s h = absurd (h refl)
read_by sheet line (Err why) f s h = ((why.refusal, refl, s), refl, refl, refl, refl)

pub read_keeps : (s line : List ℕ) → ReadKeeps s line (answer_of (reading_of s line))
unfolding reading_of
read_keeps s line = read_by s line (verdict_of s line) (figures_of s) (verdict-row s line)

start-by : (sheet line : List ℕ) (v : Verdict) (x : Exp) (kinds : List ℕ) (capacity : ℕ) (m : List ℕ) → VerdictRow sheet line v → StartKeeps sheet line m (by_verdict v x kinds capacity m)
unfolding by_verdict
start-by sheet line (Ok _) x kinds capacity m s h = absurd (h refl)
start-by sheet line (Err why) x kinds capacity m s h = ((why.refusal, refl, s), refl, refl, refl, refl)

pub start-keeps : (sheet line : List ℕ) (capacity : ℕ) (m : List ℕ) → StartKeeps sheet line m (started sheet line capacity m)
unfolding started
start-keeps sheet line capacity m =
    either (StartKeeps sheet line m) (short-asked capacity m) _ _ (λ h. ((Memory, refl, refl), refl, refl, refl, refl))
    (either (StartKeeps sheet line m) (leb 1 capacity && leb capacity 16) _ _
    (start-by sheet line (verdict_of sheet line) (formula_of sheet) (letters_of (formula_of sheet) line) capacity m (verdict-row sheet line))
    (λ h. ((Capacity, refl, refl), refl, refl, refl, refl)))

told-by : (sheet line : List ℕ) (v : Verdict) (e : Evaluation) (out : List ℕ) → VerdictRow sheet line v → EvaluateKeeps sheet line out (told v e out)
unfolding told
told-by sheet line (Ok _) e out s h = absurd (h refl)
told-by sheet line (Err why) e out s h = ((why.refusal, refl, s), refl, refl, refl)

concluded-row : (sheet line : List ℕ) (rounds : ℕ) (o : Ended) → VerdictRow sheet line (concluded rounds o).verdict
unfolding concluded
concluded-row sheet line rounds (yields vs left) = tt
concluded-row sheet line rounds Ended.unfinished = refl

set-row : (sheet line : List ℕ) (x : Exp) (rounds : ℕ) (o : Option (List Value)) → VerdictRow sheet line (evaluated_with x rounds o).verdict
set-row sheet line x rounds (some vs) = concluded-row sheet line rounds (eval_e x (inputs_hold (free_e x) vs) rounds)
set-row sheet line x rounds none = refl

after-row : (sheet line : List ℕ) (v : Verdict) (e : Evaluation) → VerdictRow sheet line v → VerdictRow sheet line e.verdict → VerdictRow sheet line (after_verdict v e).verdict
after-row sheet line (Ok _) e a b = b
after-row sheet line (Err why) e a b = a

evaluation-row : (sheet line set : List ℕ) (rounds : ℕ) → VerdictRow sheet line (evaluation_of sheet line set rounds).verdict
unfolding evaluation_of evaluated
evaluation-row sheet line set rounds =
    after-row sheet line (verdict_of sheet line) (evaluated (formula_of sheet) (letters_of (formula_of sheet) line) set rounds) (verdict-row sheet line)
    (set-row sheet line (formula_of sheet) rounds (set_values (letters_of (formula_of sheet) line) set))

pub evaluate-keeps : (sheet line set : List ℕ) (rounds : ℕ) (out : List ℕ) → EvaluateKeeps sheet line out (handed_out sheet line set rounds out)
unfolding handed_out
evaluate-keeps sheet line set rounds out =
    either (EvaluateKeeps sheet line out) (no_room out) _ _ (λ h. ((Memory, refl, refl), refl, refl, refl))
    (told-by sheet line (evaluation_of sheet line set rounds).verdict (evaluation_of sheet line set rounds) out (evaluation-row sheet line set rounds))
