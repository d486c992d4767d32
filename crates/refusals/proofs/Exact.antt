-- Laws of specs/Exact.antt, and what only they need.
use Rattle.std.specs.Prelude.{ℕ, ◌-◌, ◌≤◌, ◌≡◌, refl, Bool, true, false, not, cond, ◌&&◌, List, [], ◌∷◌, ◌++◌, leb, ltb, eqb, Ok, Err}
use Rattle.std.proofs.Common.{sym, ap, ◌∙◌, arith, ltb-true, ltb-false, le-leb}
use Rattle.std.proofs.Math.Option.{Option, some, none}
use Rattle.std.proofs.lemmas.Bool.{lt-leb}
use Rattle.value.specs.declared.Value.{Value}
use Rattle.value.specs.Operators.{pick}
use Rattle.formula.specs.declared.Refusal.{Refusal}
use Rattle.formula.specs.declared.Refusal.TheVariants.{Memory, Set, Capacity, Altered, Untaken, Full, NotAble, NoResult, Unfinished}
use Rattle.formula.specs.Results.{Check, Verdict}
use Rattle.formula.specs.declared.Figures.{Figures}
use Rattle.formula.specs.Refusals.{number_of}
use Rattle.formula.proofs.Refusals.{number-positive}
use Rattle.formula.specs.Sheet.{row_count, lines_of, fields_of}
use Rattle.formula.specs.Tree.{Exp, formula_of}
use Rattle.formula.specs.Free.{free_e}
use Rattle.formula.specs.Faults.{letters_of}
use Rattle.formula.specs.Tests.{Sheet, Test, whole, laid_out, few_rows, line_fits, operators_of as operators_in, after_check, verdict_by, verdict_of, tests, row_tests, formula_tests, kind_tests, graph_tests, sheet_of, figures_of, answer_by, reading_of}
use Rattle.sheet_read.specs.Reading.{answer_of}
use Rattle.meaning.specs.Meaning.{Outcome, yields, inputs_hold, eval_e}
use Rattle.meaning.specs.declared.Evaluation.{Evaluation}
use Rattle.meaning.specs.Evaluate.{concluded, evaluated_with, evaluated, after_verdict, evaluation_of}
use Rattle.value_sets.specs.Sets.{set_values, set_ok}
use Rattle.eval_sheet.specs.Handed.{told, handed_out, handed as evaluate-handed, answers as evaluate-answers}
use Rattle.machine_layout.specs.Layout.{operators_of, inputs_of, results_of, untaken_of, stored_kinds}
use Rattle.machine_firing.specs.Fire.{able_at, fired_at}
use Rattle.machine_valid.specs.Below.{all_below}
use Rattle.machine_valid.specs.Valid.{valid}
use Rattle.machine_runs.specs.Run.{Ran, runs, still_at}
use Rattle.machine_calls.specs.Calls.{outcome, handed, answers, refusal, size_in, standing, rooms_ok, pushed_memory, pushed, fired, ended, ran, result_ready, written, taken_memory, taken}
use Rattle.machine_rounds.specs.Rounds.{Rounded, rounds_from, outcome as rounds-outcome, answers as rounds-answers, ended as rounds-ended, ran_rounds}
use Rattle.machine_start.specs.Start.{begun, by_verdict, started, refusal as startRefusal}
use Rattle.refusals.specs.FirstRefusal.{Row, first-refusal}
use Rattle.refusals.specs.Conditions.{short, no_room, altered, no-set, link-full, push_table, fire_table, run_table, rounds_table, take_table, failed, sheet_table, short-asked, start_table, no-values, lacking, rounds-lacking, is_none, is-unfinished, evaluate_table}
use Rattle.refusals.specs.Exact.{number_in, table_by}

-- ---- push, fire, run, run by rounds, take
sixteen : (n : ℕ) → leb 16 n ≡ not (ltb n 16)
sixteen n = go (ltb n 16) refl
  where
    go : (b : Bool) → ltb n 16 ≡ b → leb 16 n ≡ not b
    go true e = lt-leb 16 n (ltb-true n 16 e)
    go false e = le-leb 16 n (ltb-false n 16 e)

push-order : (s v i u r : Bool) (m m' : List ℕ) → (pick (eqb (pick s 11 (pick v 0 31)) 0)
    (pick i (pick u (pick r (outcome (answers 0 0) m') (outcome (refusal Full) m)) (outcome (refusal Untaken) m)) (outcome (refusal Set) m))
    (outcome (answers (pick s 11 (pick v 0 31)) 0) m)).answer.refusal
    ≡ first-refusal ((s, Memory) ∷ (not v, Altered) ∷ (not i, Set) ∷ (not u, Untaken) ∷ (not r, Full) ∷ [])
unfolding first-refusal
push-order true v i u r m m' = refl
push-order false false i u r m m' = refl
push-order false true false u r m m' = refl
push-order false true true false r m m' = refl
push-order false true true true false m m' = refl
push-order false true true true true m m' = refl

-- 11, 31, 12, 32, 33
pub push-exact : (m set : List ℕ) → (pushed m set).answer.refusal ≡ first-refusal (push_table m set)
unfolding pushed standing
push-exact m set =
    push-order (short m) (valid m) (set_ok (stored_kinds m) set) (ltb (untaken_of m) 16) (rooms_ok m (size_in m) (inputs_of m)) m (pushed_memory m set)
    ∙ ap (λ (b : Bool). first-refusal ((short m, Memory) ∷ (altered m, Altered) ∷ (no-set m set, Set) ∷ (b, Untaken) ∷ (link-full m, Full) ∷ []))
    (sym (sixteen (untaken_of m)))

pub fire-order : (s v a : Bool) (m m' : List ℕ) → (pick (eqb (pick s 11 (pick v 0 31)) 0)
    (pick a (outcome (answers 0 0) m') (outcome (refusal NotAble) m))
    (outcome (answers (pick s 11 (pick v 0 31)) 0) m)).answer.refusal
    ≡ first-refusal ((s, Memory) ∷ (not v, Altered) ∷ (not a, NotAble) ∷ [])
unfolding first-refusal
fire-order true v a m m' = refl
fire-order false false a m m' = refl
fire-order false true false m m' = refl
fire-order false true true m m' = refl

-- 11, 31, 34
pub fire-exact : (m : List ℕ) (i : ℕ) → (fired m i).answer.refusal ≡ first-refusal (fire_table m i)
unfolding fired standing
fire-exact m i = fire-order (short m) (valid m) (ltb i (operators_of m) && able_at m (size_in m) i) m (fired_at m (size_in m) i)

pub run-order : (s v t : Bool) (m m' : List ℕ) (c : ℕ) → (pick (eqb (pick s 11 (pick v 0 31)) 0)
    (pick t (outcome (answers 0 c) m') (outcome (answers 36 c) m'))
    (outcome (answers (pick s 11 (pick v 0 31)) 0) m)).answer.refusal
    ≡ first-refusal ((s, Memory) ∷ (not v, Altered) ∷ (not t, Unfinished) ∷ [])
unfolding first-refusal
run-order true v t m m' c = refl
run-order false false t m m' c = refl
run-order false true false m m' c = refl
run-order false true true m m' c = refl

-- 11, 31, 36
pub run-exact : (m : List ℕ) (firings : ℕ) → (ran m firings).answer.refusal ≡ first-refusal (run_table m firings)
unfolding ran standing ended
run-exact m firings =
    let r : Ran = runs (size_in m) (operators_of m) firings m 0 in
    run-order (short m) (valid m) (still_at r.mem (size_in m) (operators_of m)) m r.mem r.count

rounds-order : (s v t : Bool) (m m' : List ℕ) (r f : ℕ) → (pick (eqb (pick s 11 (pick v 0 31)) 0)
    (rounds-outcome (rounds-answers (pick t 0 36) r f) m')
    (rounds-outcome (rounds-answers (pick s 11 (pick v 0 31)) 0 0) m)).answer.refusal
    ≡ first-refusal ((s, Memory) ∷ (not v, Altered) ∷ (not t, Unfinished) ∷ [])
unfolding first-refusal
rounds-order true v t m m' r f = refl
rounds-order false false t m m' r f = refl
rounds-order false true false m m' r f = refl
rounds-order false true true m m' r f = refl

-- 11, 31, 36
pub rounds-exact : (m : List ℕ) (number : ℕ) → (ran_rounds m number).answer.refusal ≡ first-refusal (rounds_table m number)
unfolding ran_rounds standing rounds-ended
rounds-exact m number =
    let w : Rounded = rounds_from (size_in m) (operators_of m) number m 0 0 in
    rounds-order (short m) (valid m) (still_at w.mem (size_in m) (operators_of m)) m w.mem w.rounds w.firings

pub take-order : (r : Refusal) (o s v t : Bool) (m m' out out' : List ℕ) (k : ℕ) → (pick o (handed (refusal Memory) m out)
    (pick (eqb (pick s 11 (pick v 0 31)) 0)
    (pick t (handed (answers 0 k) m' out') (handed (refusal r) m out))
    (handed (answers (pick s 11 (pick v 0 31)) 0) m out))).answer.refusal
    ≡ first-refusal ((o, Memory) ∷ (s, Memory) ∷ (not v, Altered) ∷ (not t, r) ∷ [])
unfolding first-refusal
take-order r true s v t m m' out out' k = refl
take-order r false true v t m m' out out' k = refl
take-order r false false false t m m' out out' k = refl
take-order r false false true false m m' out out' k = refl
take-order r false false true true m m' out out' k = refl

-- 11, 31, 35
pub take_exact : (m out : List ℕ) → (taken m out).answer.refusal ≡ first-refusal (take_table m out)
unfolding taken standing
take_exact m out =
    take-order NoResult (no_room out) (short m) (valid m) (ltb 0 (untaken_of m) && all_below (results_of m) (result_ready m (size_in m)))
    m (taken_memory m) out (written 16 m (size_in m) (results_of m) out) (results_of m)

-- A test, then others.
pub check-order : (r : Refusal) (c : Check) (v : Verdict) (cs : List Row) → number_in v ≡ first-refusal cs → number_in (after_check r c v) ≡ first-refusal ((failed c, r) ∷ cs)
unfolding after_check first-refusal
check-order r (Ok _) v cs h = h
check-order r (Err row) v cs h = refl

pub first_by : (ts : List Test) (x : Sheet) → number_in (verdict_by ts x) ≡ first-refusal (table_by ts x)
unfolding verdict_by first-refusal
first_by [] x = refl
first_by (t ∷ ts) x = check-order t.refusal (t.check x) (verdict_by ts x) (table_by ts x) (first_by ts x)

pub failed-whole : (b : Bool) → failed (whole b) ≡ not b
failed-whole true = refl
failed-whole false = refl

pub table_is : (s line : List ℕ) → table_by (tests line) (sheet_of s) ≡ sheet_table s line
unfolding tests row_tests formula_tests kind_tests graph_tests sheet_of
table_is s line =
    rw (failed-whole (laid_out s (lines_of s)), failed-whole (few_rows s), failed-whole (line_fits (fields_of s) (row_count s) line), failed-whole (leb (operators_in (fields_of s) (row_count s)) 1024)) refl

-- 1 to 9, 17, 18, 10
pub sheet-exact : (s line : List ℕ) → number_in (verdict_of s line) ≡ first-refusal (sheet_table s line)
unfolding verdict_of
sheet-exact s line = first_by (tests line) (sheet_of s) ∙ ap first-refusal (table_is s line)

reads : (v : Verdict) (f : Figures) → (answer_of (answer_by v f)).refusal ≡ number_in v
unfolding answer_by
reads (Ok _) f = refl
reads (Err why) f = refl

pub read-exact : (s line : List ℕ) → (answer_of (reading_of s line)).refusal ≡ first-refusal (sheet_table s line)
unfolding reading_of
read-exact s line = reads (verdict_of s line) (figures_of s) ∙ sheet-exact s line

-- ---- start
start-order : (s c : Bool) (v : Verdict) (x : Exp) (kinds : List ℕ) (capacity : ℕ) (m : List ℕ) (cs : List Row) → number_in v ≡ first-refusal cs
    → (pick s (begun (startRefusal Memory 0) m) (pick c (by_verdict v x kinds capacity m) (begun (startRefusal Capacity 0) m))).answer.refusal
    ≡ first-refusal ((s, Memory) ∷ (not c, Capacity) ∷ cs)
unfolding first-refusal by_verdict
start-order true c v x kinds capacity m cs h = refl
start-order false false v x kinds capacity m cs h = refl
start-order false true (Ok _) x kinds capacity m cs h = h
start-order false true (Err why) x kinds capacity m cs h = h

-- 11, 14, then the sheet's
pub start-exact : (sheet line : List ℕ) (capacity : ℕ) (m : List ℕ) → (started sheet line capacity m).answer.refusal ≡ first-refusal (start_table sheet line capacity m)
unfolding started
start-exact sheet line capacity m =
    start-order (short-asked capacity m) (leb 1 capacity && leb capacity 16) (verdict_of sheet line) (formula_of sheet) (letters_of (formula_of sheet) line) capacity m
    (sheet_table sheet line) (sheet-exact sheet line)

-- ---- evaluation
-- A table behind another: looked at where the other gives nothing.
pub behind-none : (cs ds : List Row) → first-refusal cs ≡ 0 → first-refusal (cs ++ ds) ≡ first-refusal ds
unfolding first-refusal
behind-none [] ds h = refl
behind-none (c ∷ cs) ds h = go c.0 h (behind-none cs ds)
  where
    go : (b : Bool) → cond b (number_of c.1) (first-refusal cs) ≡ 0 → (first-refusal cs ≡ 0 → first-refusal (cs ++ ds) ≡ first-refusal ds)
        → cond b (number_of c.1) (first-refusal (cs ++ ds)) ≡ first-refusal ds
    go true e ih = absurd (omega (arith, number-positive c.1))
    go false e ih = ih e

pub behind-some : (cs ds : List Row) (n : ℕ) → 1 ≤ n → n ≡ first-refusal cs → n ≡ first-refusal (cs ++ ds)
unfolding first-refusal
behind-some [] ds n p h = absurd (omega arith)
behind-some (c ∷ cs) ds n p h = go c.0 h (behind-some cs ds n p)
  where
    go : (b : Bool) → n ≡ cond b (number_of c.1) (first-refusal cs) → (n ≡ first-refusal cs → n ≡ first-refusal (cs ++ ds))
        → n ≡ cond b (number_of c.1) (first-refusal (cs ++ ds))
    go true e ih = e
    go false e ih = ih e

concludes : (rounds : ℕ) (o : Outcome) → number_in (concluded rounds o).verdict ≡ first-refusal ((is-unfinished o, Unfinished) ∷ [])
unfolding concluded first-refusal
concludes rounds (yields vs left) = refl
concludes rounds Outcome.unfinished = refl

-- What evaluation says of an accepted sheet: 12, then 36.
set-order : (x : Exp) (rounds : ℕ) (o : Option (List Value))
    → number_in (evaluated_with x rounds o).verdict ≡ first-refusal ((is_none o, Set) ∷ (lacking x rounds o, Unfinished) ∷ [])
unfolding first-refusal
set-order x rounds (some vs) = concludes rounds (eval_e x (inputs_hold (free_e x) vs) rounds)
set-order x rounds none = refl

verdict-order : (v : Verdict) (e : Evaluation) (cs ds : List Row) → number_in v ≡ first-refusal cs → number_in e.verdict ≡ first-refusal ds
    → number_in (after_verdict v e).verdict ≡ first-refusal (cs ++ ds)
verdict-order (Ok _) e cs ds h k = k ∙ sym (behind-none cs ds (sym h))
verdict-order (Err why) e cs ds h k = behind-some cs ds (number_of why.refusal) (number-positive why.refusal) h

-- the sheet's, 12, 36
pub evaluation-exact : (sheet line set : List ℕ) (rounds : ℕ)
    → number_in (evaluation_of sheet line set rounds).verdict
    ≡ first-refusal (sheet_table sheet line ++ ((no-values sheet line set, Set) ∷ (rounds-lacking sheet line set rounds, Unfinished) ∷ []))
unfolding evaluation_of evaluated
evaluation-exact sheet line set rounds =
    let kinds = letters_of (formula_of sheet) line in
    verdict-order (verdict_of sheet line) (evaluated (formula_of sheet) kinds set rounds) (sheet_table sheet line) _ (sheet-exact sheet line)
    (set-order (formula_of sheet) rounds (set_values kinds set))

told-order : (s : Bool) (v : Verdict) (e : Evaluation) (out : List ℕ) (cs : List Row) → number_in v ≡ first-refusal cs
    → (pick s (evaluate-handed (evaluate-answers 11 0 0 0) out) (told v e out)).answer.refusal ≡ first-refusal ((s, Memory) ∷ cs)
unfolding told first-refusal
told-order true v e out cs h = refl
told-order false (Ok _) e out cs h = h
told-order false (Err why) e out cs h = h

-- 11, the sheet's, 12, 36
pub evaluate-exact : (sheet line set : List ℕ) (rounds : ℕ) (out : List ℕ)
    → (handed_out sheet line set rounds out).answer.refusal ≡ first-refusal (evaluate_table sheet line set rounds out)
unfolding handed_out
evaluate-exact sheet line set rounds out =
    told-order (no_room out) (evaluation_of sheet line set rounds).verdict (evaluation_of sheet line set rounds) out _ (evaluation-exact sheet line set rounds)
