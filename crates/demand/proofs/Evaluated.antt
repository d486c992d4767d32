-- The firmware's two ways to a verdict, byte for byte: the eighty bytes that the k-th take wrote are the first eighty that evaluation of the k-th set writes
-- (eval_sheet/specs/Handed `handed_out`, the contract of bench_evaluate), and both tell the same width. Claim and Alone compare with the result set's bytes; here
-- they are those that evaluation stores cell by cell. Document 01, "the result taken equals its result set in width and all sixteen places". Assumes an accepted
-- start, and rounds and room enough for the evaluation of the k-th set.
use Rattle.std.specs.Prelude.{ℕ, zero, suc, ◌+◌, ◌-◌, ◌*◌, ◌≤◌, ◌<◌, ◌≡◌, List, [], ◌++◌, map, length, get_or, drop, take as first_of, replicate, Ok, Err}
use Rattle.std.proofs.Math.Path.{refl, ap}
use Rattle.std.proofs.Common.{sym, ap₂, ◌∙◌, arith, length-append}
use Rattle.std.proofs.Math.Option.{Option, none, some}
use Rattle.std.proofs.lemmas.List.{length-replicate, length-map}
use Rattle.std.proofs.Math.Seq.{take_at}
use Rattle.value.specs.declared.Value.{Value}
use Rattle.value.specs.Bytes.{word_of, stored}
use Rattle.value.specs.Senses.{err}
use Rattle.formula.specs.Results.{Verdict}
use Rattle.formula.specs.Tree.{formula_of}
use Rattle.formula.specs.Free.{free_e}
use Rattle.formula.specs.Faults.{letters_of}
use Rattle.formula.specs.Tests.{verdict_of}
use Rattle.meaning.specs.Meaning.{Outcome, yields, inputs_hold, eval_e}
use Rattle.meaning.specs.declared.Cell.{Cell}
use Rattle.meaning.specs.declared.Evaluation.{Evaluation}
use Rattle.meaning.specs.Evaluate.{cell, cells_of, concluded, evaluated_with, evaluated, after_verdict, evaluation_of}
use Rattle.value_sets.specs.Sets.{set_values}
use Rattle.eval_sheet.specs.Handed.{Handed, written, handed_out, handed-passed}
use Rattle.eval_sheet.specs.Small.{narrow-width}
use Rattle.machine_calls.specs.Written.{stored_out}
use Rattle.demand_ends.specs.ResultBytes.{cell_bytes}
use Rattle.demand_ends.proofs.ResultBytes.{length-cell-bytes, cells-stored}
use Rattle.machine_start.specs.Start.{started}
use Rattle.demand.specs.MemoryCalls.{Call, Result, result, sets_pushed, results_taken}
use Rattle.demand.specs.Claim.{Enough, yielded}
use Rattle.demand.proofs.Alone.{own_alone}

-- ---- a result set has sixteen cells
concluded-sixteen : (rounds : ℕ) (o : Outcome) → (concluded rounds o).width ≤ 16 → length (concluded rounds o).cells ≡ 16
unfolding concluded cells_of
concluded-sixteen rounds (yields vs left) h =
    length-append (map cell vs) (replicate (16 - length vs) (cell err))
    ∙ ap₂ (λ (a b : ℕ). a + b) (length-map vs cell) (length-replicate (16 - length vs) (cell err))
    ∙ omega arith
concluded-sixteen rounds Outcome.unfinished h = refl

sixteen-cells : (sheet line set : List ℕ) (rounds : ℕ) → length (evaluation_of sheet line set rounds).cells ≡ 16
unfolding evaluation_of evaluated
sixteen-cells sheet line set rounds = go (verdict_of sheet line) (set_values (letters_of (formula_of sheet) line) set) (narrow-width sheet line set rounds)
  where
    go : (v : Verdict) (o : Option (List Value)) → (after_verdict v (evaluated_with (formula_of sheet) rounds o)).width ≤ 16
        → length (after_verdict v (evaluated_with (formula_of sheet) rounds o)).cells ≡ 16
    go (Ok _) (some vs) h = concluded-sixteen rounds (eval_e (formula_of sheet) (inputs_hold (free_e (formula_of sheet)) vs) rounds) h
    go (Ok _) none h = refl
    go (Err why) o h = refl

-- ---- what evaluation writes
written-stored : (cells : List Cell) (o : List ℕ) (j : ℕ) → written j cells o ≡ stored_out j (λ i. word_of (get_or cells i (cell err)).v) o
unfolding written
written-stored cells o zero = refl
written-stored cells o (suc j) = ap (λ (x : List ℕ). stored x (5 * j) (word_of (get_or cells j (cell err)).v)) (written-stored cells o j)

-- The first eighty bytes are the cells', the others are as they were.
pub written-cells : (cells : List Cell) (o : List ℕ) → length cells ≡ 16 → 80 ≤ length o → written 16 cells o ≡ cell_bytes cells ++ drop 80 o
written-cells cells o n h =
    written-stored cells o 16
    ∙ ap (λ (j : ℕ). stored_out j (λ i. word_of (get_or cells i (cell err)).v) o) (sym n)
    ∙ cells-stored cells o (omega arith)
    ∙ ap (λ (j : ℕ). cell_bytes cells ++ drop (5 * j) o) n

module _ (sheet line set : List ℕ) (rounds : ℕ) (enough : Enough sheet line set rounds) (out : List ℕ) (room : 80 ≤ length out) where
  abbrev evaluation : Evaluation
  evaluation = evaluation_of sheet line set rounds

  abbrev answered : Handed
  answered = handed_out sheet line set rounds out

  -- What evaluation hands to the firmware is what it yields.
  pub evaluation-hands : (answered.answer.refusal ≡ 0) × (result answered.answer.width (first_of 80 answered.out) ≡ yielded evaluation)
  unfolding yielded
  evaluation-hands =
      let e = handed-passed sheet line set rounds out room evaluation refl enough in
      let n = sixteen-cells sheet line set rounds in (
        ap (λ (h : Handed). h.answer.refusal) (sym e),
        ap (λ (h : Handed). result h.answer.width (first_of 80 h.out)) (sym e)
            ∙ ap (result evaluation.width)
            (ap (first_of 80) (written-cells evaluation.cells out n room)
            ∙ take_at (cell_bytes evaluation.cells) (drop 80 out) 80 (length-cell-bytes evaluation.cells ∙ ap (λ (j : ℕ). 5 * j) n)),
      )

-- ---- the k-th take
module _ (sheet line : List ℕ) (capacity : ℕ) (memory : List ℕ) (h : (started sheet line capacity memory).answer.refusal ≡ 0) (calls : List Call) where
  abbrev sets : List (List ℕ)
  sets = sets_pushed calls (started sheet line capacity memory).mem

  abbrev results : List Result
  results = results_taken calls (started sheet line capacity memory).mem

  -- THE SAME BYTES. Sets and results count from 0.
  pub take-writes-evaluation : (k : ℕ) → k < length results → (rounds : ℕ) → Enough sheet line (get_or sets k []) rounds → (out : List ℕ) → 80 ≤ length out
      → ((handed_out sheet line (get_or sets k []) rounds out).answer.refusal ≡ 0)
      × ((handed_out sheet line (get_or sets k []) rounds out).answer.width ≡ (get_or results k (result 0 [])).width)
      × (first_of 80 (handed_out sheet line (get_or sets k []) rounds out).out ≡ (get_or results k (result 0 [])).bytes)
  take-writes-evaluation k l rounds enough out room =
      let e = evaluation-hands sheet line (get_or sets k []) rounds enough out room in
      let same = e.1 ∙ sym (own_alone sheet line capacity memory h calls k l rounds enough) in
      (e.0, ap (λ (r : Result). r.width) same, ap (λ (r : Result). r.bytes) same)
