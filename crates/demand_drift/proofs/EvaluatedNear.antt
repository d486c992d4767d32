-- Document 02, Job 13, OVER THE CALLS' OWN BYTES: "Two sets are within tolerance when each input is err in either or differs by no more than its tolerance. Then
-- each result that is err in neither set moves no further than its number." Drift is sheet_drift's specs/Drifting `drifted_into`, evaluation eval_sheet's
-- specs/Handed `handed_out`, the definitions that the contracts of the two calls cite. Assumes an accepted drift and nothing else: evaluation of a set of
-- the sheet's kinds is then always accepted, with any rounds.
use Rattle.std.specs.Prelude.{ℕ, ◌*◌, ◌/◌, ◌≤◌, ◌<◌, ◌≡◌, Bool, List, get_or, Ok, Err}
use Rattle.std.proofs.Math.Path.{refl}
use Rattle.std.proofs.Common.{sym, ap, ◌∙◌, ltb-false, le-ltb, arith}
use Rattle.std.proofs.Math.Bool.{true, false}
use Rattle.std.proofs.Math.Option.{some}
use Rattle.std.proofs.Math.Dec.{ltb}
use Rattle.std.proofs.Math.ListN.{length, length-take, get_or-eq_default}
use Rattle.std.proofs.lemmas.List.Edits.{sets}
use Rattle.std.proofs.Math.Decide.{dec_lt}
use Rattle.value.specs.declared.Reason.TheVariants.{Other}
use Rattle.value.specs.declared.Value.{Value}
use Rattle.value.specs.Operators.{pick}
use Rattle.value.specs.Bytes.{InRange, value_of, word_at}
use Rattle.value.specs.Senses.{err}
use Rattle.value.proofs.Words.{value-of-word}
use Rattle.names.specs.Names.{below}
use Rattle.value_sets.specs.Sets.{set_ok, IsSet}
use Rattle.value_sets.proofs.Sets.{values-set, set_values_lem}
use Rattle.formula.specs.declared.Refusal.TheVariants.{Memory}
use Rattle.formula.specs.Results.{Verdict}
use Rattle.formula.specs.Refusals.{number_of}
use Rattle.formula.proofs.Refusals.{number-positive}
use Rattle.formula.specs.Tree.{Exp, formula_of}
use Rattle.formula.specs.Free.{free_e, inputs_of}
use Rattle.formula.specs.Faults.{letters_of}
use Rattle.formula.specs.Widths.{width}
use Rattle.formula.specs.Tests.{figures_of}
use Rattle.formula.specs.Acceptance.{Admissible}
use Rattle.formula.proofs.Acceptance.{modest}
use Rattle.meaning.specs.Meaning.{inputs_hold}
use Rattle.meaning.specs.WidthLaws.{SoundE}
use Rattle.meaning.proofs.WidthLaws.{sized}
use Rattle.meaning.proofs.Loopless.{loopless-ends}
use Rattle.meaning.proofs.Accepted.{has-rows, formula-sound}
use Rattle.theory_verdicts.proofs.Admitting.{accepted-admitted}
use Rattle.eval_sheet.specs.Handed as Evaluation
use Rattle.eval_sheet.specs.Handed.{handed_out}
use Rattle.sheet_movement.specs.Moves.{number_at, number_bytes, input_moves, result_moves, drift_verdict}
use Rattle.sheet_movement.specs.Drifts.{Drifts}
use Rattle.sheet_movement.proofs.Numbers.{number_read, moves-width}
use Rattle.sheet_movement.proofs.Passed.{drift-reads, drift-admissible, drift-formula, drift-tolerances, drift-numbers}
use Rattle.sheet_movement.specs.Near.{Near, left}
use Rattle.sheet_movement.proofs.Sound.{drifts-loopless, near-at, moves-near}
use Rattle.sheet_movement.specs.Sound.{AllNear, NearEnv}
use Rattle.sheet_movement.specs.Ranged.{AllRanged, RangedEnv}
use Rattle.sheet_movement.proofs.Ranged.{evaluation-ranged}
use Rattle.sheet_drift.specs.Drifting.{Handed, handed, answers, by_verdict, drifted_into}
use Rattle.demand_drift.specs.Fields.{NearFields, WithinTolerance}
use Rattle.demand_drift.proofs.Evaluates.{Evaluates, evaluates, accepts, evaluates-says, result-field}

-- ---- an accepted drift
verdict-passed : (v : Verdict) (s tolerances out : List ℕ) → (by_verdict v s tolerances out).answer.refusal ≡ 0 → v ≡ Ok tt
unfolding by_verdict
verdict-passed (Ok _) s tolerances out h = refl
verdict-passed (Err why) s tolerances out h = absurd (omega (arith, number-positive why.refusal, h))

-- ---- the values of sets
-- The i-th value of a set is what its bytes there hold.
set-field : (kinds set : List ℕ) (v : List Value) → IsSet kinds set v → (j : ℕ) → j < length kinds → value_of (word_at set (5 * j)) ≡ some (get_or v j err)
set-field kinds set v s j l = ap value_of (s.words j l) ∙ value-of-word (get_or v j err) (s.ranged j l)

past-err : (kinds set : List ℕ) (v : List Value) → IsSet kinds set v → (j : ℕ) → (j < length kinds → ⊥) → get_or v j err ≡ err
past-err kinds set v s j n = get_or-eq_default v err (omega (arith, s.count, n))

set-ranged : (kinds set : List ℕ) (v : List Value) → IsSet kinds set v → AllRanged v
set-ranged kinds set v s j = go (dec_lt j (length kinds))
  where
    go : Dec (j < length kinds) → InRange (get_or v j err)
    go (yes l) = s.ranged j l
    go (no n) = rw (past-err kinds set v s j n) tt

module _ (sheet line tolerances out : List ℕ) (h : (drifted_into sheet line tolerances out).answer.refusal ≡ 0) where
  abbrev x : Exp
  x = formula_of sheet

  abbrev kinds : List ℕ
  kinds = letters_of (formula_of sheet) line

  abbrev numbers : List ℕ
  numbers = result_moves sheet tolerances

  abbrev drifted : Handed
  drifted = drifted_into sheet line tolerances out

  room-and-verdict : (64 ≤ length out) × (drift_verdict sheet line tolerances ≡ Ok tt)
  unfolding drifted_into
  room-and-verdict = go (ltb (length out) 64) refl h
    where
      go : (b : Bool) → ltb (length out) 64 ≡ b
          → (pick b (handed (answers (number_of Memory) 0 0) out) (by_verdict (drift_verdict sheet line tolerances) sheet tolerances out)).answer.refusal ≡ 0
          → (64 ≤ length out) × (drift_verdict sheet line tolerances ≡ Ok tt)
      go true e k = absurd (omega (arith, number-positive Memory, k))
      go false e k = (ltb-false (length out) 64 e, verdict-passed (drift_verdict sheet line tolerances) sheet tolerances out k)

  passed : drift_verdict sheet line tolerances ≡ Ok tt
  passed = room-and-verdict.1

  says : drifted ≡ handed (answers 0 0 (length numbers)) (sets out 0 (number_bytes numbers))
  unfolding drifted_into by_verdict
  says = rw (le-ltb (length out) 64 room-and-verdict.0, passed) refl

  admissible : Admissible sheet
  admissible = drift-admissible sheet line tolerances passed

  sound : SoundE x
  sound = formula-sound sheet admissible

  drifts : Drifts x
  drifts = drift-formula sheet line tolerances passed

  -- As many numbers as the formula's width, sixteen at the most, and each is read back.
  numbers-wide : length numbers ≡ width x
  unfolding result_moves
  numbers-wide = moves-width x drifts (input_moves (free_e x) tolerances)

  few : width x ≤ 16
  unfolding figures_of
  few = (modest sheet (has-rows sheet admissible) admissible).results

  results-told : drifted.answer.results ≡ length numbers
  results-told = ap (λ (d : Handed). d.answer.results) says

  pub few-results : (drifted_into sheet line tolerances out).answer.results ≤ 16
  few-results = omega (arith, results-told, numbers-wide, few)

  number-told : (i : ℕ) → i < length numbers → number_at drifted.out (4 * i) ≡ get_or numbers i 0
  number-told i l =
      ap (λ (d : Handed). number_at d.out (4 * i)) says
      ∙ number_read numbers out (drift-numbers sheet line tolerances passed) (omega (arith, room-and-verdict.0, numbers-wide, few)) i l

  -- ---- evaluation
  -- EVALUATION ALWAYS ENDS, with any rounds, of every set of the sheet's kinds: what is said below of accepted evaluations is said of all sets.
  pub evaluation-always-ends : (set : List ℕ) → set_ok kinds set ≡ true → (rounds : ℕ) (o : List ℕ) → 80 ≤ length o
      → (handed_out sheet line set rounds o).answer.refusal ≡ 0
  evaluation-always-ends set ok rounds o room =
      let s = set_values_lem kinds set ok in
      let e = loopless-ends x (drifts-loopless x drifts) (inputs_hold (free_e x) s.0) rounds in
      accepts sheet line set rounds o
      (record {
        inputs = s.0;
        results = e.0;
        left = rounds;
        room = room;
        passes = drift-reads sheet line tolerances passed;
        read = s.1.values;
        ends = e.1;
      })

  -- Drift tells a number for each of the values that evaluation yields.
  pub evaluated-width : (set : List ℕ) (rounds : ℕ) (o : List ℕ) → (handed_out sheet line set rounds o).answer.refusal ≡ 0
      → (handed_out sheet line set rounds o).answer.width ≡ drifted.answer.results
  evaluated-width set rounds o a =
      let e = evaluates sheet line set rounds o a in
      let n : length e.results ≡ width x = rw e.ends at (sized x sound (inputs_hold (free_e x) e.inputs) rounds) in
      ap (λ (d : Evaluation.Handed). d.answer.width) (evaluates-says sheet line set rounds o e) ∙ n ∙ sym (results-told ∙ numbers-wide)

  module _ (set : List ℕ) (rounds : ℕ) (o : List ℕ) (e : Evaluates sheet line set rounds o) where
    is_set : IsSet kinds set e.inputs
    is_set = values-set kinds set e.inputs e.read

    ranged-env : RangedEnv (inputs_hold (free_e x) e.inputs)
    unfolding inputs_hold
    ranged-env k = set-ranged kinds set e.inputs is_set (below (free_e x) k)

    field_told : (i : ℕ) → i < width x → value_of (word_at (handed_out sheet line set rounds o).out (5 * i)) ≡ some (get_or e.results i err)
    field_told i l =
        result-field sheet line set rounds o e i (omega (arith, l, few))
        (evaluation-ranged x drifts (accepted-admitted sheet admissible) (inputs_hold (free_e x) e.inputs) ranged-env rounds e.left e.results e.ends i)

  -- ---- two sets within tolerance
  module _ (u v : List ℕ) (within : WithinTolerance tolerances u v) where
    letters-few : length kinds ≤ length tolerances / 4
    unfolding letters_of
    letters-few = omega (arith, length-take (length (inputs_of x)) line, drift-tolerances sheet line tolerances passed)

    inputs-near : (a b : List Value) → IsSet kinds u a → IsSet kinds v b → NearEnv (input_moves (free_e x) tolerances) (inputs_hold (free_e x) a) (inputs_hold (free_e x) b)
    unfolding input_moves inputs_hold
    inputs-near a b s t k = go (below (free_e x) k) (dec_lt (below (free_e x) k) (length kinds))
      where
        go : (j : ℕ) → Dec (j < length kinds) → Near (number_at tolerances (4 * j)) (get_or a j err) (get_or b j err)
        go j (yes l) = rw (set-field kinds u a s j l, set-field kinds v b t j l) at (within j (omega (arith, l, letters-few)))
        go j (no n) = rw (past-err kinds u a s j n) (left Other (get_or b j err))

    module _ (rounds rounds' : ℕ) (o o' : List ℕ) (e : Evaluates sheet line u rounds o) (f : Evaluates sheet line v rounds' o') where
      values-near : AllNear numbers e.results f.results
      unfolding result_moves
      values-near =
          moves-near x drifts sound (input_moves (free_e x) tolerances) (inputs_hold (free_e x) e.inputs) (inputs_hold (free_e x) f.inputs)
          (inputs-near e.inputs f.inputs (is_set u rounds o e) (is_set v rounds' o' f)) rounds e.left rounds' f.left e.results f.results e.ends f.ends

      fields-near : NearFields drifted.answer.results drifted.out (handed_out sheet line u rounds o).out (handed_out sheet line v rounds' o').out
      fields-near i l =
          let m : i < length numbers = omega (arith, l, results-told) in
          let w : i < width x = omega (arith, m, numbers-wide) in
          rw (number-told i m, field_told u rounds o e i w, field_told v rounds' o' f i w) (near-at numbers e.results f.results values-near i)

    -- NO RESULT MOVES FURTHER THAN ITS NUMBER. The rounds and the bytes lent may differ.
    pub evaluated-near : (rounds rounds' : ℕ) (o o' : List ℕ)
        → (handed_out sheet line u rounds o).answer.refusal ≡ 0 → (handed_out sheet line v rounds' o').answer.refusal ≡ 0
        → NearFields (drifted_into sheet line tolerances out).answer.results (drifted_into sheet line tolerances out).out
        (handed_out sheet line u rounds o).out (handed_out sheet line v rounds' o').out
    evaluated-near rounds rounds' o o' a b = fields-near rounds rounds' o o' (evaluates sheet line u rounds o a) (evaluates sheet line v rounds' o' b)
