-- Laws of specs/TakenNear.antt, and what only they need.
use Rattle.std.specs.Prelude.{ℕ, ◌+◌, ◌*◌, ◌≤◌, ◌<◌, ◌≡◌, refl, true, List, [], length, get_or, take as first_of}
use Rattle.std.proofs.Common.{sym, ap, ◌∙◌, get_or-take, arith}
use Rattle.std.proofs.lemmas.List.{length-replicate}
use Rattle.value.specs.Bytes.{word_at}
use Rattle.value_sets.specs.Sets.{set_ok}
use Rattle.formula.specs.Tree.{formula_of}
use Rattle.formula.specs.Faults.{letters_of}
use Rattle.machine_start.specs.Start.{started}
use Rattle.demand.specs.MemoryCalls.{Call, Result, result, sets_pushed, results_taken}
use Rattle.demand.specs.Claim.{Enough}
use Rattle.demand.proofs.Demand3.{demand-3}
use Rattle.demand.proofs.PushedSets.{pushed-is-set}
use Rattle.demand.proofs.Evaluated.{take-writes-evaluation}
use Rattle.eval_sheet.specs.Handed.{handed_out}
use Rattle.sheet_drift.specs.Drifting.{drifted_into}
use Rattle.demand_drift.specs.Fields.{NearFields, WithinTolerance}
use Rattle.demand_drift.proofs.Evaluates.{evaluates, evaluates-enough}
use Rattle.demand_drift.proofs.EvaluatedNear.{evaluation-always-ends, evaluated-width, evaluated-near, few-results}
use Rattle.demand_drift.specs.TakenNear.{room}

-- The first sixteen values lie in the first eighty bytes.
word_first : (l : List ℕ) (i : ℕ) → i < 16 → word_at (first_of 80 l) (5 * i) ≡ word_at l (5 * i)
unfolding word_at
word_first l i h =
    rw (
      get_or-take 80 l (5 * i) 0 (omega (arith, h)),
      get_or-take 80 l (5 * i + 1) 0 (omega (arith, h)),
      get_or-take 80 l (5 * i + 2) 0 (omega (arith, h)),
      get_or-take 80 l (5 * i + 3) 0 (omega (arith, h)),
      get_or-take 80 l (5 * i + 4) 0 (omega (arith, h)),
    ) refl

enough-room : 80 ≤ length room
enough-room = omega (arith, length-replicate {A = ℕ} 80 0)

module _ (sheet line tolerances out : List ℕ) (h : (drifted_into sheet line tolerances out).answer.refusal ≡ 0) where
  -- ---- one machine
  module _ (capacity : ℕ) (memory : List ℕ) (starts : (started sheet line capacity memory).answer.refusal ≡ 0) (calls : List Call) where
    abbrev sets : List (List ℕ)
    sets = sets_pushed calls (started sheet line capacity memory).mem

    abbrev results : List Result
    results = results_taken calls (started sheet line capacity memory).mem

    abbrev kinds : List ℕ
    kinds = letters_of (formula_of sheet) line

    is_set : (k : ℕ) → k < length results → set_ok kinds (get_or sets k []) ≡ true
    is_set k l = pushed-is-set sheet line capacity memory starts calls k (omega (arith, l, (demand-3 sheet line capacity memory starts calls).none-invented))

    accepted : (set : List ℕ) → set_ok kinds set ≡ true → (handed_out sheet line set 0 room).answer.refusal ≡ 0
    accepted set ok = evaluation-always-ends sheet line tolerances out h set ok 0 room enough-room

    enough : (set : List ℕ) → set_ok kinds set ≡ true → Enough sheet line set 0
    enough set ok = evaluates-enough sheet line set 0 room (evaluates sheet line set 0 room (accepted set ok))

    evaluated : (k : ℕ) → k < length results → (handed_out sheet line (get_or sets k []) 0 room).answer.refusal ≡ 0
    evaluated k l = accepted (get_or sets k []) (is_set k l)

    -- What is taken is what evaluation writes.
    same : (k : ℕ) → k < length results
        → ((handed_out sheet line (get_or sets k []) 0 room).answer.width ≡ (get_or results k (result 0 [])).width)
        × (first_of 80 (handed_out sheet line (get_or sets k []) 0 room).out ≡ (get_or results k (result 0 [])).bytes)
    same k l =
        let e = take-writes-evaluation sheet line capacity memory starts calls k l 0 (enough (get_or sets k []) (is_set k l)) room enough-room in
        (e.1, e.2)

    field-taken : (k : ℕ) → k < length results → (i : ℕ) → i < 16
        → word_at (get_or results k (result 0 [])).bytes (5 * i) ≡ word_at (handed_out sheet line (get_or sets k []) 0 room).out (5 * i)
    field-taken k l i m = ap (λ (b : List ℕ). word_at b (5 * i)) (sym (same k l).1) ∙ word_first (handed_out sheet line (get_or sets k []) 0 room).out i m

    -- Drift tells a number for each value of a result taken.
    pub taken-width : (k : ℕ) → k < length (results_taken calls (started sheet line capacity memory).mem)
        → (get_or (results_taken calls (started sheet line capacity memory).mem) k (result 0 [])).width ≡ (drifted_into sheet line tolerances out).answer.results
    taken-width k l = sym (same k l).0 ∙ evaluated-width sheet line tolerances out h (get_or sets k []) 0 room (evaluated k l)

  -- ---- two lists of calls
  -- NO VERDICT TAKEN LIES FURTHER FROM ANOTHER THAN DRIFT TELLS. Sets and results count from 0.
  pub taken-near : (capacity capacity' : ℕ) (memory memory' : List ℕ)
      → (started sheet line capacity memory).answer.refusal ≡ 0 → (started sheet line capacity' memory').answer.refusal ≡ 0 → (calls calls' : List Call) (k j : ℕ)
      → k < length (results_taken calls (started sheet line capacity memory).mem) → j < length (results_taken calls' (started sheet line capacity' memory').mem)
      → WithinTolerance tolerances (get_or (sets_pushed calls (started sheet line capacity memory).mem) k []) (get_or (sets_pushed calls' (started sheet line capacity' memory').mem) j [])
      → NearFields (drifted_into sheet line tolerances out).answer.results (drifted_into sheet line tolerances out).out
      (get_or (results_taken calls (started sheet line capacity memory).mem) k (result 0 [])).bytes
      (get_or (results_taken calls' (started sheet line capacity' memory').mem) j (result 0 [])).bytes
  taken-near capacity capacity' memory memory' starts starts' calls calls' k j l l' within i m =
      let n : i < 16 = omega (arith, m, few-results sheet line tolerances out h) in
      rw (field-taken capacity memory starts calls k l i n, field-taken capacity' memory' starts' calls' j l' i n)
      (evaluated-near sheet line tolerances out h (get_or (sets capacity memory starts calls) k []) (get_or (sets capacity' memory' starts' calls') j []) within 0 0 room room
      (evaluated capacity memory starts calls k l) (evaluated capacity' memory' starts' calls' j l') i m)
