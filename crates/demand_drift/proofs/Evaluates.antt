-- Laws of specs/Evaluates.antt, and what only they need.
use Prim.Native.Nat.{ℕ, zero, suc, ◌-◌, ◌*◌, ◌≤◌, ◌<◌}
use Rattle.std.specs.Prelude.{◌≡◌, Bool, true, false, List, [], ◌∷◌, ◌++◌, map, ltb, length, get_or, replicate, Ok, Err}
use Rattle.std.proofs.Math.Path.{refl}
use Rattle.std.proofs.Common.{sym, ap, subst, ◌∙◌, ltb-false, le-ltb, arith}
use Rattle.std.proofs.Math.Option.{Option, some, none}
use Rattle.std.proofs.Math.Decide.{ℕ_discrete}
use Rattle.value.specs.declared.Value.{Value}
use Rattle.value.specs.Operators.{pick}
use Rattle.value.specs.Bytes.{InRange, value_of, word_of, word_at, stored}
use Rattle.value.specs.Senses.{err}
use Rattle.value.proofs.Words.{value-of-word, word_lt, length-stored, word-stored, word-before}
use Rattle.value_sets.specs.Sets.{set_values}
use Rattle.formula.specs.declared.Refusal.TheVariants.{Memory, Set, Unfinished}
use Rattle.formula.specs.Results.{Verdict}
use Rattle.formula.specs.Refusals.{number_of}
use Rattle.formula.proofs.Refusals.{number-positive}
use Rattle.formula.specs.Tree.{Exp, formula_of}
use Rattle.formula.specs.Free.{free_e}
use Rattle.formula.specs.Faults.{letters_of}
use Rattle.formula.specs.Tests.{verdict_of}
use Rattle.meaning.specs.declared.Cell.{Cell}
use Rattle.meaning.specs.declared.Evaluation.{Evaluation}
use Rattle.meaning.specs.Meaning.{Outcome, yields, inputs_hold, eval_e}
use Rattle.meaning.specs.Evaluate.{cell, cells_of, concluded, evaluated_with, evaluated, after_verdict, evaluation_of}
use Rattle.eval_sheet.specs.Handed.{Handed, answers, handed, written, told, handed_out}
use Rattle.demand_drift.specs.Evaluates.{refusal_in}

outcome-ends : (rounds : ℕ) (o : List ℕ) (p : Outcome) → refusal_in (concluded rounds p) o ≡ 0 → (w : List Value) × (left : ℕ) × (p ≡ yields w left)
unfolding told concluded
outcome-ends rounds o (yields w left) h = (w, left, refl)
outcome-ends rounds o Outcome.unfinished h = absurd (omega (arith, number-positive Unfinished, h))

set_reads : (x : Exp) (rounds : ℕ) (o : List ℕ) (s : Option (List Value)) → refusal_in (evaluated_with x rounds s) o ≡ 0
    → (v : List Value) × (s ≡ some v) × (refusal_in (concluded rounds (eval_e x (inputs_hold (free_e x) v) rounds)) o ≡ 0)
unfolding told
set_reads x rounds o (some v) h = (v, refl, h)
set_reads x rounds o none h = absurd (omega (arith, number-positive Set, h))

verdict-passes : (v : Verdict) (e : Evaluation) (o : List ℕ) → refusal_in (after_verdict v e) o ≡ 0 → (v ≡ Ok tt) × (refusal_in e o ≡ 0)
unfolding told
verdict-passes (Ok _) e o h = (refl, h)
verdict-passes (Err why) e o h = absurd (omega (arith, number-positive why.refusal, h))

room-enough : (o : List ℕ) (done : Handed) → (pick (ltb (length o) 80) (handed (answers (number_of Memory) 0 0 0) o) done).answer.refusal ≡ 0
    → (80 ≤ length o) × (done.answer.refusal ≡ 0)
room-enough o done h = go (ltb (length o) 80) refl h
  where
    go : (b : Bool) → ltb (length o) 80 ≡ b → (pick b (handed (answers (number_of Memory) 0 0 0) o) done).answer.refusal ≡ 0 → (80 ≤ length o) × (done.answer.refusal ≡ 0)
    go true e h = absurd (omega (arith, number-positive Memory, h))
    go false e h = (ltb-false (length o) 80 e, h)

module _ (sheet line set : List ℕ) (rounds : ℕ) (o : List ℕ) where
  abbrev x : Exp
  x = formula_of sheet

  abbrev kinds : List ℕ
  kinds = letters_of (formula_of sheet) line

  -- The sheet passes; the set's values and the formula's; the answer and every byte.
  pub record Evaluates : Type 0 where
    pub inputs : List Value
    pub results : List Value
    pub left : ℕ
    pub room : 80 ≤ length o
    pub passes : verdict_of sheet line ≡ Ok tt
    pub read : set_values kinds set ≡ some inputs
    pub ends : eval_e x (inputs_hold (free_e x) inputs) rounds ≡ yields results left

  pub evaluates : (handed_out sheet line set rounds o).answer.refusal ≡ 0 → Evaluates
  unfolding handed_out evaluation_of evaluated
  evaluates h =
      let a = room-enough o _ h in
      let b = verdict-passes (verdict_of sheet line) _ o a.1 in
      let c = set_reads x rounds o (set_values kinds set) b.1 in
      let d = outcome-ends rounds o (eval_e x (inputs_hold (free_e x) c.0) rounds) c.2 in
      record { inputs = c.0; results = d.0; left = d.1; room = a.0; passes = b.0; read = c.1; ends = d.2 }

  pub evaluates-says : (e : Evaluates) → handed_out sheet line set rounds o ≡ handed (answers 0 0 (length e.results) (rounds - e.left)) (written 16 (cells_of e.results) o)
  unfolding handed_out told evaluation_of evaluated concluded
  evaluates-says e = rw (le-ltb (length o) 80 e.room, e.passes, e.read, e.ends) refl

  pub accepts : Evaluates → (handed_out sheet line set rounds o).answer.refusal ≡ 0
  accepts e = ap (λ (h : Handed). h.answer.refusal) (evaluates-says e)

  pub evaluates-enough : Evaluates → (evaluation_of sheet line set rounds).verdict ≡ Ok tt
  unfolding evaluation_of evaluated concluded
  evaluates-enough e = rw (e.passes, e.read, e.ends) refl

-- ---- the bytes of the result set
cells_at : (w : List Value) (i : ℕ) → (get_or (cells_of w) i (cell err)).v ≡ get_or w i err
unfolding cells_of
cells_at w i = go w (16 - length w) i
  where
    errs : (n i : ℕ) → (get_or (replicate n (cell err)) i (cell err)).v ≡ err
    errs zero i = refl
    errs (suc n) zero = refl
    errs (suc n) (suc i) = errs n i

    go : (w : List Value) (n i : ℕ) → (get_or (map cell w ++ replicate n (cell err)) i (cell err)).v ≡ get_or w i err
    go [] n i = errs n i
    go (v ∷ w) n zero = refl
    go (v ∷ w) n (suc i) = go w n i

module _ (cells : List Cell) (o : List ℕ) where
  length-written : (n : ℕ) → length (written n cells o) ≡ length o
  unfolding written
  length-written zero = refl
  length-written (suc n) = length-stored (written n cells o) (5 * n) (word_of (get_or cells n (cell err)).v) ∙ length-written n

  word-written : (n i : ℕ) → i < n → 5 * n ≤ length o → InRange (get_or cells i (cell err)).v → word_at (written n cells o) (5 * i) ≡ word_of (get_or cells i (cell err)).v
  unfolding written
  word-written zero i l h r = absurd (omega arith)
  word-written (suc n) i l h r = go (ℕ_discrete i n) (λ (m : i < n). word-written n i m (omega arith) r)
    where
      word : ℕ
      word = word_of (get_or cells n (cell err)).v

      go : Dec (i ≡ n) → (i < n → word_at (written n cells o) (5 * i) ≡ word_of (get_or cells i (cell err)).v)
          → word_at (stored (written n cells o) (5 * n) word) (5 * i) ≡ word_of (get_or cells i (cell err)).v
      go (yes e) before =
          rw e (word-stored (written n cells o) (5 * n) word (omega (arith, length-written n)) (word_lt (get_or cells n (cell err)).v (subst (λ (j : ℕ). InRange (get_or cells j (cell err)).v) e r)))
      go (no d) before = word-before (written n cells o) (5 * n) word (5 * i) (omega (arith, d)) ∙ before (omega (arith, d))

-- A result in range is read back from the bytes that the call wrote.
pub result-field : (sheet line set : List ℕ) (rounds : ℕ) (o : List ℕ) (e : Evaluates sheet line set rounds o) (i : ℕ) → i < 16 → InRange (get_or e.results i err)
    → value_of (word_at (handed_out sheet line set rounds o).out (5 * i)) ≡ some (get_or e.results i err)
result-field sheet line set rounds o e i l r =
    let c = cells_at e.results i in
    ap (λ (h : Handed). value_of (word_at h.out (5 * i))) (evaluates-says sheet line set rounds o e)
    ∙ ap value_of (word-written (cells_of e.results) o 16 i l (omega (arith, e.room)) (subst InRange (sym c) r) ∙ ap word_of c)
    ∙ value-of-word (get_or e.results i err) r
