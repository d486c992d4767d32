-- Evaluation for the firmware (document 01, "Direct evaluation is lent rounds and tells those used", and the refusals 11, the
-- reader's, 12, 36 in this order): its answer and every byte of the lent `out` at its end. "A result set is sixteen values carried
-- whole, with its width; places past the width hold err": five bytes a value (value's specs/Bytes). Assumes nothing.
use Rattle.std.specs.Prelude.{ℕ, zero, suc, ◌+◌, ◌*◌, ◌≤◌, ◌<◌, ◌≡◌, List, length, get_or, ltb, Ok, Err}
use Rattle.std.proofs.Math.Path.{refl, ap}
use Rattle.std.proofs.Common.{sym, ◌∙◌, add-one, lt-ltb, le-ltb}
use Rattle.std.proofs.lemmas.List.{get_or_default}
use Rattle.value.specs.Operators.{pick}
use Rattle.value.specs.Bytes.{word_of, stored}
use Rattle.value.specs.Senses.{err}
use Rattle.formula.specs.declared.Refusal.{Refusal}
use Rattle.formula.specs.declared.Refusal.TheVariants.{Memory}
use Rattle.formula.specs.Results.{Verdict, refused}
use Rattle.formula.specs.Refusals.{number_of}
use Rattle.meaning.specs.declared.Cell.{Cell}
use Rattle.meaning.specs.declared.Evaluation.{Evaluation}
use Rattle.meaning.specs.Evaluate.{cell, evaluation_of}
use Rattle.eval_sheet.specs.declared.EvaluateAnswer.{EvaluateAnswer}

-- The answer with the bytes lent for the result set.
pub record Handed : Type 0 where
  pub answer : EvaluateAnswer
  pub out : List ℕ

abbrev pub answers : ℕ → ℕ → ℕ → ℕ → EvaluateAnswer
answers refusal row width rounds = record { refusal = refusal; row = row; width = width; rounds = rounds }

abbrev pub handed : EvaluateAnswer → List ℕ → Handed
handed a o = record { answer = a; out = o }

-- The first j values of a result set written, five bytes each; every other byte as it was.
unfoldable pub written : ℕ → List Cell → List ℕ → List ℕ
unfolding stored word_of
written zero cells o = o
written (suc j) cells o = stored (written j cells o) (5 * j) (word_of (get_or cells j (cell err)).v)

-- "A refusal's counts and rows are 0 unless stated": it gives its number and row, and leaves every byte as it was.
unfoldable pub told : Verdict → Evaluation → List ℕ → Handed
unfolding written
told (Ok _) e o = handed (answers 0 0 e.width e.rounds) (written 16 e.cells o)
told (Err why) e o = handed (answers (number_of why.refusal) why.row 0 0) o

-- 11 where the result set has no room, before all else.
unfoldable pub handed_out : List ℕ → List ℕ → List ℕ → ℕ → List ℕ → Handed
unfolding told evaluation_of
handed_out sheet line set rounds o =
    let e : Evaluation = evaluation_of sheet line set rounds in
    let done : Handed = told e.verdict e o in
    pick (ltb (length o) 80) (handed (answers (number_of Memory) 0 0 0) o) done

-- ---- laws: the writing step by step, and each ending of the call

pub written_none : (cells : List Cell) (o : List ℕ) → o ≡ written 0 cells o
unfolding written
written_none cells o = refl

pub written-more : (cells : List Cell) (o : List ℕ) (j : ℕ) (d : Cell) → j < length cells
    → written (j + 1) cells o ≡ stored (written j cells o) (5 * j) (word_of (get_or cells j d).v)
unfolding written
written-more cells o j d h =
    ap (λ (k : ℕ). written k cells o) (add-one j)
    ∙ ap (λ (c : Cell). stored (written j cells o) (5 * j) (word_of c.v)) (get_or_default cells j (cell err) d h)

module _ (sheet line set : List ℕ) (rounds : ℕ) (o : List ℕ) where
  pub handed-short : length o < 80 → handed (answers (number_of Memory) 0 0 0) o ≡ handed_out sheet line set rounds o
  unfolding handed_out
  handed-short h = rw (lt-ltb (length o) 80 h) refl

  pub handed-told : 80 ≤ length o → told (evaluation_of sheet line set rounds).verdict (evaluation_of sheet line set rounds) o ≡ handed_out sheet line set rounds o
  unfolding handed_out
  handed-told h = rw (le-ltb (length o) 80 h) refl

  pub handed-refused : 80 ≤ length o → (r : Refusal) (row : ℕ) → (evaluation_of sheet line set rounds).verdict ≡ refused r row
      → handed (answers (number_of r) row 0 0) o ≡ handed_out sheet line set rounds o
  unfolding told
  handed-refused h r row v = ap (λ (z : Verdict). told z (evaluation_of sheet line set rounds) o) (sym v) ∙ handed-told h

  pub handed-passed : 80 ≤ length o → (e : Evaluation) → e ≡ evaluation_of sheet line set rounds → e.verdict ≡ Ok tt
      → handed (answers 0 0 e.width e.rounds) (written 16 e.cells o) ≡ handed_out sheet line set rounds o
  unfolding told
  handed-passed h e p v =
      ap (λ (z : Verdict). told z e o) (sym v) ∙ ap (λ (z : Evaluation). told z.verdict z o) p ∙ handed-told h
