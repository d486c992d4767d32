-- Demand 3's sentences as one record, for a list of calls from the memory that a start left (document 01, "Running", second part). Direct evaluation is
-- meaning/specs/Evaluate `evaluation_of`, of the sheet's and the set's bytes, which the evaluator's contract cites. Definitions only; assumes nothing.
use Rattle.std.specs.Prelude.{ℕ, ◌≤◌, ◌<◌, ◌≡◌, ◌⊎◌, ◌≢◌, List, [], length, get_or, Ok}
use Rattle.meaning.specs.declared.Evaluation.{Evaluation}
use Rattle.meaning.specs.Evaluate.{evaluation_of}
use Rattle.formula.specs.declared.Refusal.TheVariants.{Altered, NotAble}
use Rattle.formula.specs.Refusals.{number_of}
use Rattle.machine_layout.specs.Layout.{operators_of, size_of, need}
use Rattle.machine_calls.specs.Calls.{answers}
use Rattle.demand_ends.specs.ResultBytes.{cell_bytes}
use Rattle.demand.specs.MemoryCalls.{Call, fire, take, Result, result, answer_of, memory_after_all, answers_of, sets_pushed, results_taken}

-- "Direct evaluation there is the meaning above with as many rounds as it needs"
abbrev pub Enough : List ℕ → List ℕ → List ℕ → ℕ → Type 0
Enough sheet line set rounds = (evaluation_of sheet line set rounds).verdict ≡ Ok tt

-- "and ends if some number is enough"
abbrev pub Ends : List ℕ → List ℕ → List ℕ → Type 0
Ends sheet line set = (rounds : ℕ) × Enough sheet line set rounds

-- What direct evaluation yields, as a take hands it out: its width, and its sixteen places in five bytes each.
unfoldable pub yielded : Evaluation → Result
yielded e = result e.width (cell_bytes e.cells)

-- What demand 3 says of a list of calls. Sets and results count from 0 here.
pub record OwnVerdicts (sheet line : List ℕ) (capacity : ℕ) (start : List ℕ) (calls : List Call) : Type 0 where
  -- "For every k up to the number of results taken since that start: if direct evaluation of each of the first k sets pushed ends, the k-th result taken is
  -- exactly what it yields for the k-th set pushed." "the result taken equals its result set in width and all sixteen places"
  pub own : (k : ℕ) → k < length (results_taken calls start) → ((j : ℕ) → j ≤ k → Ends sheet line (get_or (sets_pushed calls start) j []))
      → (rounds : ℕ) → Enough sheet line (get_or (sets_pushed calls start) k []) rounds
      → get_or (results_taken calls start) k (result 0 []) ≡ yielded (evaluation_of sheet line (get_or (sets_pushed calls start) k []) rounds)
  -- Every result taken is that of a pushed set.
  pub none-invented : length (results_taken calls start) ≤ length (sets_pushed calls start)
  -- "And when nothing can fire, either every pushed set has been taken, or the oldest untaken one has its whole result ready to take." "Nothing can fire when
  -- each operator would get 34; a whole result is ready when a take would be accepted." The fires are lent the whole memory; the take any number of bytes that
  -- a machine needs, and room for its result.
  pub ready : ((i : ℕ) → i < operators_of (memory_after_all calls start)
      → (answer_of (fire (length (memory_after_all calls start)) i) (memory_after_all calls start)).refusal ≡ number_of NotAble)
      → (length (results_taken calls start) ≡ length (sets_pushed calls start))
      ⊎ ((lent : ℕ) (out : List ℕ) → need (size_of capacity) ≤ lent → 80 ≤ length out → (answer_of (take lent out) (memory_after_all calls start)).refusal ≡ 0)
  -- 31 "never given for a machine that start made and nothing but its calls has touched since"
  pub never-altered : (k : ℕ) → k < length (answers_of calls start) → (get_or (answers_of calls start) k (answers 0 0)).refusal ≢ number_of Altered
