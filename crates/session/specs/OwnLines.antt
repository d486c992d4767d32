-- "A beacon's verdict comes from its own readings and nobody else's", of the program: behind its first line it prints the sets' own verdicts in the file's order,
-- all of them, or the first ones and then 36. It is demand 3 (demand/specs/Demand3) of the calls that the program makes (Reached, Onward). Assumes an accepted
-- sheet and good sets.
use Prim.Native.Nat.{ℕ, zero, suc, ◌+◌, ◌-◌, ◌≤◌, ◌<◌}
use Rattle.std.specs.Prelude.{◌≡◌, ◌⊎◌, Bool, true, false, get_or, take}
use mathlib.Core.List.{List, [], ◌∷◌, ◌++◌, append_assoc, append-nil}
use Rattle.std.proofs.Math.ListN.{length}
use Rattle.value.specs.Operators.{pick}
use Rattle.formula.specs.declared.Refusal.TheVariants.{Unfinished}
use Rattle.formula.specs.Refusals.{number_of}
use Rattle.formula.specs.Tree.{formula_of}
use Rattle.formula.specs.Faults.{letters_of}
use Rattle.formula.specs.Tests.{verdict_of, figures_of}
use Rattle.machine_layout.specs.Layout.{operators_of, capacity_in, size_of, need}
use Rattle.graph.specs.Translation.{made_of}
use Rattle.machine_firing.specs.Fire.{able_at}
use Rattle.machine_runs.specs.Run.{runs, still_at}
use Rattle.machine_calls.specs.Calls.{Outcome, size_in, standing, fired, ran}
use Rattle.machine_calls.specs.CallLaws.{fired-accepted}
use Rattle.meaning.specs.Evaluate.{evaluation_of}
use Rattle.machine_start.specs.Start.{started}
use Rattle.refusals.specs.RunCount.{RunCounts}
use Rattle.demand.specs.MemoryCalls.{Result, result, sets_pushed, results_taken}
use Rattle.demand.specs.Claim.{Enough, Ends, yielded}
use Rattle.text.specs.Printed.{head_line, refusal_line}
use Rattle.text.specs.SetLines.{sets, sets_of}
use Rattle.session.specs.Reached.{line_of}
use Rattle.session.specs.Onward.{lines_of}

-- ---- the claim
-- What is printed behind the first line: the results taken, each in its line, and what ends them.
pub record OwnLines (formula line : List ℕ) (ss : List (List ℕ)) (out : List ℕ) : Type 0 where
  pub results : List Result
  pub ending : List ℕ
  pub out-is : out ≡ lines_of results ++ ending
  pub few : length results ≤ length ss
  -- "if direct evaluation of each of the first k sets pushed ends, the k-th result taken is exactly what it yields for the k-th set pushed" (k from 0)
  pub own : (k : ℕ) → k < length results → ((j : ℕ) → j ≤ k → Ends formula line (get_or ss j [])) → (rounds : ℕ) → Enough formula line (get_or ss k []) rounds
      → get_or results k (result 0 []) ≡ yielded (evaluation_of formula line (get_or ss k []) rounds)
  -- every set has its line and nothing follows, or "36 prints last with row 0"
  pub ends : ((length results ≡ length ss) × (ending ≡ [])) ⊎ (ending ≡ refusal_line (number_of Unfinished) 0)

-- The lines that direct evaluation of some sets gives, with a number of rounds for each.
unfoldable pub verdict_lines : List ℕ → List ℕ → (List ℕ → ℕ) → List (List ℕ) → List ℕ
verdict_lines formula line rounds [] = []
verdict_lines formula line rounds (s ∷ ss) = line_of (yielded (evaluation_of formula line s (rounds s))) ++ verdict_lines formula line rounds ss
