-- THE OLDEST VERDICT IS READY AFTER SO MANY ROUNDS (document 02, Job 7), on real memory. After any list of calls from an accepted start, where direct evaluation of the oldest
-- untaken set and of every set before it ends: after as many rounds as firings are owed of working these sets one after another, a take is accepted
-- (`ready-after-rounds`), and such a work there is (`in-turn-exists`, `oldest-ready-by-rounds`). What is owed: InTurn. Assumes an accepted start and nothing else.
use Rattle.std.specs.Prelude.{ℕ, zero, suc, ◌+◌, ◌-◌, ◌≤◌, ◌<◌, ◌≡◌, length, get_or, Ok, Err}
use mathlib.Core.List.{List, [], ◌∷◌, ◌++◌, map, append_assoc}
use Rattle.std.proofs.Math.ListN.{take as first_of}
use Rattle.theory_schedule.specs.Counts.{count}
use Rattle.value.specs.declared.Value.{Value}
use Rattle.network.specs.Net.{Links}
use Rattle.theory_pieces.specs.Tape.{Step, pushing, firing, taking}
use Rattle.formula.specs.Results.{Verdict}
use Rattle.formula.specs.Tree.{Exp, formula_of}
use Rattle.formula.specs.Faults.{letters_of}
use Rattle.graph.specs.Assembly.{up_from}
use Rattle.graph.specs.Translation.{made_of}
use Rattle.value_sets.specs.Sets.{set_values}
use Rattle.meaning.specs.Evaluate.{evaluated_with, evaluated, evaluation_of}
use Rattle.machine_layout.specs.Layout.{size_of, need, operators_of}
use Rattle.machine_start.specs.Start.{started}
use Rattle.machine_start.specs.StartLaws.{AcceptedStart, accepted-start}
use Rattle.theory_verdicts.specs.Results.{EachEnds}
use Rattle.theory_verdicts.specs.Running as Abstract
use Rattle.theory_verdicts.specs.Running.{start_of, fires, takes, after_steps, steps_of, steps_from, history, standing, pushed, taken}
use Rattle.theory_rounds.specs.InTurn as Links-in-turn
use Rattle.theory_rounds.specs.InTurn.{fires_from, rounds_of, times, sum_below}
use Rattle.theory_rounds.specs.RunsFire.{total, operators-of}
use Rattle.theory_rounds.specs.WorkEnds.{EachLentFits, LentFits}
use Rattle.theory_rounds.specs.WorkEnds.{Enough as Lent-enough}
use Rattle.demand_view.specs.Stands.{Stands}
use Rattle.demand.specs.MemoryCalls.{Call, by_rounds, take, answer_of, memory_after, memory_after_all, sets_pushed, results_taken}
use Rattle.demand.specs.Claim.{Ends}
use Rattle.demand.specs.Agree.{CallsAgree}
use Rattle.demand.specs.RoundSteps.{turn_calls, rounds_calls, roundsSteps}

abbrev pub Is-passed : Verdict → Type 0
Is-passed (Ok _) = Unit {0}
Is-passed (Err why) = ⊥

-- Direct evaluation of each set ends.
abbrev pub EachSetEnds : List ℕ → List ℕ → List (List ℕ) → Type 0
EachSetEnds sheet line [] = Unit {0}
EachSetEnds sheet line (set ∷ sets) = Ends sheet line set × EachSetEnds sheet line sets

module _ (sheet line : List ℕ) (capacity : ℕ) (memory : List ℕ) (h : (started sheet line capacity memory).answer.refusal ≡ 0) where
  module _ (lent : ℕ) (enough : need (size_of capacity) ≤ lent) (out : List ℕ) where
    -- ---- after any list of calls
    module _ (calls : List Call) where
      -- "the oldest untaken set, and .. every set before it"
      abbrev pub upToOldest : List (List ℕ)
      upToOldest = first_of (suc (length (results_taken calls (started sheet line capacity memory).mem))) (sets_pushed calls (started sheet line capacity memory).mem)
