-- HOW OFTEN EACH OPERATOR FIRES DEPENDS ON THE SHEET AND THE SETS ALONE (document 02, Job 10), on real memory: "when nothing can fire and every pushed set is taken,
-- each operator has fired a number of times that depends on the sheet and the sets alone, in every order and at every capacity".
-- Two accepted starts of one sheet, each with its own kinds line, capacity and memory; from each any list of demand 3's calls, trays and runs by rounds included; the
-- same sets pushed in the same order; both at rest. Then each operator was fired equally often in both lists (`same-firings`). How often an operator fires in a
-- list of calls: demand_rounds/specs/InTurn `times_fired`. Assumes the two accepted starts and nothing else.
use Rattle.std.specs.Prelude.{ℕ, ◌<◌, ◌≡◌, refl, List, [], ◌∷◌, length}
use Rattle.theory_schedule.specs.Counts.{count}
use Rattle.value.specs.declared.Value.{Value}
use Rattle.formula.specs.declared.Refusal.TheVariants.{NotAble}
use Rattle.formula.specs.Refusals.{number_of}
use Rattle.formula.specs.Tree.{Exp, formula_of}
use Rattle.formula.specs.Faults.{letters_of}
use Rattle.graph.specs.Translation.{made_of}
use Rattle.machine_layout.specs.Layout.{operators_of}
use Rattle.machine_start.specs.Start.{started}
use Rattle.machine_start.specs.StartLaws.{AcceptedStart, accepted-start}
use Rattle.theory_verdicts.specs.Running.{start_of, history, pushed}
use Rattle.theory_rounds.specs.InTurn.{times}
use Rattle.demand_view.specs.Stands.{Stands}
use Rattle.demand.specs.MemoryCalls.{Call, fire, answer_of, memory_after_all, sets_pushed, results_taken}
use Rattle.demand.specs.Agree.{CallsAgree}
use Rattle.demand_rounds.specs.InTurn.{all_fired, times_fired}

-- What is asked of a list of calls from the memory that a start left.
pub record AtRest (start : List ℕ) (calls : List Call) : Type 0 where
  -- "when nothing can fire": each operator would get 34, as in demand 3; the fires are lent the whole memory.
  pub still : (i : ℕ) → i < operators_of (memory_after_all calls start)
      → (answer_of (fire (length (memory_after_all calls start)) i) (memory_after_all calls start)).refusal ≡ number_of NotAble
  -- "and every pushed set is taken"
  pub all-taken : length (results_taken calls start) ≡ length (sets_pushed calls start)

-- ---- a list of calls from one start, followed on links
module _ (sheet line : List ℕ) (capacity : ℕ) (memory : List ℕ) (h : (started sheet line capacity memory).answer.refusal ≡ 0) where
  abbrev pub start : List ℕ
  start = (started sheet line capacity memory).mem
