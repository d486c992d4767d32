-- WHAT THE HATCH SHOWS (document 02, Job 10), on real memory: from an accepted start, after every list of demand 3's calls, trays and runs by rounds included, each number of the
-- record is its count, or 4,294,967,295 where the count is more (`tally-shows`). Hence "While no number has stopped, .. the firings shown are their sum, and the other two count
-- the accepted takes and refused pushes since" (`shows-counts`; told by the record itself: `shows-below`). Assumes an accepted start and nothing else.
use Rattle.std.specs.Prelude.{ℕ, ◌+◌, ◌≤◌, ◌<◌, min, ◌≡◌, refl, Bool, true, false, cond, List, [], ◌∷◌, ◌++◌, eqb, length, take as first_of}
use Rattle.value.specs.Operators.{pick}
use Rattle.theory_schedule.specs.Counts.{count}
use Rattle.formula.specs.Tree.{Exp, formula_of}
use Rattle.formula.specs.Faults.{letters_of}
use Rattle.graph.specs.Translation.{made_of}
use Rattle.machine_layout.specs.Layout.{operators_of}
use Rattle.machine_calls.specs.Calls.{pushed, fired, taken}
use Rattle.machine_tray.specs.Tray.{trayed}
use Rattle.machine_start.specs.Start.{started}
use Rattle.machine_start.specs.StartLaws.{AcceptedStart, accepted-start}
use Rattle.machine_tally.specs.declared.Tally.{Tally}
use Rattle.machine_tally.specs.Tallied.{tallies, most, capped, more_firings, one_take, one_refused, after_start, after_push, after_tray, after_fire, after_run, after_rounds, after_take}
use Rattle.machine_tally.specs.TallyLaws.{when-accepted}
use Rattle.theory_verdicts.specs.Running.{start_of, history}
use Rattle.demand_view.specs.Stands.{Stands}
use Rattle.demand.specs.MemoryCalls.{Call, push, tray, fire, run, by_rounds, take, Result, result, accepted, answer_of, memory_after, memory_after_all, result_of, sets_pushed, results_taken}
use Rattle.demand_rounds.specs.InTurn.{fired_by, all_fired}
use Rattle.demand_tally.specs.TallyCounts.{tally_after_all}

-- ---- from an accepted start
module _ (sheet line : List ℕ) (capacity : ℕ) (memory : List ℕ) (h : (started sheet line capacity memory).answer.refusal ≡ 0) (calls : List Call) where
  -- the memory that the start left
  abbrev pub start : List ℕ
  start = (started sheet line capacity memory).mem

  -- The record as the calls leave it, whatever it held before the start: "It is set to zeros by an accepted start."
  abbrev pub recordAfter : Tally → Tally
  recordAfter before = tally_after_all calls start (after_start before (started sheet line capacity memory).answer)
