-- What the record tells of itself, from TallyShows.
use Rattle.std.specs.Prelude.{ℕ, ◌+◌, ◌≤◌, ◌<◌, min, ◌≡◌, refl, Bool, true, false, cond, List, [], ◌∷◌, ◌++◌, eqb, length, take as first_of}
use Rattle.std.proofs.Common.{sym, ◌∙◌, arith, length-append}
use Rattle.std.proofs.Math.Path.{ap}
use Rattle.value.specs.Operators.{pick}
use Rattle.theory_schedule.specs.Counts.{count}
use Rattle.formula.specs.Tree.{Exp, formula_of}
use Rattle.formula.specs.Faults.{letters_of}
use Rattle.graph.specs.Translation.{made_of}
use Rattle.machine_layout.specs.Layout.{operators_of}
use Rattle.machine_calls.specs.Calls.{pushed, fired, taken}
use Rattle.machine_tray.specs.Tray.{trayed}
use Rattle.machine_start.specs.Start.{started}
use Rattle.machine_start.specs.StartLaws.{AcceptedStart, accepted-start}
use Rattle.machine_tally.specs.declared.Tally.{Tally}
use Rattle.machine_tally.specs.Tallied.{tallies, most, capped, more_firings, one_take, one_refused, after_start, after_push, after_tray, after_fire, after_run, after_rounds, after_take}
use Rattle.machine_tally.specs.TallyLaws.{when-accepted}
use Rattle.theory_verdicts.specs.Running.{start_of, history}
use Rattle.theory_verdicts.proofs.RunningLaws.{calls-made}
use Rattle.theory_rounds.proofs.Shares.{length-counts}
use Rattle.theory_rounds.proofs.TurnLaws.{past-never}
use Rattle.demand_view.specs.Stands.{Stands}
use Rattle.demand_begin.proofs.StartedStands.{accepted-stands}
use Rattle.demand.specs.MemoryCalls.{Call, push, tray, fire, run, by_rounds, take, Result, result, accepted, answer_of, memory_after, memory_after_all, result_of, sets_pushed, results_taken}
use Rattle.demand.proofs.Agreed.{calls-agree}
use Rattle.demand_rounds.specs.InTurn.{fired_by, all_fired}
use Rattle.demand_rounds.proofs.Told.{run-fires-told, rounds-fires-told}
use Rattle.demand_rounds.proofs.Traced.{Traced, calls-traced}
use Rattle.demand_rounds.proofs.Waiting.{times-count}
use Rattle.demand_tally.specs.TallyCounts.{tally_after, tally_after_all, firings_of_all, accepted_takes, refused_push, refused_pushes, shown}
use Rattle.demand_tally.specs.TallyShows as Stated
use Rattle.demand_tally.proofs.TallyShows.{tally-shows, shows-counts}

module _ (sheet line : List ℕ) (capacity : ℕ) (memory : List ℕ) (h : (started sheet line capacity memory).answer.refusal ≡ 0) (calls : List Call) where
  abbrev start : List ℕ
  start = Stated.start sheet line capacity memory h calls

  abbrev recordAfter : Tally → Tally
  recordAfter = Stated.recordAfter sheet line capacity memory h calls

  -- The record tells that by itself: no number in it stands where it stops.
  pub shows-below : (before : Tally) → (recordAfter before).firings < most → (recordAfter before).takes < most → (recordAfter before).refused < most
      → recordAfter before ≡ tallies (firings_of_all calls start) (accepted_takes calls start) (refused_pushes calls start)
  shows-below before f t r =
      shows-counts sheet line capacity memory h calls before (omega (arith, f, ap (λ (w : Tally). w.firings) (tally-shows sheet line capacity memory h calls before))) (omega (arith, t, ap (λ (w : Tally). w.takes) (tally-shows sheet line capacity memory h calls before)))
      (omega (arith, r, ap (λ (w : Tally). w.refused) (tally-shows sheet line capacity memory h calls before)))
