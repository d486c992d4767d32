-- On real memory: when nothing can fire and every pushed set has been taken, a push of any good set is accepted, so that a caller who runs until nothing can fire
-- and takes what is ready (Claim `ready`) is refused no good set. And neither 11 nor 31 comes of
-- the whole memory after any list of calls (document 01, "Running"). Assumes an accepted start and nothing else.
use Rattle.std.specs.Prelude.{ℕ, ◌≤◌, ◌<◌, ◌≡◌, true, List, length, take as first_of}
use Rattle.std.proofs.Math.Path.{ap}
use Rattle.std.proofs.Common.{◌∙◌, arith}
use Rattle.network.specs.Net.{Links}
use Rattle.formula.specs.Faults.{letters_of}
use Rattle.formula.specs.declared.Refusal.TheVariants.{NotAble}
use Rattle.formula.specs.Refusals.{number_of}
use Rattle.formula.specs.Tree.{Exp, formula_of}
use Rattle.graph.specs.Translation.{made_of}
use Rattle.machine_layout.specs.Layout.{operators_of, size_of, need}
use Rattle.machine_calls.specs.Calls.{standing}
use Rattle.value_sets.specs.Sets.{set_ok}
use Rattle.value_sets.proofs.Sets.{set_values_lem}
use Rattle.theory_verdicts.specs.Running as Abstract
use Rattle.theory_verdicts.specs.Running.{start_of}
use Rattle.theory_verdicts.proofs.Verdicts.{pushable-when-quiet}
use Rattle.demand_ends.proofs.Push.{push-accepted}
use Rattle.demand_begin.proofs.Lent.{stands-lent}
use Rattle.machine_start.specs.Start.{started}
use Rattle.demand_begin.proofs.StartedStands.{accepted-stands}
use Rattle.demand.specs.MemoryCalls.{Call, push, fire, answer_of, memory_after_all, sets_pushed, results_taken}
use Rattle.demand.specs.Agree.{CallsAgree}
use Rattle.demand.proofs.Followed.{Follows}
use Rattle.demand.proofs.OnMemory.{F as bytes-follow, as-many-results, as-many-sets, no_step}
use Rattle.demand.proofs.Agreed.{calls-agree}
use Rattle.machine_start.specs.StartLaws.{AcceptedStart, accepted-start}

module _ (sheet line : List ℕ) (capacity : ℕ) (memory : List ℕ) (h : (started sheet line capacity memory).answer.refusal ≡ 0) (calls : List Call) where
  abbrev x : Exp
  x = formula_of sheet

  abbrev kinds : List ℕ
  kinds = letters_of (formula_of sheet) line

  abbrev start : List ℕ
  start = (started sheet line capacity memory).mem

  abbrev now : List ℕ
  now = memory_after_all calls start

  begun : AcceptedStart sheet line capacity memory
  begun = accepted-start sheet line capacity memory h

  agree : CallsAgree x kinds capacity
  agree = calls-agree sheet begun.admissible kinds capacity begun.some begun.most

  abbrev followed : Follows x kinds capacity (start_of x) now (sets_pushed calls start) (results_taken calls start)
  followed = bytes-follow sheet line begun.admissible begun.kinded capacity begun.some begun.most agree start (accepted-stands sheet line capacity memory h) calls

  abbrev links : Links
  links = Abstract.standing x capacity followed.calls

  results-counted : length (results_taken calls start) ≡ length (Abstract.taken x capacity followed.calls)
  results-counted = as-many-results sheet line begun.admissible begun.kinded capacity begun.some begun.most agree start (accepted-stands sheet line capacity memory h) calls

  sets-counted : length (sets_pushed calls start) ≡ length (Abstract.pushed x capacity followed.calls)
  sets-counted = as-many-sets sheet line begun.admissible begun.kinded capacity begun.some begun.most agree start (accepted-stands sheet line capacity memory h) calls

  -- Neither 11 nor 31 for a call lent the whole memory.
  pub never-short : standing now ≡ 0
  never-short = agree.good now links followed.stands

  -- A machine at rest with nothing untaken takes the next set.
  pub push-accepted-when-still : ((i : ℕ) → i < operators_of now → (answer_of (fire (length now) i) now).refusal ≡ number_of NotAble)
      → length (results_taken calls start) ≡ length (sets_pushed calls start)
      → (lent : ℕ) (set : List ℕ) → need (size_of capacity) ≤ lent → set_ok kinds set ≡ true
      → (answer_of (push lent set) now).refusal ≡ 0
  unfolding answer_of
  push-accepted-when-still still all lent set long good =
      let L = stands-lent (made_of x) agree.sound kinds capacity now links followed.stands lent long in
      let v = set_values_lem kinds set good in
      let can = pushable-when-quiet sheet begun.admissible capacity begun.some followed.calls
      (no_step sheet line begun.admissible begun.kinded capacity begun.some begun.most agree start (accepted-stands sheet line capacity memory h) calls still)
      (omega (arith, results-counted, sets-counted)) v.0 (v.1.count ∙ followed.stands.kinds-count) in
      ap (λ o. o.answer.refusal)
      (push-accepted (made_of x) agree.sound kinds capacity begun.some begun.most (first_of lent now) links L set v.0 v.1 (agree.good (first_of lent now) links L) can)
