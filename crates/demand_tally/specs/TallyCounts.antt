-- The record that the firmware lends (document 02, Job 10) over lists of demand 3's calls, "where every call since the start was lent that same record and nothing else touched
-- it", and what it is to show: firings, accepted takes and refused pushes. What one call makes of the record is machine_tally/specs/Tallied. Definitions only; assumes nothing.
use Rattle.std.specs.Prelude.{ℕ, ◌+◌, min, cond, List, [], ◌∷◌, length, take as first_of}
use Rattle.machine_layout.specs.Layout.{operators_of}
use Rattle.machine_rounds.specs.Rounds.{ran_rounds}
use Rattle.machine_tally.specs.declared.Tally.{Tally}
use Rattle.machine_tally.specs.Tallied.{tallies, most, after_push, after_tray, after_fire, after_run, after_rounds, after_take}
use Rattle.theory_rounds.specs.InTurn.{sum_below}
use Rattle.demand.specs.MemoryCalls.{Call, push, tray, fire, run, by_rounds, take, accepted, answer_of, memory_after, results_taken}
use Rattle.demand_rounds.specs.InTurn.{times_fired}

-- ---- the record

-- by the answer that the call gives on the memory that it is lent; that of a run by rounds has its firings beside its rounds
unfoldable pub tally_after : Call → List ℕ → Tally → Tally
tally_after (push lent set) m t = after_push t (answer_of (push lent set) m)
tally_after (tray lent sets number) m t = after_tray t (answer_of (tray lent sets number) m)
tally_after (fire lent operator) m t = after_fire t (answer_of (fire lent operator) m)
tally_after (run lent firings) m t = after_run t (answer_of (run lent firings) m)
tally_after (by_rounds lent rounds) m t = after_rounds t (ran_rounds (first_of lent m) rounds).answer
tally_after (take lent out) m t = after_take t (answer_of (take lent out) m)

unfoldable pub tally_after_all : List Call → List ℕ → Tally → Tally
unfolding tally_after
tally_after_all [] m t = t
tally_after_all (c ∷ calls) m t = tally_after_all calls (memory_after c m) (tally_after c m t)

-- ---- the counts

-- "their sum": of all operators' firings
abbrev pub firings_of_all : List Call → List ℕ → ℕ
firings_of_all calls start = sum_below (operators_of start) (λ i. times_fired i calls start)

-- "accepted takes": each took one result
abbrev pub accepted_takes : List Call → List ℕ → ℕ
accepted_takes calls start = length (results_taken calls start)

-- a push or a tray that answers a refusal, whichever
unfoldable pub refused_push : Call → List ℕ → ℕ
refused_push (push lent set) m = cond (accepted (answer_of (push lent set) m)) 0 1
refused_push (tray lent sets number) m = cond (accepted (answer_of (tray lent sets number) m)) 0 1
refused_push (fire lent operator) m = 0
refused_push (run lent firings) m = 0
refused_push (by_rounds lent rounds) m = 0
refused_push (take lent out) m = 0

unfoldable pub refused_pushes : List Call → List ℕ → ℕ
unfolding refused_push
refused_pushes [] m = 0
refused_pushes (c ∷ calls) m = refused_push c m + refused_pushes calls (memory_after c m)

-- The record of these counts: "Each number stops at 4,294,967,295."
abbrev pub shown : ℕ → ℕ → ℕ → Tally
shown firings takes refused = tallies (min firings most) (min takes most) (min refused most)
