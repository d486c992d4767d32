-- What document 02, Job 7, says of waiting, on real memory: the operators that a list of calls on bytes fires, "working one set after another" by real calls, and
-- what is left of those firings. Calls are those of demand/specs/MemoryCalls. Definitions only; assumes nothing.
use Rattle.std.specs.Prelude.{ℕ, zero, suc, ◌-◌, ◌≡◌, ◌⊎◌, cond, List, [], ◌∷◌, ◌++◌, map, eqb, ltb, take as first_of}
use Rattle.value.specs.Operators.{pick}
use Rattle.formula.specs.declared.Refusal.TheVariants.{Unfinished}
use Rattle.formula.specs.Refusals.{number_of}
use Rattle.theory_schedule.specs.Counts.{count}
use Rattle.machine_layout.specs.Layout.{operators_of}
use Rattle.machine_firing.specs.Fire.{able_at, fired_at}
use Rattle.machine_runs.specs.Run.{least}
use Rattle.machine_calls.specs.Calls.{size_in, standing}
use Rattle.machine_rounds.specs.Rounds.{round}
use Rattle.theory_rounds.specs.InTurn.{sum_below}
use Rattle.demand.specs.MemoryCalls.{Call, push, tray, fire, run, by_rounds, take, accepted, answer_of, memory_after}

-- ---- the operators that a call fires, in order

-- A run with b firings left: the least-numbered able operator of n, again and again (machine_runs/specs/Run `runs`).
unfoldable pub run_fires : ℕ → ℕ → ℕ → List ℕ → List ℕ
run_fires size n zero m = []
run_fires size n (suc b) m = pick (ltb (least m size n) n) (least m size n ∷ run_fires size n b (fired_at m size (least m size n))) []

-- k operators from i on, each that is able at its turn (machine_rounds/specs/Rounds `sweep`).
unfoldable pub sweep_fires : ℕ → ℕ → ℕ → List ℕ → List ℕ
sweep_fires size zero i m = []
sweep_fires size (suc k) i m = pick (able_at m size i) (i ∷ sweep_fires size k (suc i) (fired_at m size i)) (sweep_fires size k (suc i) m)

-- b rounds of n operators. A round in which nothing fires changes no byte, so those behind it have no firings either.
unfoldable pub rounds_fire : ℕ → ℕ → ℕ → List ℕ → List ℕ
unfolding sweep_fires
rounds_fire size n zero m = []
rounds_fire size n (suc b) m = sweep_fires size n 0 m ++ rounds_fire size n b (round size n m).mem

-- of a memory that is refused with 11 or 31 nothing fires
abbrev pub unless_refused : List ℕ → List ℕ → List ℕ
unless_refused m fires = cond (eqb (standing m) 0) fires []

unfoldable pub fired_by : Call → List ℕ → List ℕ
unfolding run_fires rounds_fire
fired_by (push lent set) m = []
fired_by (tray lent sets number) m = []
fired_by (fire lent operator) m = cond (accepted (answer_of (fire lent operator) m)) (operator ∷ []) []
fired_by (run lent firings) m =
    let b = first_of lent m in
    unless_refused b (run_fires (size_in b) (operators_of b) firings b)
fired_by (by_rounds lent rounds) m =
    let b = first_of lent m in
    unless_refused b (rounds_fire (size_in b) (operators_of b) rounds b)
fired_by (take lent out) m = []

-- "each .. is lent that memory as the call before left it"
unfoldable pub all_fired : List Call → List ℕ → List ℕ
unfolding fired_by
all_fired [] m = []
all_fired (c ∷ calls) m = fired_by c m ++ all_fired calls (memory_after c m)

-- How often operator i fires in these calls from this memory on.
abbrev pub times_fired : ℕ → List Call → List ℕ → ℕ
times_fired i calls m = count i (all_fired calls m)

-- ---- "working one set after another"

-- Each set is pushed, run and taken before the next one. Every call is lent so many bytes, the takes these bytes to write into. A set's runs are lent these
-- numbers of firings; there may be several, as a lent number has 32 bits.
abbrev pub in_turn : ℕ → List ℕ → List (List ℕ) → List (List ℕ) → List Call
in_turn lent out [] firings = []
in_turn lent out (set ∷ sets) [] = push lent set ∷ take lent out ∷ in_turn lent out sets []
in_turn lent out (set ∷ sets) (ns ∷ firings) = push lent set ∷ (map (run lent) ns ++ (take lent out ∷ in_turn lent out sets firings))

-- The call is accepted, or is a run that gives 36 and keeps its firings.
abbrev pub Granted : Call → List ℕ → Type 0
Granted (push lent set) m = (answer_of (push lent set) m).refusal ≡ 0
Granted (tray lent sets number) m = (answer_of (tray lent sets number) m).refusal ≡ 0
Granted (fire lent operator) m = (answer_of (fire lent operator) m).refusal ≡ 0
Granted (run lent firings) m = ((answer_of (run lent firings) m).refusal ≡ 0) ⊎ ((answer_of (run lent firings) m).refusal ≡ number_of Unfinished)
Granted (by_rounds lent rounds) m = ((answer_of (by_rounds lent rounds) m).refusal ≡ 0) ⊎ ((answer_of (by_rounds lent rounds) m).refusal ≡ number_of Unfinished)
Granted (take lent out) m = (answer_of (take lent out) m).refusal ≡ 0

abbrev pub AllAccepted : List Call → List ℕ → Type 0
AllAccepted [] m = Unit {0}
AllAccepted (c ∷ calls) m = Granted c m × AllAccepted calls (memory_after c m)

-- ---- "Count the firings .. less those of them already made"

-- The firings of the work that the calls have not made, both from the memory that the start left. Operator by operator: a firing beyond the work's is none of the
-- work's, so it takes nothing off another operator's share; each difference is 0 at least.
abbrev pub owed : List Call → List Call → List ℕ → ℕ
owed work calls start = sum_below (operators_of start) (λ i. times_fired i work start - times_fired i calls start)
