-- EACH RESULT FROM ITS OWN SET ALONE, on real memory, more than demand 3's first half asks: the k-th result taken is what direct evaluation yields for the k-th set pushed as soon as that set's own evaluation ends,
-- whatever the sets before it do. Demand 3 (Claim) asks that the evaluation of each of the first k sets ends. Assumes an accepted start and nothing else.
use Rattle.std.specs.Prelude.{ℕ, ◌<◌, ◌≡◌, List, [], ◌++◌, length, get_or}
use Rattle.formula.specs.Tree.{formula_of}
use Rattle.formula.specs.Faults.{letters_of}
use Rattle.graph.specs.Translation.{made_of}
use Rattle.meaning.specs.Evaluate.{evaluation_of}
use Rattle.theory_verdicts.specs.Running.{start_of}
use Rattle.machine_start.specs.Start.{started}
use Rattle.machine_start.specs.StartLaws.{accepted-start}
use Rattle.demand.specs.MemoryCalls.{Call, result, sets_pushed, results_taken}
use Rattle.demand.specs.Claim.{Enough, yielded}

-- Sets and results count from 0.
abbrev pub OwnAlone : (sheet line start : List ℕ) (calls : List Call) → Type 0
OwnAlone sheet line start calls =
    (k : ℕ) → k < length (results_taken calls start) → (rounds : ℕ) → Enough sheet line (get_or (sets_pushed calls start) k []) rounds
    → get_or (results_taken calls start) k (result 0 []) ≡ yielded (evaluation_of sheet line (get_or (sets_pushed calls start) k []) rounds)
