-- DEMAND 3 ON REAL MEMORY. "A beacon's verdict comes from its own readings and nobody else's." What it says of a list of calls is the record `OwnVerdicts`
-- (Claim), field by field in the demand's words. What the calls do to the lent bytes are the definitions that the contracts of bench_push, bench_push_tray,
-- bench_fire, bench_run and bench_take cite; start is machine_start/specs/Start `started`. Assumes an accepted start and nothing else.
use Rattle.std.specs.Prelude.{ℕ, ◌≤◌, ◌≡◌, List, [], ◌++◌}
use Rattle.std.proofs.Common.{subst, append-nil}
use Rattle.formula.specs.Tree.{formula_of}
use Rattle.formula.specs.Faults.{letters_of}
use Rattle.formula.specs.Acceptance.{Admissible, Kinded}
use Rattle.graph.specs.Translation.{made_of}
use Rattle.theory_verdicts.specs.Running.{start_of}
use Rattle.demand_view.specs.Stands.{Stands}
use Rattle.machine_start.specs.Start.{started}
use Rattle.demand_begin.proofs.MadeSound.{made-sound}
use Rattle.demand_begin.proofs.Lent.{stands-behind}
use Rattle.demand_begin.proofs.StartedStands.{accepted-stands}
use Rattle.demand.specs.MemoryCalls.{Call}
use Rattle.demand.specs.Claim.{OwnVerdicts}
use Rattle.machine_start.specs.StartLaws.{accepted-start}
use Rattle.demand.proofs.Agreed.{calls-agree}
use Rattle.demand.proofs.OnMemory.{own-verdicts-of-bytes}

-- From any memory in which the machine of an admissible sheet stands as started.
own-verdicts-from : (sheet line : List ℕ) → Admissible sheet → Kinded sheet line → (capacity : ℕ) → 1 ≤ capacity → capacity ≤ 16 → (start : List ℕ)
    → Stands (made_of (formula_of sheet)) (letters_of (formula_of sheet) line) capacity start (start_of (formula_of sheet)) → (calls : List Call) → OwnVerdicts sheet line capacity start calls
own-verdicts-from sheet line ok told capacity low high start H calls =
    own-verdicts-of-bytes sheet line ok told capacity low high (calls-agree sheet ok (letters_of (formula_of sheet) line) capacity low high) start H calls

-- What an accepted start leaves, with any bytes behind what it was lent: the calls may be lent more than start was.
pub demand-3-behind : (sheet line : List ℕ) (capacity : ℕ) (memory : List ℕ) → (started sheet line capacity memory).answer.refusal ≡ 0
    → (rest : List ℕ) (calls : List Call) → OwnVerdicts sheet line capacity ((started sheet line capacity memory).mem ++ rest) calls
demand-3-behind sheet line capacity memory h rest calls =
    let a = accepted-start sheet line capacity memory h in
    own-verdicts-from sheet line a.admissible a.kinded capacity a.some a.most ((started sheet line capacity memory).mem ++ rest)
    (stands-behind (made_of (formula_of sheet)) (made-sound sheet a.admissible) (letters_of (formula_of sheet) line) capacity (started sheet line capacity memory).mem (start_of (formula_of sheet))
    (accepted-stands sheet line capacity memory h) rest) calls

-- "Start a machine empty for an accepted sheet, with links holding 1 to 16 tokens. Then the following holds after every list of pushes, single firings, runs and
-- takes, in any order, with any sets and numbers, refused calls included, where each call gets the machine's memory as the one before left it and nothing else
-- touches it."
pub demand-3 : (sheet line : List ℕ) (capacity : ℕ) (memory : List ℕ) → (started sheet line capacity memory).answer.refusal ≡ 0
    → (calls : List Call) → OwnVerdicts sheet line capacity (started sheet line capacity memory).mem calls
demand-3 sheet line capacity memory h calls =
    subst (λ (m : List ℕ). OwnVerdicts sheet line capacity m calls) (append-nil (started sheet line capacity memory).mem) (demand-3-behind sheet line capacity memory h [] calls)
