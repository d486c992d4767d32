-- Laws of specs/Alone.antt, and what only they need.
use Rattle.std.specs.Prelude.{ℕ, ◌≡◌, List, [], ◌++◌}
use Rattle.std.proofs.Common.{subst, append-nil}
use Rattle.formula.specs.Tree.{formula_of}
use Rattle.formula.specs.Faults.{letters_of}
use Rattle.graph.specs.Translation.{made_of}
use Rattle.theory_verdicts.specs.Running.{start_of}
use Rattle.machine_start.specs.Start.{started}
use Rattle.machine_start.specs.StartLaws.{accepted-start}
use Rattle.demand_begin.proofs.MadeSound.{made-sound}
use Rattle.demand_begin.proofs.Lent.{stands-behind}
use Rattle.demand_begin.proofs.StartedStands.{accepted-stands}
use Rattle.demand.specs.MemoryCalls.{Call}
use Rattle.demand.proofs.Agreed.{calls-agree}
use Rattle.demand.proofs.OnMemory.{own-verdict}
use Rattle.demand.specs.Alone.{OwnAlone}

-- What an accepted start leaves, with any bytes behind what it was lent: the calls may be lent more than start was.
pub own-alone-behind : (sheet line : List ℕ) (capacity : ℕ) (memory : List ℕ) → (started sheet line capacity memory).answer.refusal ≡ 0
    → (rest : List ℕ) (calls : List Call) → OwnAlone sheet line ((started sheet line capacity memory).mem ++ rest) calls
own-alone-behind sheet line capacity memory h rest calls =
    let a = accepted-start sheet line capacity memory h in
    let x = formula_of sheet in
    let kinds = letters_of x line in
    own-verdict sheet line a.admissible a.kinded capacity a.some a.most (calls-agree sheet a.admissible kinds capacity a.some a.most)
    ((started sheet line capacity memory).mem ++ rest)
    (stands-behind (made_of x) (made-sound sheet a.admissible) kinds capacity (started sheet line capacity memory).mem (start_of x) (accepted-stands sheet line capacity memory h) rest) calls

pub own_alone : (sheet line : List ℕ) (capacity : ℕ) (memory : List ℕ) → (started sheet line capacity memory).answer.refusal ≡ 0
    → (calls : List Call) → OwnAlone sheet line (started sheet line capacity memory).mem calls
own_alone sheet line capacity memory h calls =
    subst (λ (m : List ℕ). OwnAlone sheet line m calls) (append-nil (started sheet line capacity memory).mem) (own-alone-behind sheet line capacity memory h [] calls)
