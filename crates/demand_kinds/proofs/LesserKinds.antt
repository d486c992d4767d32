-- What RightKinds assumes can be met: the lesser of two with its kinds line, from the start that demand/specs/LesserStarts makes by computation.
use Rattle.std.specs.Prelude.{ℕ, List, ◌++◌}
use Rattle.value.specs.declared.ValueKind.{ValueKind}
use Rattle.examples.specs.Sheets.{bytes, lesser}
use Rattle.formula.specs.Tree.{formula_of}
use Rattle.graph.specs.Assembly.{Operator}
use Rattle.graph.specs.Translation.{made_of}
use Rattle.theory_claims.specs.Keeps.{Takes}
use Rattle.demand_view.specs.Sound.{Ith}
use Rattle.machine_start.specs.Start.{started}
use Rattle.machine_start.specs.StartLaws.{accepted-start}
use Rattle.demand.specs.MemoryCalls.{Call, memory_after_all}
use Rattle.demand.specs.LesserStarts.{zeros}
use Rattle.demand.proofs.LesserStarts.{lesser-starts}
use Rattle.demand_kinds.specs.RightKinds.{Rightly}
use Rattle.demand_kinds.proofs.RightKinds.{never-a-wrong-kind}

pub lesser-never-a-wrong-kind : (i : ℕ) (o : Operator) → Ith (made_of (formula_of (bytes lesser))).operators i o
    → (k : ValueKind) × Takes o.kind k
    × ((rest : List ℕ) (calls : List Call) → Rightly (memory_after_all calls ((started (bytes lesser) (bytes "WW\n") 1 (zeros 40390)).mem ++ rest)) 1 i o k)
lesser-never-a-wrong-kind i o m =
    let start = accepted-start (bytes lesser) (bytes "WW\n") 1 (zeros 40390) lesser-starts in
    let one = never-a-wrong-kind (bytes lesser) (bytes "WW\n") start.admissible start.kinded i o m in
    (one.0, one.1, one.2 1 (zeros 40390) lesser-starts)
