use Prim.Native.Nat.{◌-◌, ◌≤◌}
use Rattle.machine_marks.specs.Held.{Blank}
use Rattle.machine_marks.proofs.next_block.Given as goal

abbrev pub invariant-loop-b : goal.invariant-loop-b
invariant-loop-b l = (l.from ≤ l.b) × (l.b ≤ 16) × Blank l.awake l.from l.b
