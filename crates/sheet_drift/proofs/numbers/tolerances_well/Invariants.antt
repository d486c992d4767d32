use Prim.Native.Nat.{◌≤◌, ◌-◌}
use mathlib.Core.Path.{◌≡◌}
use Rattle.sheet_movement.specs.Moves.{tolerances_well}
use Rattle.sheet_drift.specs.Numbers.{within_from}
use Rattle.sheet_drift.proofs.numbers.tolerances_well.Given as goal

abbrev pub invariant-loop-i : goal.invariant-loop-i
invariant-loop-i l = (l.i ≤ l.inputs) × (tolerances_well l.inputs l.s ≡ within_from l.inputs l.s l.i)
