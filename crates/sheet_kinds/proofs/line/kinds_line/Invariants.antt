use Prim.Native.Nat.{◌≤◌}
use mathlib.Core.Path.{◌≡◌}
use Rattle.formula.specs.Faults.{line_well}
use Rattle.sheet_kinds.specs.Line.{well_from}
use Rattle.sheet_kinds.proofs.line.kinds_line.Given as goal

abbrev pub invariant-loop-i : goal.invariant-loop-i
invariant-loop-i l = (l.i ≤ l.inputs) × (line_well l.inputs l.line ≡ well_from l.inputs l.line l.i)
