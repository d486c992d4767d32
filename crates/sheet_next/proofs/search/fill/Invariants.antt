use Prim.Native.Nat.{◌-◌, ◌≤◌}
use Rattle.sheet_stands.specs.Fronts.{Front}
use Rattle.sheet_next.proofs.search.fill.Given as goal

abbrev pub invariant-loop-i : goal.invariant-loop-i
invariant-loop-i l = (l.i ≤ l.n) × Front l.t l.widths l.masks l.i
