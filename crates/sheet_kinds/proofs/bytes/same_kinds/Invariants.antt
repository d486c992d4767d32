use Prim.Native.Nat.{◌≤◌}
use mathlib.Core.Path.{◌≡◌}
use Rattle.formula.specs.Kinds.{same_kinds}
use Rattle.sheet_kinds.specs.Bytes.{kinds_in, stretch, same_from}
use Rattle.sheet_kinds.proofs.bytes.same_kinds.Given as goal

abbrev pub invariant-loop-i : goal.invariant-loop-i
invariant-loop-i l = (l.i ≤ l.n) × (same_kinds (stretch (kinds_in l.a) l.at l.n) (stretch (kinds_in l.b) 0 l.n) ≡ same_from l.a l.at l.b l.n l.i)
