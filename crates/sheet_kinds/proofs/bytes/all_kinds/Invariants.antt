use Prim.Native.Nat.{◌≤◌}
use mathlib.Core.Path.{◌≡◌}
use Rattle.value.specs.Kinds.{all_of}
use Rattle.sheet_kinds.specs.Bytes.{kind_of_byte, kinds_in, stretch, all_from}
use Rattle.sheet_kinds.proofs.bytes.all_kinds.Given as goal

abbrev pub invariant-loop-i : goal.invariant-loop-i
invariant-loop-i l = (l.i ≤ l.n) × (all_of (kind_of_byte l.k) (stretch (kinds_in l.l) 0 l.n) ≡ all_from (kind_of_byte l.k) l.l l.n l.i)
