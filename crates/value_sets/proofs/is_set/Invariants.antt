use mathlib.Core.Path.{◌≡◌}
use Prim.Native.Nat.{◌*◌}
use lib.ListN.{length}
use Rattle.value_sets.specs.Sets.{set_ok, later_some}
use Rattle.value_sets.proofs.is_set.Given as goal

abbrev pub invariant-loop-i : goal.invariant-loop-i
invariant-loop-i l = (length l.set ≡ 5 * length l.kinds) × (set_ok l.kinds l.set ≡ later_some l.kinds l.i l.set)
