use Prim.Native.Nat.{◌*◌, ◌≤◌}
use lib.ListN.{length}
use Rattle.machine_log.specs.SetLaws.{Tested}
use Rattle.machine_log.proofs.sets.are_sets.Given as goal

abbrev pub invariant-loop-count : goal.invariant-loop-count
invariant-loop-count l = (5 * length l.kinds * l.count ≤ length l.sets) × Tested l.kinds l.sets l.number (5 * length l.kinds * l.count) l.count
