use mathlib.Core.Path.{◌≡◌}
use Prim.Native.Nat.{◌-◌, ◌≤◌}
use Rattle.machine_calls.specs.Calls.{written_from}
use lib.ListN.{length}
use Rattle.machine_calls.proofs.write_results.Given as goal

abbrev pub invariant-loop-j : goal.invariant-loop-j
invariant-loop-j l = (l.j ≤ 16) × (l.out ≡ written_from l.j l.mem l.links.base l.links.size l.k l.initial.out) × (length l.out ≡ length l.initial.out)
