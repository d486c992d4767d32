use mathlib.Core.Path.{◌≡◌}
use Prim.Native.Nat.{◌-◌, ◌≤◌}
use Rattle.machine_calls.specs.Calls.{emptied_from}
use lib.ListN.{length}
use Rattle.machine_calls.proofs.empty_results.Given as goal

abbrev pub invariant-loop-j : goal.invariant-loop-j
invariant-loop-j l = (l.j ≤ l.k) × (l.mem ≡ emptied_from l.j l.initial.mem l.links.base l.links.size) × (length l.mem ≡ length l.initial.mem)
