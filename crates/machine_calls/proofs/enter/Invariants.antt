use mathlib.Core.Path.{◌≡◌}
use Prim.Native.Nat.{◌-◌, ◌≤◌}
use Rattle.machine_calls.specs.Calls.{entered_from}
use lib.ListN.{length, set}
use Rattle.machine_calls.proofs.enter.Given as goal

abbrev pub invariant-loop-j : goal.invariant-loop-j
invariant-loop-j l = (l.j ≤ l.k) × (l.mem ≡ entered_from l.j l.initial.mem l.links.base l.links.size l.set) × (length l.mem ≡ length l.initial.mem)
