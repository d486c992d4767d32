use mathlib.Core.Path.{◌≡◌}
use Prim.Native.Nat.{◌-◌, ◌≤◌}
use mathlib.Core.Bool.{true}
use Rattle.machine_calls.specs.Calls.{result_ready_from}
use Rattle.machine_valid.specs.Below.{all_below}
use Rattle.machine_calls.proofs.are_ready.Given as goal

abbrev pub invariant-loop-j : goal.invariant-loop-j
invariant-loop-j l = (l.j ≤ l.k) × (all_below l.j (result_ready_from l.mem l.links.base l.links.size) ≡ true)
