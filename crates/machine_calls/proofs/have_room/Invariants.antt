use mathlib.Core.Path.{◌≡◌}
use Prim.Native.Nat.{◌-◌, ◌≤◌}
use mathlib.Core.Bool.{true}
use Rattle.machine_calls.specs.Calls.{input_room}
use Rattle.machine_valid.specs.Below.{all_below}
use Rattle.machine_calls.proofs.have_room.Given as goal

abbrev pub invariant-loop-j : goal.invariant-loop-j
invariant-loop-j l = (l.j ≤ l.k) × (all_below l.j (input_room l.mem l.links.size) ≡ true)
