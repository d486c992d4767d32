use mathlib.Core.Path.{◌≡◌}
use Prim.Native.Nat.{◌-◌, ◌≤◌}
use mathlib.Core.Bool.{true}
use Rattle.machine_valid.specs.Below.{all_below}
use Rattle.machine_tags.specs.TagCalls.{empty_link}
use Rattle.machine_tag_calls.proofs.are_empty.Given as goal

abbrev pub invariant-loop-l : goal.invariant-loop-l
invariant-loop-l l = (l.l ≤ l.k) × (all_below l.l (empty_link l.mem l.t) ≡ true)
