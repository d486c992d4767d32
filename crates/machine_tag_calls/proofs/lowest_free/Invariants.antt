use Prim.Native.Nat.{◌-◌, ◌≤◌}
use Rattle.machine_tags.specs.Least.{NoneBelow}
use Rattle.machine_tags.specs.TagCalls.{free_tag}
use Rattle.machine_tag_calls.proofs.lowest_free.Given as goal

abbrev pub invariant-loop-t : goal.invariant-loop-t
invariant-loop-t l = (l.t ≤ 16) × NoneBelow (free_tag l.mem) l.t
