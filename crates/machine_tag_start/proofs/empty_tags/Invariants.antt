use mathlib.Core.Path.{◌≡◌}
use Prim.Native.Nat.{◌-◌, ◌≤◌}
use lib.ListN.{length}
use Rattle.machine_planes.specs.Planes.{most_tags}
use Rattle.machine_tag_start.specs.TagStart.{emptied_tags}
use Rattle.machine_tag_start.proofs.empty_tags.Given as goal

abbrev pub invariant-loop-t : goal.invariant-loop-t
invariant-loop-t l = (l.mem ≡ emptied_tags l.t l.links l.initial.mem) × (length l.mem ≡ length l.initial.mem)
