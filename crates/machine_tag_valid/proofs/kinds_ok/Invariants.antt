use mathlib.Core.Path.{◌≡◌}
use Prim.Native.Nat.{◌-◌, ◌≤◌}
use mathlib.Core.Bool.{true}
use Rattle.machine_valid.specs.Below.{all_below}
use Rattle.machine_tags.specs.TagValid.{plain_kind}
use Rattle.machine_tag_valid.proofs.kinds_ok.Given as goal

abbrev pub invariant-loop-i : goal.invariant-loop-i
invariant-loop-i l = (l.i ≤ l.n) × (all_below l.i (plain_kind l.mem) ≡ true)
