use mathlib.Core.Path.{◌≡◌}
use Prim.Native.Nat.{◌-◌, ◌≤◌}
use mathlib.Core.Bool.{true}
use Rattle.machine_valid.specs.Below.{all_below}
use Rattle.machine_tags.specs.TagValid.{untaken_under_ok}
use Rattle.machine_tag_valid.proofs.tags_ok.Given as goal

abbrev pub invariant-loop-t : goal.invariant-loop-t
invariant-loop-t l = (l.t ≤ 16) × (all_below l.t (untaken_under_ok l.mem) ≡ true)
