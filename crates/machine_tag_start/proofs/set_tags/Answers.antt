use native.Mathlib.Omega.{arith}
use mathlib.Core.Path.{ap, ◌∙◌}
use Prim.Native.Nat.{ℕ}
use lib.ListN.{set, length-set}
use Rattle.machine_layout.specs.Layout.{capacity_at}
use Rattle.machine_planes.specs.Planes.{most_tags}
use Rattle.machine_tags.specs.TagValid.{tag_mark}
use Rattle.machine_tag_start.specs.TagStart.{emptied_tags}
use Rattle.machine_tag_start.proofs.set_tags.Goals as goal

pub empty_tags-requires : goal.empty_tags-requires
empty_tags-requires c = (simp length-set (omega arith), omega (arith, c.links-links.ensures))

pub shape_of-mem : goal.shape_of-mem
shape_of-mem c = c.mem-1.given ∙ length-set c.args.mem.now capacity_at tag_mark

pub returns : goal.returns
returns c = c.empty_tags.ensures ∙ ap (λ (k : ℕ). emptied_tags most_tags k (set c.args.mem.now capacity_at tag_mark)) c.links-links.ensures.0
