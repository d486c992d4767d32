use native.Mathlib.Omega.{arith}
use mathlib.Core.Path.{◌≡◌, refl, sym, ap, ◌∙◌}
use mathlib.Core.List.{List}
use Prim.Native.Nat.{ℕ, ◌+◌, ◌-◌}
use lib.ListN.{set, length-set}
use Rattle.machine_layout.specs.Layout.{least_size}
use Rattle.machine_start.specs.Start.{cleared_from}
use Rattle.machine_planes.specs.Planes.{most_tags, plane_at, tags_at}
use Rattle.machine_tag_start.specs.TagStart.{emptied_tags}
use Rattle.machine_tag_start.specs.TagStartLaws.{emptied-tags-none, emptied-tags-more}
use Rattle.machine_tag_start.proofs.empty_tags.Goals as goal

pub loop-t-init : goal.loop-t-init
loop-t-init c = (sym (emptied-tags-none c.args.links c.args.mem.now), refl)

pub empty_links-requires : goal.empty_links-requires
empty_links-requires c = omega (arith, c.loop-t.invariant.1, c.plane_at.ensures)

pub bounds-mem-t : goal.bounds-mem-t
bounds-mem-t c = omega (arith, c.loop-t.invariant.1, c.mem-1.given)

pub loop-t-preserved : goal.loop-t-preserved
loop-t-preserved c =
    let p : c.plane_at.result ≡ plane_at c.loop-t.t = c.plane_at.ensures in
    let e : cleared_from c.args.links c.plane_at.result least_size c.loop-t.mem ≡ cleared_from c.args.links (plane_at c.loop-t.t) least_size (emptied_tags c.loop-t.t c.args.links c.args.mem.now) = rw (p, c.loop-t.invariant.0) refl in (
      ap (λ (m : List ℕ). set m (tags_at + c.loop-t.t) 0) (c.empty_links.ensures ∙ e) ∙ emptied-tags-more c.loop-t.t c.args.links c.args.mem.now,
      simp length-set (c.mem-1.given ∙ c.loop-t.invariant.1),
    )

pub shape_of-mem : goal.shape_of-mem
shape_of-mem c = c.loop-t.invariant.1

pub returns : goal.returns
returns c = let e : c.loop-t.t ≡ most_tags = omega arith in (rw e at c.loop-t.invariant.0)
