use native.Mathlib.Omega.{arith}
use mathlib.Core.Path.{◌≡◌, sym, ◌∙◌}
use Prim.Native.Nat.{◌-◌}
use mathlib.Core.Bool.{true}
use borrow.Author.Tests.{eq-eqb, ne_eqb}
use lib.ListN.{get_or}
use Rattle.machine_layout.specs.Layout.{link_from}
use Rattle.machine_planes.specs.Planes.{plane_at}
use Rattle.machine_valid.specs.Below.{below-zero, below_step, below-fail}
use Rattle.machine_tags.specs.TagCalls.{empty_link}
use Rattle.machine_tags.proofs.TagLaws.{empty-byte}
use Rattle.machine_tag_calls.proofs.are_empty.Goals as goal

pub loop-l-init : goal.loop-l-init
loop-l-init c = (omega arith, below-zero (empty_link c.args.mem.now c.args.t))

pub link_from-requires : goal.link_from-requires
link_from-requires c = (omega (arith, c.plane_at-base.ensures), omega arith)

pub bounds-mem-link_from : goal.bounds-mem-link_from
bounds-mem-link_from c = omega (arith, c.plane_at-base.ensures, c.link_from.ensures)

pub loop-l-preserved : goal.loop-l-preserved
loop-l-preserved c =
    let a : c.link_from.result ≡ link_from (plane_at c.args.t) 6 c.loop-l.l = rw c.plane_at-base.ensures at c.link_from.ensures.0 in
    (omega arith, below_step c.loop-l.l (empty_link c.args.mem.now c.args.t) c.loop-l.invariant.1 (empty-byte c.args.mem.now c.args.t c.loop-l.l ∙ eq-eqb (get_or c.args.mem.now (link_from (plane_at c.args.t) 6 c.loop-l.l) 0) 0 (rw a at c.if-mem-link_from-ne0.false)))

pub returns-then-mem-link_from-ne0 : goal.returns-then-mem-link_from-ne0
returns-then-mem-link_from-ne0 c =
    let a : c.link_from.result ≡ link_from (plane_at c.args.t) 6 c.loop-l.l = rw c.plane_at-base.ensures at c.link_from.ensures.0 in
    sym (below-fail c.args.k (empty_link c.args.mem.now c.args.t) c.loop-l.l (omega arith) (empty-byte c.args.mem.now c.args.t c.loop-l.l ∙ ne_eqb (get_or c.args.mem.now (link_from (plane_at c.args.t) 6 c.loop-l.l) 0) 0 (rw a at c.if-mem-link_from-ne0.true)))

pub returns : goal.returns
returns c = let e : c.loop-l.l ≡ c.args.k = omega arith in sym (rw e at c.loop-l.invariant.1)
