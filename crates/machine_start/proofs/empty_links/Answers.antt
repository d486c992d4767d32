use native.Mathlib.Omega.{arith}
use mathlib.Core.Path.{◌≡◌, refl, sym, ◌∙◌}
use lib.ListN.{length-set}
use Rattle.machine_start.specs.StartLaws.{emptied-none, emptied-more}
use Rattle.machine_start.proofs.empty_links.Goals as goal

pub loop-l-init : goal.loop-l-init
loop-l-init c = (sym (emptied-none c.args.base c.args.size c.args.mem.now), refl)

pub bounds-mem-at : goal.bounds-mem-at
bounds-mem-at c = omega (arith, c.loop-l.invariant.1, c.link_from-at.ensures)

pub loop-l-preserved : goal.loop-l-preserved
loop-l-preserved c = (rw (c.link_from-at.ensures.0, c.loop-l.invariant.0) refl ∙ emptied-more c.args.base c.args.size c.args.mem.now c.loop-l.l, simp length-set c.loop-l.invariant.1)

pub shape_of-mem : goal.shape_of-mem
shape_of-mem c = c.loop-l.invariant.1

pub returns : goal.returns
returns c = let e : c.loop-l.l ≡ c.args.k = omega arith in (rw e at c.loop-l.invariant.0)
