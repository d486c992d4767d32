use native.Mathlib.Omega.{arith}
use mathlib.Core.Path.{◌≡◌, sym, ◌∙◌}
use Prim.Native.Nat.{◌-◌}
use mathlib.Core.Bool.{true}
use Rattle.machine_valid.specs.Below.{below-zero, below_step, below-fail}
use Rattle.machine_tags.specs.TagValid.{plane_ok}
use Rattle.machine_tag_valid.proofs.planes_ok.Goals as goal

pub loop-t-init : goal.loop-t-init
loop-t-init c = (omega arith, below-zero (plane_ok c.args.mem.now))

pub links_ok-requires : goal.links_ok-requires
links_ok-requires c = (omega (arith, c.plane.ensures.0, c.plane.ensures.1), omega arith)

pub loop-t-preserved : goal.loop-t-preserved
unfolding plane_ok
loop-t-preserved c = (omega arith, below_step c.loop-t.t (plane_ok c.args.mem.now) c.loop-t.invariant.1 (sym (rw (c.plane.ensures.0, c.plane.ensures.1, c.requires.1) at c.links_ok.ensures) ∙ c.if-not-links_ok.false))

pub returns-then-not-links_ok : goal.returns-then-not-links_ok
unfolding plane_ok
returns-then-not-links_ok c = sym (below-fail 16 (plane_ok c.args.mem.now) c.loop-t.t (omega arith) (sym (rw (c.plane.ensures.0, c.plane.ensures.1, c.requires.1) at c.links_ok.ensures) ∙ c.if-not-links_ok.true))

pub returns : goal.returns
returns c = let e : c.loop-t.t ≡ 16 = omega arith in sym (rw e at c.loop-t.invariant.1)
