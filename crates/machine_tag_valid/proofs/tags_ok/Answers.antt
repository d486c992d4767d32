use native.Mathlib.Omega.{arith}
use mathlib.Core.Path.{◌≡◌, sym}
use Prim.Native.Nat.{◌-◌}
use mathlib.Core.Bool.{true}
use borrow.Author.Tests.{le-leb, lt-leb}
use Rattle.machine_valid.specs.Below.{below-zero, below_step, below-fail}
use Rattle.machine_planes.specs.Planes.{untaken_under}
use Rattle.machine_tags.specs.TagValid.{untaken_under_ok}
use Rattle.machine_tag_valid.proofs.tags_ok.Goals as goal

pub loop-t-init : goal.loop-t-init
loop-t-init c = (omega arith, below-zero (untaken_under_ok c.args.mem.now))

pub loop-t-preserved : goal.loop-t-preserved
unfolding untaken_under_ok
loop-t-preserved c = (omega arith, below_step c.loop-t.t (untaken_under_ok c.args.mem.now) c.loop-t.invariant.1 (le-leb (untaken_under c.args.mem.now c.loop-t.t) 1 (rw c.untaken_under.ensures at c.if-untaken_under-gt1.false)))

pub returns-then-untaken_under-gt1 : goal.returns-then-untaken_under-gt1
unfolding untaken_under_ok
returns-then-untaken_under-gt1 c = sym (below-fail 16 (untaken_under_ok c.args.mem.now) c.loop-t.t (omega arith) (lt-leb (untaken_under c.args.mem.now c.loop-t.t) 1 (rw c.untaken_under.ensures at c.if-untaken_under-gt1.true)))

pub returns : goal.returns
returns c = let e : c.loop-t.t ≡ 16 = omega arith in sym (rw e at c.loop-t.invariant.1)
