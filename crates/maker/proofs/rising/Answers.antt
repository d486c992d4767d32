use native.Mathlib.Omega.{arith}
use borrow.Author.Rules.{rules}
use mathlib.Core.Path.{refl}
use lib.ListN.{length-set}
use Rattle.graph.specs.Assembly.{up_from}
use Rattle.maker.proofs.Whole.{rising-again, rising-end}
use Rattle.maker.proofs.rising.Goals as goal

pub loop-i-init : goal.loop-i-init
unfolding up_from
loop-i-init c = (omega arith, c.requires, search rules, refl)

pub loop-i-preserved : goal.loop-i-preserved
loop-i-preserved c = (omega arith, c.loop-i.invariant.1, simp length-set c.loop-i.invariant.2, rising-again c.args.k c.loop-i.i c.loop-i.links c.loop-i-test.true c.loop-i.invariant.1 c.loop-i.invariant.3)

pub returns : goal.returns
returns c = rising-end c.args.k c.loop-i.i c.loop-i.links c.loop-i.invariant.0 c.loop-i-test.false c.loop-i.invariant.3
