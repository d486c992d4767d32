use native.Mathlib.Omega.{arith}
use mathlib.Core.Path.{◌≡◌, sym, ◌∙◌}
use Rattle.names.proofs.Sets.{below-zero}
use Rattle.eval_words.specs.Inputs.{set_in, below_more}
use Rattle.eval_sheet.specs.Inputs.{holds-none, holds_more}
use Rattle.eval_sheet.proofs.row.hold.Goals as goal

pub loop-k-init : goal.loop-k-init
loop-k-init c = (sym (below-zero (set_in c.args.m)), omega arith, holds-none c.args.set.now c.args.n c.args.m c.args.env.now c.requires.0)

pub loop-k-preserved : goal.loop-k-preserved
loop-k-preserved c = (c.next-i.ensures.0 ∙ below_more c.args.m c.loop-k.k c.loop-k.i c.loop-k.invariant.0, omega (arith, c.next-i.ensures.1, c.loop-k.invariant.1), rw c.word_or.ensures (holds_more c.args.set.now c.args.n c.args.m c.loop-k.env c.loop-k.k c.loop-k.i c.loop-k-test.true c.loop-k.invariant.0 c.loop-k.invariant.2))

pub returns : goal.returns
returns c = let e : c.loop-k.k ≡ 32 = omega arith in rw e at c.loop-k.invariant.2
