use native.Mathlib.Omega.{arith}
use mathlib.Core.Path.{◌≡◌, sym, ◌∙◌}
use Rattle.names.proofs.Sets.{below-zero}
use Rattle.eval_words.specs.Inputs.{set_in, below_more}
use Rattle.sheet_kinds.specs.Line.{tells_none, tells_more}
use Rattle.sheet_kinds.proofs.line.tell_kinds.Goals as goal

pub loop-k-init : goal.loop-k-init
loop-k-init c = (omega arith, sym (below-zero (set_in c.args.m)), omega arith, tells_none c.args.line.now c.args.m c.args.env.now c.requires)

pub loop-k-preserved : goal.loop-k-preserved
loop-k-preserved c = (omega arith, c.next-i.ensures.0 ∙ below_more c.args.m c.loop-k.k c.loop-k.i c.loop-k.invariant.1, omega (arith, c.next-i.ensures.1, c.loop-k.invariant.2), tells_more c.args.line.now c.args.m c.loop-k.env c.loop-k.k c.loop-k.i c.kind_at.result c.loop-k-test.true c.loop-k.invariant.1 c.kind_at.ensures c.loop-k.invariant.3)

pub returns : goal.returns
returns c = let e : c.loop-k.k ≡ 32 = omega arith in rw e at c.loop-k.invariant.3
