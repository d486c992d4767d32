use native.Mathlib.Omega.{arith}
use mathlib.Core.Path.{◌≡◌, refl, sym, ◌∙◌}
use Prim.Native.Nat.{◌-◌}
use Rattle.names.proofs.Sets.{below-zero}
use Rattle.eval_words.specs.Inputs.{set_in, below_more}
use Rattle.sheet_drift.specs.Numbers.{order-none, order-more}
use Rattle.sheet_drift.proofs.numbers.in_order.Goals as goal

pub loop-k-init : goal.loop-k-init
loop-k-init c = (omega arith, sym (below-zero (set_in c.args.free)), omega arith, order-none c.args.s.now c.args.free _ refl)

pub loop-k-preserved : goal.loop-k-preserved
loop-k-preserved c = (omega arith, c.next-i.ensures.0 ∙ below_more c.args.free c.loop-k.k c.loop-k.i c.loop-k.invariant.1, omega (arith, c.next-i.ensures.1, c.loop-k.invariant.2), order-more c.args.s.now c.args.free c.loop-k.env c.loop-k.k c.loop-k.i c.number_at.result c.loop-k-test.true c.loop-k.invariant.1 c.number_at.ensures c.loop-k.invariant.3)

pub returns : goal.returns
returns c = let e : c.loop-k.k ≡ 32 = omega arith in rw e at c.loop-k.invariant.3
