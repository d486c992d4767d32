use Prim.Native.Nat.{◌-◌}
use native.Mathlib.Omega.{arith}
use mathlib.Core.Path.{◌≡◌}
use Rattle.machine_rounds.specs.RoundLaws.{rounding-start, rounding-more, rounding-end, rounding-full}
use Rattle.machine_rounds.proofs.make_rounds.Goals as goal

pub loop-rounds-init : goal.loop-rounds-init
loop-rounds-init c = rounding-start c.args.mem.now c.args.links.size c.args.n c.args.lent

pub returns-then-fired-eq0 : goal.returns-then-fired-eq0
returns-then-fired-eq0 c = rounding-end c.args.mem.now c.args.links.size c.args.n c.args.lent c.loop-rounds.mem c.loop-rounds.rounds c.loop-rounds.firings c.loop-rounds.invariant c.one_round-fired.new.mem c.one_round-fired.result c.one_round-fired.ensures.0 c.if-fired-eq0.true

pub loop-rounds-preserved : goal.loop-rounds-preserved
loop-rounds-preserved c = rw c.from-firings.ensures (rounding-more c.args.mem.now c.args.links.size c.args.n c.args.lent c.loop-rounds.mem c.loop-rounds.rounds c.loop-rounds.firings c.loop-rounds.invariant c.one_round-fired.new.mem c.one_round-fired.result c.one_round-fired.ensures.0 c.loop-rounds-test.true c.if-fired-eq0.false (omega arith) c.one_round-fired.auto.mem)

pub returns : goal.returns
returns c = let e : c.loop-rounds.rounds ≡ c.args.lent = omega arith in rw e at (rounding-full c.args.mem.now c.args.links.size c.args.n c.args.lent c.loop-rounds.mem c.loop-rounds.rounds c.loop-rounds.firings c.loop-rounds.invariant (omega arith))
