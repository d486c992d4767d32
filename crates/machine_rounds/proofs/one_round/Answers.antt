use Prim.Native.Nat.{◌-◌}
use mathlib.Core.Path.{sym, ◌∙◌, ap}
use lib.ListN.{length}
use native.Mathlib.Omega.{arith}
use Rattle.machine_rounds.specs.RoundLaws.{sweeping-start, sweeping-fires, sweeping-passes, sweeping-end}
use Rattle.machine_rounds.proofs.one_round.Goals as goal
use Rattle.machine_rounds.proofs.one_round.Goals.{then-fire_at, else-fire_at}

pub loop-i-init : goal.loop-i-init
loop-i-init c = sweeping-start c.args.mem.now c.args.links.size c.args.n

pub loop-i-preserved : goal.loop-i-preserved
loop-i-preserved c =
    elim c.if-fire_at.branch [
      | then-fire_at w ↦
          rw (w.fired-is, c.fire_at.ensures.1, c.requires.0) (sweeping-fires c.args.mem.now c.args.links.size c.args.n c.loop-i.mem c.loop-i.fired c.loop-i.i c.loop-i.invariant c.loop-i-test.true (rw c.requires.0 at (sym c.fire_at.ensures.0 ∙ w.if-fire_at.true)) (sym (ap length (rw c.requires.0 at c.fire_at.ensures.1)) ∙ c.fire_at.auto.mem))
      | else-fire_at w ↦
          rw (w.fired-is, c.fire_at.ensures.1, c.requires.0) (sweeping-passes c.args.mem.now c.args.links.size c.args.n c.loop-i.mem c.loop-i.fired c.loop-i.i c.loop-i.invariant c.loop-i-test.true (rw c.requires.0 at (sym c.fire_at.ensures.0 ∙ w.if-fire_at.false)))
    ]

pub returns : goal.returns
returns c = (sweeping-end c.args.mem.now c.args.links.size c.args.n c.loop-i.mem c.loop-i.fired c.loop-i.i c.loop-i.invariant (omega arith), omega (arith, c.loop-i.invariant.each, c.loop-i.invariant.upto))
