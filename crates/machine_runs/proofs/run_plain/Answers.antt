use native.Mathlib.Omega.{arith}
use Prim.Native.Nat.{◌-◌}
use mathlib.Core.Path.{sym, ◌∙◌, ap}
use mathlib.Core.Bool.{true, false}
use lib.ListN.{length}
use Rattle.machine_firing.specs.Fire.{fired_from}
use Rattle.machine_runs.specs.RunLaws.{quiet_none, going_start, going-fire, going_next, going_end, going-full}
use Rattle.machine_runs.proofs.run_plain.Goals as goal

pub loop-count-init : goal.loop-count-init
loop-count-init c = going_start c.args.mem.now c.args.links.base c.args.links.size c.args.n c.args.budget

pub shape_of-mem-then-i-n : goal.shape_of-mem-then-i-n
shape_of-mem-then-i-n c = c.loop-count.invariant.len

pub returns-then-i-n : goal.returns-then-i-n
returns-then-i-n c = going_end c.args.mem.now c.args.links.base c.args.links.size c.args.n c.args.budget c.loop-count.mem c.loop-count.count c.loop-count.i c.loop-count.invariant c.if-i-n.true

pub overflow_add-count : goal.overflow_add-count
overflow_add-count c = omega arith

pub loop-count-smaller-then-fire_at : goal.loop-count-smaller-then-fire_at
loop-count-smaller-then-fire_at c = omega arith

pub loop-count-preserved-then-fire_at : goal.loop-count-preserved-then-fire_at
loop-count-preserved-then-fire_at c = rw c.fire_at.ensures.1 (going-fire c.args.mem.now c.args.links.base c.args.links.size c.args.n c.args.budget c.loop-count.mem c.loop-count.count c.loop-count.i c.loop-count.invariant 0 (omega arith) (omega arith) (omega arith) (sym c.fire_at.ensures.0 ∙ c.if-fire_at.true) (omega (arith, ap length c.fire_at.ensures.1)) (quiet_none (fired_from c.loop-count.mem c.args.links.base c.args.links.size c.loop-count.i) c.args.links.base c.args.links.size))

pub overflow_add-i : goal.overflow_add-i
overflow_add-i c = omega arith

pub loop-count-smaller : goal.loop-count-smaller
loop-count-smaller c = omega arith

pub loop-count-preserved : goal.loop-count-preserved
loop-count-preserved c = rw c.fire_at.ensures.1 (going_next c.args.mem.now c.args.links.base c.args.links.size c.args.n c.args.budget c.loop-count.mem c.loop-count.count c.loop-count.i c.loop-count.invariant (omega arith) (sym c.fire_at.ensures.0 ∙ c.if-fire_at.false))

pub shape_of-mem : goal.shape_of-mem
shape_of-mem c = c.loop-count.invariant.len

pub returns : goal.returns
returns c = going-full c.args.mem.now c.args.links.base c.args.links.size c.args.n c.args.budget c.loop-count.mem c.loop-count.count c.loop-count.i c.loop-count.invariant (omega arith)
