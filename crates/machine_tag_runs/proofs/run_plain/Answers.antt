use Prim.Native.Nat.{◌+◌, ◌-◌, ◌*◌, ◌/◌, ◌%◌}
use native.Mathlib.Omega.{arith}
use mathlib.Core.Path.{sym, ◌∙◌, ap}
use lib.ListN.{length}
use Rattle.machine_planes.specs.Planes.{plane_at}
use Rattle.machine_runs.specs.RunLaws.{fired-idle}
use Rattle.machine_tags.specs.TagRun.{fired_under}
use Rattle.machine_tag_runs.specs.TagRunLaws.{quiet_none, quiet-more, quiet-upto, going_start, going-fire, going_end, going-full}
use Rattle.machine_tag_runs.proofs.run_plain.Goals as goal

pub overflow_mul-pairs : goal.overflow_mul-pairs
overflow_mul-pairs c = omega arith

pub loop-count-init : goal.loop-count-init
loop-count-init c = (omega arith, quiet_none c.args.mem.now, going_start c.args.mem.now c.args.n c.args.budget)

pub shape_of-mem-then-pairs-v : goal.shape_of-mem-then-pairs-v
shape_of-mem-then-pairs-v c = c.loop-count.invariant.2.len

pub returns-then-pairs-v : goal.returns-then-pairs-v
returns-then-pairs-v c = going_end c.args.mem.now c.args.n c.args.budget c.loop-count.mem c.loop-count.count c.loop-count.invariant.2 (quiet-upto c.loop-count.mem c.loop-count.v (16 * c.args.n) (omega arith) c.loop-count.invariant.1)

pub fire_pair-requires : goal.fire_pair-requires
fire_pair-requires c = omega (arith, c.loop-count.invariant.2.len)

pub overflow_add-count : goal.overflow_add-count
overflow_add-count c = omega arith

pub loop-count-smaller-then-fire_pair : goal.loop-count-smaller-then-fire_pair
loop-count-smaller-then-fire_pair c = omega arith

pub loop-count-preserved-then-fire_pair : goal.loop-count-preserved-then-fire_pair
loop-count-preserved-then-fire_pair c =
    rw c.fire_pair.ensures.1 (
      omega arith,
      quiet_none (fired_under c.loop-count.mem (c.loop-count.v / 16) (c.loop-count.v % 16)),
      going-fire c.args.mem.now c.args.n c.args.budget c.loop-count.mem c.loop-count.count c.loop-count.invariant.2 (c.loop-count.v / 16) (c.loop-count.v % 16) (omega arith) (omega arith) (omega arith)
          (quiet-upto c.loop-count.mem c.loop-count.v (16 * (c.loop-count.v / 16) + c.loop-count.v % 16) (omega arith) c.loop-count.invariant.1) (sym c.fire_pair.ensures.0 ∙ c.if-fire_pair.true) (omega (arith, ap length c.fire_pair.ensures.1)),
    )

pub overflow_add-v : goal.overflow_add-v
overflow_add-v c = omega arith

pub loop-count-smaller : goal.loop-count-smaller
loop-count-smaller c = omega arith

pub loop-count-preserved : goal.loop-count-preserved
loop-count-preserved c =
    let e = sym c.fire_pair.ensures.0 ∙ c.if-fire_pair.false in
    rw (c.fire_pair.ensures.1 ∙ fired-idle c.loop-count.mem (plane_at (c.loop-count.v % 16)) 6 (c.loop-count.v / 16) e) (omega arith, quiet-more c.loop-count.mem c.loop-count.v c.loop-count.invariant.1 e, c.loop-count.invariant.2)

pub shape_of-mem : goal.shape_of-mem
shape_of-mem c = c.loop-count.invariant.2.len

pub returns : goal.returns
returns c = going-full c.args.mem.now c.args.n c.args.budget c.loop-count.mem c.loop-count.count c.loop-count.invariant.2 (omega arith)
