use Prim.Native.Nat.{◌+◌, ◌-◌, ◌*◌, ◌/◌, ◌%◌}
use native.Mathlib.Omega.{arith}
use mathlib.Core.Path.{◌≡◌, refl, sym, ◌∙◌, ap}
use lib.ListN.{length}
use Rattle.machine_tag_runs.specs.TagRunLaws.{quiet_none, quiet-more, quiet-upto, still-quiet, still-able}
use Rattle.machine_tag_runs.proofs.idle.Goals as goal

pub overflow_mul-pairs : goal.overflow_mul-pairs
overflow_mul-pairs c = omega arith

pub loop-v-init : goal.loop-v-init
loop-v-init c = (omega arith, refl, quiet_none c.args.mem.now)

pub able_at-requires : goal.able_at-requires
able_at-requires c = let l : length c.loop-v.mem ≡ length c.args.mem.now = ap length c.loop-v.invariant.1 in omega (arith, c.plane.ensures.0, c.plane.ensures.1)

pub shape_of-mem-then-able_at : goal.shape_of-mem-then-able_at
shape_of-mem-then-able_at c = ap length (c.able_at.ensures.1 ∙ c.loop-v.invariant.1)

pub returns-then-able_at : goal.returns-then-able_at
returns-then-able_at c = (
  sym (still-able c.args.mem.now c.args.n (c.loop-v.v / 16) (c.loop-v.v % 16) (omega arith) (omega arith) (quiet-upto c.args.mem.now c.loop-v.v (16 * (c.loop-v.v / 16) + c.loop-v.v % 16) (omega arith) c.loop-v.invariant.2) (sym (rw (c.loop-v.invariant.1, c.plane.ensures.0, c.plane.ensures.1) at c.able_at.ensures.0) ∙ c.if-able_at.true)),
  c.able_at.ensures.1 ∙ c.loop-v.invariant.1,
)

pub loop-v-preserved : goal.loop-v-preserved
loop-v-preserved c = (omega arith, c.able_at.ensures.1 ∙ c.loop-v.invariant.1, quiet-more c.args.mem.now c.loop-v.v c.loop-v.invariant.2 (sym (rw (c.loop-v.invariant.1, c.plane.ensures.0, c.plane.ensures.1) at c.able_at.ensures.0) ∙ c.if-able_at.false))

pub shape_of-mem : goal.shape_of-mem
shape_of-mem c = ap length c.loop-v.invariant.1

pub returns : goal.returns
returns c = (sym (still-quiet c.args.mem.now c.args.n (quiet-upto c.args.mem.now c.loop-v.v (16 * c.args.n) (omega arith) c.loop-v.invariant.2)), c.loop-v.invariant.1)
