use native.Mathlib.Omega.{arith}
use Prim.Native.Nat.{◌-◌, ◌*◌}
use mathlib.Core.Path.{refl, ◌∙◌}
use borrow.Rule.Slice.PartMut.{same_len_mid}
use lib.ListN.{length}
use Rattle.machine_log.specs.SetLaws.{set_at}
use Rattle.machine_log.specs.Steps.{hands-few}
use Rattle.machine_log.specs.FollowLaws.{underway-first, underway-last, results-in, line-lent, underway-refused, underway-next}
use Rattle.machine_log.proofs.follow.follow.Goals as goal

pub loop-j-init : goal.loop-j-init
loop-j-init c = (refl, refl, underway-first (set_at c.args.size c.args.sets.now) c.args.log.now c.args.mem.now c.args.out.now c.requires.empty)

pub slice_bounds-step-count : goal.slice_bounds-step-count
slice_bounds-step-count c =
    let b = results-in (set_at c.args.size c.args.sets.now) c.args.log.now c.args.mem.now c.args.out.now c.loop-j.j c.loop-j.mem c.loop-j.out c.loop-j.count c.loop-j.invariant.2 c.requires.room c.requires.few (omega (arith, c.div_ceil-j-end.ensures)) in
    omega (arith, b, c.loop-j.invariant.1)

pub slice_bounds-step-start : goal.slice_bounds-step-start
slice_bounds-step-start c =
    let b = results-in (set_at c.args.size c.args.sets.now) c.args.log.now c.args.mem.now c.args.out.now c.loop-j.j c.loop-j.mem c.loop-j.out c.loop-j.count c.loop-j.invariant.2 c.requires.room c.requires.few (omega (arith, c.div_ceil-j-end.ensures)) in
    omega (arith, b, c.loop-j.invariant.1)

pub step-requires : goal.step-requires
step-requires c =
    line-lent (set_at c.args.size c.args.sets.now) c.args.log.now c.args.mem.now c.args.out.now c.loop-j.j c.loop-j.mem c.loop-j.out c.loop-j.count c.loop-j.invariant.2 c.requires.room c.requires.few (omega (arith, c.div_ceil-j-end.ensures))
    c.line_at-line.result c.line_at-line.ensures c.args.size c.args.sets.now (c.requires.lie c.loop-j.j (omega (arith, c.div_ceil-j-end.ensures))) c.loop-j.invariant.1

pub returns-then-step-ne0 : goal.returns-then-step-ne0
returns-then-step-ne0 c =
    underway-refused (set_at c.args.size c.args.sets.now) c.args.log.now c.args.mem.now c.args.out.now c.loop-j.j c.loop-j.mem c.loop-j.out c.loop-j.count c.loop-j.invariant.2 c.requires.room c.requires.few (omega (arith, c.div_ceil-j-end.ensures))
    c.line_at-line.result c.line_at-line.ensures c.step.result c.step.new.mem c.step.new.room c.step.ensures c.if-step-ne0.true

pub overflow_add-count : goal.overflow_add-count
overflow_add-count c =
    let b = hands-few c.line_at-line.result in
    record { fits = omega (arith, b, c.results_of-count.ensures, c.loop-j.invariant.2.few, c.requires.few) }

pub loop-j-preserved : goal.loop-j-preserved
loop-j-preserved c = (
  c.step.auto.mem ∙ c.loop-j.invariant.0,
  same_len_mid (80 * c.loop-j.count) (length c.loop-j.out - 80 * c.loop-j.count) c.loop-j.out c.step.new.room c.step.auto.room ∙ c.loop-j.invariant.1,
  underway-next (set_at c.args.size c.args.sets.now) c.args.log.now c.args.mem.now c.args.out.now c.loop-j.j c.loop-j.mem c.loop-j.out c.loop-j.count c.loop-j.invariant.2 c.requires.room c.requires.few (omega (arith, c.div_ceil-j-end.ensures))
      c.line_at-line.result c.line_at-line.ensures c.step.result c.step.new.mem c.step.new.room c.step.ensures c.results_of-count.result c.results_of-count.ensures c.if-step-ne0.false,
)

pub returns : goal.returns
returns c = underway-last (set_at c.args.size c.args.sets.now) c.args.log.now c.args.mem.now c.args.out.now c.loop-j.j c.loop-j.mem c.loop-j.out c.loop-j.count c.loop-j.invariant.2 (omega (arith, c.div_ceil-j-end.ensures))
