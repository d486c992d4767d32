use native.Mathlib.Omega.{arith}
use Prim.Native.Nat.{◌-◌}
use mathlib.Core.Path.{◌≡◌, sym, ◌∙◌, refl, ap}
use Rattle.machine_calls.specs.Calls.{outcome, answers}
use Rattle.machine_tray.specs.TrayLaws.{tray-of-none, underway-first, underway-last, underway-refused, underway-next}
use Rattle.machine_tray.proofs.push_tray.Goals as goal

pub returns-in-Ok : goal.returns-in-Ok
returns-in-Ok c = let e = c.in-Ok.ensures in rw (c.reply.ensures, c.if-number-eq0.true) (rw e at (sym (tray-of-none c.args.mem.now c.args.sets.now)))

pub returns-in-Err : goal.returns-in-Err
returns-in-Err c = let e = c.in-Err.ensures in rw (c.refused.ensures, e.0, c.if-number-eq0.true) (sym (tray-of-none c.args.mem.now c.args.sets.now))

pub loop-count-init : goal.loop-count-init
loop-count-init c = (refl, omega arith, underway-first c.args.mem.now c.args.sets.now c.args.number c.set_bytes-size.result c.if-number-eq0.false c.set_bytes-size.ensures)

pub shape_of-mem-then-answer-ne0 : goal.shape_of-mem-then-answer-ne0
shape_of-mem-then-answer-ne0 c = c.push-answer.auto.mem ∙ c.loop-count.invariant.0

pub returns-then-answer-ne0 : goal.returns-then-answer-ne0
returns-then-answer-ne0 c =
    rw c.reply-then-answer-ne0.ensures (underway-refused c.args.mem.now c.args.sets.now c.args.number c.set_bytes-size.result c.loop-count.mem c.loop-count.at c.loop-count.count c.loop-count.invariant.2
    c.end_of-end.result c.end_of-end.ensures c.loop-count-test.true (outcome c.push-answer.result c.push-answer.new.mem) c.push-answer.ensures c.if-answer-ne0.true)

pub loop-count-preserved : goal.loop-count-preserved
loop-count-preserved c =
    let n = underway-next c.args.mem.now c.args.sets.now c.args.number c.set_bytes-size.result c.loop-count.mem c.loop-count.at c.loop-count.count c.loop-count.invariant.2
    c.end_of-end.result c.end_of-end.ensures c.loop-count-test.true (outcome c.push-answer.result c.push-answer.new.mem) c.push-answer.ensures c.if-answer-ne0.false in
    (c.push-answer.auto.mem ∙ c.loop-count.invariant.0, c.end_of-end.ensures.1, n)

pub shape_of-mem : goal.shape_of-mem
shape_of-mem c = c.loop-count.invariant.0

pub returns : goal.returns
returns c = let e : c.loop-count.count ≡ c.args.number = omega arith in rw (c.reply-2.ensures ∙ ap (answers 0) (sym e)) (underway-last c.args.mem.now c.args.sets.now c.args.number c.set_bytes-size.result c.loop-count.mem c.loop-count.at c.loop-count.count c.loop-count.invariant.2 (omega arith))
