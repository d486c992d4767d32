use native.Mathlib.Omega.{arith}
use mathlib.Core.Path.{ap, subst, ◌∙◌}
use Rattle.machine_calls.specs.Calls.{outcome, handed, pushed}
use Rattle.machine_log.specs.SetLaws.{set_at}
use Rattle.machine_log.specs.Steps.{Lent, size-within, set-cut, stepped-push, stepped-fire, stepped-take, stepped-malformed}
use Rattle.machine_log.proofs.follow.step.Goals as goal

pub overflow_mul-end : goal.overflow_mul-end
overflow_mul-end c =
    let p = subst (Lent c.args.size c.args.sets.now c.args.mem.now c.args.room.now) c.in-Push.is c.requires in
    record { fits = omega (arith, p.1) }

pub overflow_sub-at : goal.overflow_sub-at
overflow_sub-at c =
    let p = subst (Lent c.args.size c.args.sets.now c.args.mem.now c.args.room.now) c.in-Push.is c.requires in
    omega (arith, size-within c.args.size c.in-Push.n p.0)

pub slice_bounds-push-end : goal.slice_bounds-push-end
slice_bounds-push-end c =
    let p = subst (Lent c.args.size c.args.sets.now c.args.mem.now c.args.room.now) c.in-Push.is c.requires in
    omega (arith, p.1)

pub returns-in-Push : goal.returns-in-Push
returns-in-Push c =
    let p = subst (Lent c.args.size c.args.sets.now c.args.mem.now c.args.room.now) c.in-Push.is c.requires in
    rw c.in-Push.is
    (stepped-push c.args.size c.args.sets.now c.args.mem.now c.args.room.now c.in-Push.n (outcome c.push.result c.push.new.mem)
    (c.push.ensures ∙ ap (pushed c.args.mem.now) (set-cut c.args.size c.args.sets.now c.args.mem.now c.args.room.now c.in-Push.n p.0)))

pub returns-in-Fire : goal.returns-in-Fire
returns-in-Fire c = rw c.in-Fire.is (stepped-fire (set_at c.args.size c.args.sets.now) c.args.mem.now c.args.room.now c.in-Fire.operator (outcome c.fire.result c.fire.new.mem) c.fire.ensures)

pub returns-in-Take : goal.returns-in-Take
returns-in-Take c =
    let p = subst (Lent c.args.size c.args.sets.now c.args.mem.now c.args.room.now) c.in-Take.is c.requires in
    rw c.in-Take.is (stepped-take (set_at c.args.size c.args.sets.now) c.args.mem.now c.args.room.now p (handed c.take.result c.take.new.mem c.take.new.out) c.take.ensures)

pub returns-in-Malformed : goal.returns-in-Malformed
returns-in-Malformed c = rw (c.in-Malformed.is, c.from.ensures) (stepped-malformed (set_at c.args.size c.args.sets.now) c.args.mem.now c.args.room.now)
