use mathlib.Core.Path.{sym, ◌∙◌, refl}
use mathlib.Core.Bool.{true, false}
use Rattle.machine_firing.specs.Links.{token_from}
use Rattle.machine_gates.specs.Decide.{is_absent}
use Rattle.machine_layout.specs.Layout.{port_of}
use Rattle.machine_firing.specs.Fire.{register_of}
use Rattle.machine_firing.specs.MoveLaws.{moves-idle, gives_one}
use Rattle.machine_gates.specs.Gates.{constant_by}
use Rattle.machine_operators.proofs.constant.Goals as goal

pub returns-then-is_absent : goal.returns-then-is_absent
unfolding constant_by
returns-then-is_absent c = rw (sym (c.is_absent.ensures (token_from c.args.mem.now c.args.links.base c.args.links.size (port_of c.args.mem.now c.args.i 0)) (rw c.port_of-trigger.ensures.0 at c.token_of.ensures)) ∙ c.if-is_absent.true) (moves-idle c.args.mem.now c.args.links.base c.args.links.size c.args.i c.args.dry)

pub returns-then-is_absent-2 : goal.returns-then-is_absent-2
unfolding constant_by
returns-then-is_absent-2 c = rw ((sym (c.is_absent.ensures (token_from c.args.mem.now c.args.links.base c.args.links.size (port_of c.args.mem.now c.args.i 0)) (rw c.port_of-trigger.ensures.0 at c.token_of.ensures)) ∙ c.if-is_absent.false), (sym (c.is_absent-2.ensures (register_of c.args.mem.now c.args.i) c.register_of-register.ensures) ∙ c.if-is_absent-2.true)) (moves-idle c.args.mem.now c.args.links.base c.args.links.size c.args.i c.args.dry)

pub returns : goal.returns
unfolding constant_by
returns c =
    let e = (sym (c.is_absent.ensures (token_from c.args.mem.now c.args.links.base c.args.links.size (port_of c.args.mem.now c.args.i 0)) (rw c.port_of-trigger.ensures.0 at c.token_of.ensures)) ∙ c.if-is_absent.false) in
    let f = (sym (c.is_absent-2.ensures (register_of c.args.mem.now c.args.i) c.register_of-register.ensures) ∙ c.if-is_absent-2.false) in
    rw (e, f) (gives_one c.args.mem.now c.give_one.new.mem c.args.links.base c.args.links.size c.args.i c.args.dry c.give_one.result true false false refl (register_of c.args.mem.now c.args.i) (register_of c.args.mem.now c.args.i) f (rw (c.port_of-trigger.ensures.0, c.register_of-register.ensures) at c.give_one.ensures))
