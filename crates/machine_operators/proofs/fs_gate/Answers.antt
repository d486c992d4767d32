use mathlib.Core.Path.{sym, ◌∙◌, refl}
use mathlib.Core.Bool.{true, false}
use Rattle.machine_firing.specs.Links.{token_from}
use Rattle.machine_gates.specs.Decide.{is_absent, is_true}
use Rattle.machine_layout.specs.Layout.{port_of}
use Rattle.machine_firing.specs.Fire.{register_of}
use Rattle.machine_firing.specs.MoveLaws.{fires-idle, remembers, remembers-data}
use Rattle.machine_gates.specs.Gates.{fs_by}
use Rattle.machine_operators.proofs.fs_gate.Goals as goal

pub returns-then-is_absent : goal.returns-then-is_absent
unfolding fs_by
returns-then-is_absent c = rw (sym (c.is_absent.ensures (register_of c.args.mem.now c.args.i) c.register_of-register.ensures) ∙ c.if-is_absent.true) (remembers-data c.args.mem.now c.remember_data.new.mem c.args.links.base c.args.links.size c.args.i c.args.dry c.remember_data.result false true false refl (token_from c.args.mem.now c.args.links.base c.args.links.size (port_of c.args.mem.now c.args.i 1)) c.remember_data.ensures)

pub returns-then-is_absent-2 : goal.returns-then-is_absent-2
unfolding fs_by
returns-then-is_absent-2 c = rw ((sym (c.is_absent.ensures (register_of c.args.mem.now c.args.i) c.register_of-register.ensures) ∙ c.if-is_absent.false), (sym (c.is_absent-2.ensures (token_from c.args.mem.now c.args.links.base c.args.links.size (port_of c.args.mem.now c.args.i 0)) (rw c.port_of-first.ensures.0 at c.token_of-control.ensures)) ∙ c.if-is_absent-2.true)) (fires-idle c.args.mem.now c.args.links.base c.args.links.size c.args.i c.args.dry)

pub returns-then-is_true : goal.returns-then-is_true
unfolding fs_by
returns-then-is_true c = let e = (sym (c.is_absent.ensures (register_of c.args.mem.now c.args.i) c.register_of-register.ensures) ∙ c.if-is_absent.false) in rw (e, (sym (c.is_absent-2.ensures (token_from c.args.mem.now c.args.links.base c.args.links.size (port_of c.args.mem.now c.args.i 0)) (rw c.port_of-first.ensures.0 at c.token_of-control.ensures)) ∙ c.if-is_absent-2.false), (sym (c.is_true.ensures (token_from c.args.mem.now c.args.links.base c.args.links.size (port_of c.args.mem.now c.args.i 0)) (rw c.port_of-first.ensures.0 at c.token_of-control.ensures)) ∙ c.if-is_true.true)) (remembers c.args.mem.now c.remember.new.mem c.args.links.base c.args.links.size c.args.i c.args.dry c.remember.result true false false refl (register_of c.args.mem.now c.args.i) e (rw (c.port_of-first.ensures.0, c.register_of-register.ensures) at c.remember.ensures))

pub returns : goal.returns
unfolding fs_by
returns c = rw ((sym (c.is_absent.ensures (register_of c.args.mem.now c.args.i) c.register_of-register.ensures) ∙ c.if-is_absent.false), (sym (c.is_absent-2.ensures (token_from c.args.mem.now c.args.links.base c.args.links.size (port_of c.args.mem.now c.args.i 0)) (rw c.port_of-first.ensures.0 at c.token_of-control.ensures)) ∙ c.if-is_absent-2.false), (sym (c.is_true.ensures (token_from c.args.mem.now c.args.links.base c.args.links.size (port_of c.args.mem.now c.args.i 0)) (rw c.port_of-first.ensures.0 at c.token_of-control.ensures)) ∙ c.if-is_true.false)) (remembers-data c.args.mem.now c.remember_data-2.new.mem c.args.links.base c.args.links.size c.args.i c.args.dry c.remember_data-2.result true true false refl (token_from c.args.mem.now c.args.links.base c.args.links.size (port_of c.args.mem.now c.args.i 1)) (rw c.port_of-first.ensures.0 at c.remember_data-2.ensures))
