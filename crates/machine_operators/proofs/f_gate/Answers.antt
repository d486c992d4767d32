use native.Mathlib.Omega.{arith}
use mathlib.Core.Path.{sym, ◌∙◌, refl}
use mathlib.Core.Bool.{true, false}
use Rattle.machine_firing.specs.Links.{token_from}
use Rattle.machine_gates.specs.Decide.{is_absent, is_false}
use Rattle.machine_layout.specs.Layout.{port_of}
use Rattle.machine_firing.specs.Fire.{register_of}
use Rattle.machine_firing.specs.MoveLaws.{moves-idle, passes-data, drops-data}
use Rattle.machine_gates.specs.Gates.{f_by}
use Rattle.machine_operators.proofs.f_gate.Goals as goal

pub returns-then-is_absent : goal.returns-then-is_absent
unfolding f_by
returns-then-is_absent c = rw (sym (c.is_absent.ensures (token_from c.args.mem.now c.args.links.base c.args.links.size (port_of c.args.mem.now c.args.i 0)) (rw c.port_of-first.ensures.0 at c.token_of-control.ensures)) ∙ c.if-is_absent.true) (moves-idle c.args.mem.now c.args.links.base c.args.links.size c.args.i c.args.dry)

pub returns-then-is_false : goal.returns-then-is_false
unfolding f_by
returns-then-is_false c = rw ((sym (c.is_absent.ensures (token_from c.args.mem.now c.args.links.base c.args.links.size (port_of c.args.mem.now c.args.i 0)) (rw c.port_of-first.ensures.0 at c.token_of-control.ensures)) ∙ c.if-is_absent.false), (sym (c.is_false.ensures (token_from c.args.mem.now c.args.links.base c.args.links.size (port_of c.args.mem.now c.args.i 0)) (rw c.port_of-first.ensures.0 at c.token_of-control.ensures)) ∙ c.if-is_false.true)) (passes-data c.args.mem.now c.pass_data.new.mem c.args.links.base c.args.links.size c.args.i c.args.dry c.pass_data.result true true false refl (token_from c.args.mem.now c.args.links.base c.args.links.size (port_of c.args.mem.now c.args.i 1)) (register_of c.args.mem.now c.args.i) (rw c.port_of-first.ensures.0 at c.pass_data.ensures))

pub returns : goal.returns
unfolding f_by
returns c = rw ((sym (c.is_absent.ensures (token_from c.args.mem.now c.args.links.base c.args.links.size (port_of c.args.mem.now c.args.i 0)) (rw c.port_of-first.ensures.0 at c.token_of-control.ensures)) ∙ c.if-is_absent.false), (sym (c.is_false.ensures (token_from c.args.mem.now c.args.links.base c.args.links.size (port_of c.args.mem.now c.args.i 0)) (rw c.port_of-first.ensures.0 at c.token_of-control.ensures)) ∙ c.if-is_false.false)) (drops-data c.args.mem.now c.drop_data.new.mem c.args.links.base c.args.links.size c.args.i c.args.dry c.drop_data.result true true false refl (token_from c.args.mem.now c.args.links.base c.args.links.size (port_of c.args.mem.now c.args.i 1)) (register_of c.args.mem.now c.args.i) (rw c.port_of-first.ensures.0 at c.drop_data.ensures))
