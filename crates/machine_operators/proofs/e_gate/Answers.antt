use Rattle.std.specs.Prelude.{Some}
use native.Mathlib.Omega.{arith}
use mathlib.Core.Path.{sym, ◌∙◌, refl}
use mathlib.Core.Bool.{true, false}
use Rattle.machine_firing.specs.Links.{token_from}
use Rattle.machine_gates.specs.Decide.{is_absent, is_neither}
use Rattle.machine_layout.specs.Layout.{port_of}
use Rattle.machine_firing.specs.Fire.{register_of}
use Rattle.value.specs.Bytes.{word_of}
use Rattle.network.specs.Values.{err-value}
use Rattle.machine_firing.specs.MoveLaws.{moves-idle, passes-data, gives_one}
use Rattle.machine_gates.specs.Gates.{e_by}
use Rattle.machine_operators.proofs.e_gate.Goals as goal

pub returns-then-is_absent : goal.returns-then-is_absent
unfolding e_by
returns-then-is_absent c = rw (sym (c.is_absent.ensures (token_from c.args.mem.now c.args.links.base c.args.links.size (port_of c.args.mem.now c.args.i 0)) (rw c.port_of-first.ensures.0 at c.token_of-control.ensures)) ∙ c.if-is_absent.true) (moves-idle c.args.mem.now c.args.links.base c.args.links.size c.args.i c.args.dry)

pub returns-then-is_neither : goal.returns-then-is_neither
unfolding e_by word_of
returns-then-is_neither c = rw ((sym (c.is_absent.ensures (token_from c.args.mem.now c.args.links.base c.args.links.size (port_of c.args.mem.now c.args.i 0)) (rw c.port_of-first.ensures.0 at c.token_of-control.ensures)) ∙ c.if-is_absent.false), (sym (c.is_neither.ensures (token_from c.args.mem.now c.args.links.base c.args.links.size (port_of c.args.mem.now c.args.i 0)) (rw c.port_of-first.ensures.0 at c.token_of-control.ensures)) ∙ c.if-is_neither.true)) (gives_one c.args.mem.now c.give_one.new.mem c.args.links.base c.args.links.size c.args.i c.args.dry c.give_one.result true false false refl (Some err-value) (register_of c.args.mem.now c.args.i) refl (rw c.port_of-first.ensures.0 at c.give_one.ensures))

pub returns : goal.returns
unfolding e_by
returns c = rw ((sym (c.is_absent.ensures (token_from c.args.mem.now c.args.links.base c.args.links.size (port_of c.args.mem.now c.args.i 0)) (rw c.port_of-first.ensures.0 at c.token_of-control.ensures)) ∙ c.if-is_absent.false), (sym (c.is_neither.ensures (token_from c.args.mem.now c.args.links.base c.args.links.size (port_of c.args.mem.now c.args.i 0)) (rw c.port_of-first.ensures.0 at c.token_of-control.ensures)) ∙ c.if-is_neither.false)) (passes-data c.args.mem.now c.pass_data.new.mem c.args.links.base c.args.links.size c.args.i c.args.dry c.pass_data.result true true false refl (token_from c.args.mem.now c.args.links.base c.args.links.size (port_of c.args.mem.now c.args.i 1)) (register_of c.args.mem.now c.args.i) (rw c.port_of-first.ensures.0 at c.pass_data.ensures))
