use Rattle.std.specs.Prelude.{Some}
use native.Mathlib.Omega.{arith}
use mathlib.Core.Path.{sym, ◌∙◌, refl}
use mathlib.Core.Bool.{true, false}
use Rattle.machine_firing.specs.Links.{token_from}
use Rattle.machine_gates.specs.Decide.{is_absent, is_true, is_false}
use Rattle.machine_layout.specs.Layout.{port_of}
use Rattle.value.specs.Bytes.{word_of}
use Rattle.network.specs.Values.{err-value}
use Rattle.machine_firing.specs.MoveLaws.{moves-idle, passes-data, gives_one}
use Rattle.machine_gates.specs.Gates.{m_by}
use Rattle.machine_operators.proofs.m_gate.Goals as goal

pub returns-then-is_absent : goal.returns-then-is_absent
unfolding m_by
returns-then-is_absent c = λ g. rw (sym (c.is_absent.ensures (token_from c.args.mem.now c.args.links.base c.args.links.size (port_of c.args.mem.now c.args.i 0)) (rw c.port_of-first.ensures.0 at c.token_of-control.ensures)) ∙ c.if-is_absent.true) (moves-idle c.args.mem.now c.args.links.base c.args.links.size c.args.i c.args.dry)

pub returns-then-is_true : goal.returns-then-is_true
unfolding m_by
returns-then-is_true c = λ g. rw ((sym (c.is_absent.ensures (token_from c.args.mem.now c.args.links.base c.args.links.size (port_of c.args.mem.now c.args.i 0)) (rw c.port_of-first.ensures.0 at c.token_of-control.ensures)) ∙ c.if-is_absent.false), (sym (c.is_true.ensures (token_from c.args.mem.now c.args.links.base c.args.links.size (port_of c.args.mem.now c.args.i 0)) (rw c.port_of-first.ensures.0 at c.token_of-control.ensures)) ∙ c.if-is_true.true)) (passes-data c.args.mem.now c.pass_data.new.mem c.args.links.base c.args.links.size c.args.i c.args.dry c.pass_data.result true true false refl (token_from c.args.mem.now c.args.links.base c.args.links.size (port_of c.args.mem.now c.args.i 1)) g (rw c.port_of-first.ensures.0 at c.pass_data.ensures))

pub returns-then-is_false : goal.returns-then-is_false
unfolding m_by
returns-then-is_false c = λ g. rw ((sym (c.is_absent.ensures (token_from c.args.mem.now c.args.links.base c.args.links.size (port_of c.args.mem.now c.args.i 0)) (rw c.port_of-first.ensures.0 at c.token_of-control.ensures)) ∙ c.if-is_absent.false), (sym (c.is_true.ensures (token_from c.args.mem.now c.args.links.base c.args.links.size (port_of c.args.mem.now c.args.i 0)) (rw c.port_of-first.ensures.0 at c.token_of-control.ensures)) ∙ c.if-is_true.false), (sym (c.is_false.ensures (token_from c.args.mem.now c.args.links.base c.args.links.size (port_of c.args.mem.now c.args.i 0)) (rw c.port_of-first.ensures.0 at c.token_of-control.ensures)) ∙ c.if-is_false.true)) (passes-data c.args.mem.now c.pass_data-then-is_false.new.mem c.args.links.base c.args.links.size c.args.i c.args.dry c.pass_data-then-is_false.result true false true refl (token_from c.args.mem.now c.args.links.base c.args.links.size (port_of c.args.mem.now c.args.i 2)) g (rw c.port_of-first.ensures.0 at c.pass_data-then-is_false.ensures))

pub returns : goal.returns
unfolding m_by word_of
returns c = λ g. rw ((sym (c.is_absent.ensures (token_from c.args.mem.now c.args.links.base c.args.links.size (port_of c.args.mem.now c.args.i 0)) (rw c.port_of-first.ensures.0 at c.token_of-control.ensures)) ∙ c.if-is_absent.false), (sym (c.is_true.ensures (token_from c.args.mem.now c.args.links.base c.args.links.size (port_of c.args.mem.now c.args.i 0)) (rw c.port_of-first.ensures.0 at c.token_of-control.ensures)) ∙ c.if-is_true.false), (sym (c.is_false.ensures (token_from c.args.mem.now c.args.links.base c.args.links.size (port_of c.args.mem.now c.args.i 0)) (rw c.port_of-first.ensures.0 at c.token_of-control.ensures)) ∙ c.if-is_false.false)) (gives_one c.args.mem.now c.give_one.new.mem c.args.links.base c.args.links.size c.args.i c.args.dry c.give_one.result true false false refl (Some err-value) g refl (rw c.port_of-first.ensures.0 at c.give_one.ensures))
