use Rattle.std.specs.Prelude.{Some}
use native.Mathlib.Omega.{arith}
use mathlib.Core.Path.{sym, ◌∙◌, refl}
use mathlib.Core.Bool.{true, false}
use Rattle.machine_firing.specs.Links.{token_from}
use Rattle.machine_gates.specs.Decide.{is_absent}
use Rattle.machine_layout.specs.Layout.{port_of}
use Rattle.machine_firing.specs.Fire.{register_of}
use Rattle.network.specs.Values.{true-value}
use Rattle.machine_firing.specs.MoveLaws.{passes-data}
use Rattle.machine_gates.specs.Gates.{fm_by}
use Rattle.machine_operators.proofs.fm_gate.Goals as goal

pub returns-then-is_absent : goal.returns-then-is_absent
unfolding fm_by
returns-then-is_absent c = rw (sym (c.is_absent.ensures (register_of c.args.mem.now c.args.i) c.register_of.ensures) ∙ c.if-is_absent.true) (passes-data c.args.mem.now c.pass_data.new.mem c.args.links.base c.args.links.size c.args.i c.args.dry c.pass_data.result false false true refl (token_from c.args.mem.now c.args.links.base c.args.links.size (port_of c.args.mem.now c.args.i 2)) (Some true-value) c.pass_data.ensures)

pub returns : goal.returns
unfolding fm_by
returns c = rw (sym (c.is_absent.ensures (register_of c.args.mem.now c.args.i) c.register_of.ensures) ∙ c.if-is_absent.false) (c.m_gate.ensures (Some true-value))
