use Rattle.std.specs.Prelude.{None}
use native.Mathlib.Omega.{arith}
use mathlib.Core.Path.{sym, ◌∙◌, refl}
use mathlib.Core.Bool.{true, false}
use Rattle.machine_firing.specs.Links.{token_from}
use Rattle.machine_gates.specs.Decide.{is_absent}
use Rattle.machine_layout.specs.Layout.{port_of}
use Rattle.machine_firing.specs.Fire.{register_of}
use Rattle.machine_firing.specs.MoveLaws.{moves-idle, gives-second}
use Rattle.machine_gates.specs.Gates.{copy_by}
use Rattle.machine_operators.proofs.copy.Goals as goal

pub returns-then-is_absent : goal.returns-then-is_absent
unfolding copy_by
returns-then-is_absent c = rw (sym (c.is_absent.ensures (token_from c.args.mem.now c.args.links.base c.args.links.size (port_of c.args.mem.now c.args.i 0)) (rw c.port_of-first.ensures.0 at c.token_of-token.ensures)) ∙ c.if-is_absent.true) (moves-idle c.args.mem.now c.args.links.base c.args.links.size c.args.i c.args.dry)

pub returns : goal.returns
unfolding copy_by
returns c =
    let e = (sym (c.is_absent.ensures (token_from c.args.mem.now c.args.links.base c.args.links.size (port_of c.args.mem.now c.args.i 0)) (rw c.port_of-first.ensures.0 at c.token_of-token.ensures)) ∙ c.if-is_absent.false) in
    rw e (gives-second c.args.mem.now c.give_two.new.mem c.args.links.base c.args.links.size c.args.i c.args.dry c.give_two.result true false false refl (token_from c.args.mem.now c.args.links.base c.args.links.size (port_of c.args.mem.now c.args.i 0)) (token_from c.args.mem.now c.args.links.base c.args.links.size (port_of c.args.mem.now c.args.i 0)) None (register_of c.args.mem.now c.args.i) e e refl (rw (c.port_of-first.ensures.0, (rw c.port_of-first.ensures.0 at c.token_of-token.ensures)) at c.give_two.ensures))
