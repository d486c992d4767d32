use mathlib.Core.Path.{sym, ◌∙◌, refl}
use mathlib.Core.Bool.{true, false}
use Rattle.machine_firing.specs.Links.{token_from}
use Rattle.machine_firing.specs.Moves.{Done, taken_two}
use Rattle.machine_gates.specs.Decide.{is_absent}
use Rattle.machine_layout.specs.Layout.{port_of}
use Rattle.machine_firing.proofs.drop_data.Goals as goal

pub returns-then-is_absent : goal.returns-then-is_absent
unfolding Done
returns-then-is_absent c = let e = (sym (c.is_absent.ensures (token_from c.args.mem.now c.args.links.base c.args.links.size (port_of c.args.mem.now c.args.i 1)) (rw c.port_of-l.ensures.0 at c.token_of.ensures)) ∙ c.if-is_absent.true) in (rw e refl, refl)

pub returns-then-dry : goal.returns-then-dry
unfolding Done
returns-then-dry c = let e = (sym (c.is_absent.ensures (token_from c.args.mem.now c.args.links.base c.args.links.size (port_of c.args.mem.now c.args.i 1)) (rw c.port_of-l.ensures.0 at c.token_of.ensures)) ∙ c.if-is_absent.false) in (rw e refl, rw c.if-dry.true refl)

pub returns : goal.returns
unfolding taken_two Done
returns c = let e = (sym (c.is_absent.ensures (token_from c.args.mem.now c.args.links.base c.args.links.size (port_of c.args.mem.now c.args.i 1)) (rw c.port_of-l.ensures.0 at c.token_of.ensures)) ∙ c.if-is_absent.false) in (rw e refl, rw c.if-dry.false (c.remove_from-2.ensures ∙ rw (c.port_of-l.ensures.0, c.remove_from.ensures) refl))
