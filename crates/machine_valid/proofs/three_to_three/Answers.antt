use mathlib.Core.Path.{sym, ◌∙◌}
use Rattle.machine_layout.specs.Layout.{name_at}
use Rattle.machine_valid.specs.Ports.{ic-lacking, ic-whole}
use Rattle.machine_valid.proofs.three_to_three.Goals as goal

pub returns-then-out2-eq-NOWHERE : goal.returns-then-out2-eq-NOWHERE
returns-then-out2-eq-NOWHERE c =
    (rw (c.name_at-in1.ensures.0, c.name_at-in2.ensures.0, c.name_at-in3.ensures.0, c.name_at-out1.ensures.0, c.name_at-out3.ensures.0) at c.are_apart.ensures)
    ∙ sym (ic-lacking c.args.links (name_at c.args.mem.now c.args.at) (sym c.name_at-out2.ensures.0 ∙ c.if-out2-eq-NOWHERE.true))

pub returns-else-out2-eq-NOWHERE : goal.returns-else-out2-eq-NOWHERE
returns-else-out2-eq-NOWHERE c =
    (rw (c.name_at-in1.ensures.0, c.name_at-in2.ensures.0, c.name_at-in3.ensures.0, c.name_at-out1.ensures.0, c.name_at-out2.ensures.0, c.name_at-out3.ensures.0) at c.are_apart-else-out2-eq-NOWHERE.ensures)
    ∙ sym (ic-whole c.args.links (name_at c.args.mem.now c.args.at) (λ e. c.if-out2-eq-NOWHERE.false (c.name_at-out2.ensures.0 ∙ e)))
