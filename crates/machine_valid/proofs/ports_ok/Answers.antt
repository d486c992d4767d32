use native.Mathlib.Omega.{arith}
use mathlib.Core.Path.{refl, sym, ◌∙◌}
use Rattle.machine_layout.specs.Layout.{name_at}
use Rattle.machine_valid.specs.Ports.{binary, unary, selector, control, merge, copies, two-to-one, one-to-one, one-to-two, three-to-one, no_kind, past-kinds}
use Rattle.machine_valid.proofs.ports_ok.Goals as goal
use Rattle.machine_valid.proofs.ports_ok.Goals.{in-17-1, in_default+else-kind-lt1+then-kind-lt10, in_default+else-kind-lt1+else-kind-lt10+else-kind-lt13+then-kind-lt16}

pub returns-in-13 : goal.returns-in-13
returns-in-13 c = c.one_to_two.ensures ∙ sym (one-to-two c.args.kind c.args.links (name_at c.args.mem.now c.args.at) (copies c.args.kind c.in-13.is))

pub returns-in-16 : goal.returns-in-16
returns-in-16 c = c.three_to_one.ensures ∙ sym (three-to-one c.args.kind c.args.links (name_at c.args.mem.now c.args.at) (merge c.args.kind c.in-16.is))

pub returns-in-18 : goal.returns-in-18
returns-in-18 c = c.three_to_three.ensures ∙ sym (rw c.in-18.is refl)

pub returns-in-10-to-12 : goal.returns-in-10-to-12
returns-in-10-to-12 c = c.one_to_one.ensures ∙ sym (one-to-one c.args.kind c.args.links (name_at c.args.mem.now c.args.at) (unary c.args.kind c.in-10-to-12.if-kind-lt10-own.false (omega (arith, c.in-10-to-12.if-kind-lt13-own.true))))

pub returns-in_default : goal.returns-in_default
returns-in_default c = no_kind c.args.kind c.args.links (name_at c.args.mem.now c.args.at) c.in_default.if-kind-lt1-own.true

pub returns-in_default-2 : goal.returns-in_default-2
returns-in_default-2 c = past-kinds c.args.kind c.args.links (name_at c.args.mem.now c.args.at) c.in_default.if-kind-lt16-own.false c.in_default.in_default-own.rest.0.1 c.in_default.in_default-own.rest.0.0.0.1 c.in_default.in_default-own.rest.1

pub returns-in-1-to-9 : goal.returns-in-1-to-9
returns-in-1-to-9 c =
    c.two_to_one.ensures
    ∙ sym (two-to-one c.args.kind c.args.links (name_at c.args.mem.now c.args.at)
    (elim c.in-1-to-9-1.branch [
      | in-17-1 w ↦ control c.args.kind w.in-17-1.keys1
      | in_default+else-kind-lt1+then-kind-lt10 w ↦ binary c.args.kind (omega arith) (omega arith)
      | in_default+else-kind-lt1+else-kind-lt10+else-kind-lt13+then-kind-lt16 w ↦ selector c.args.kind (omega arith) (omega arith) (omega arith)
    ]))
