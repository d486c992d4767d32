use native.Mathlib.Omega.{arith}
use mathlib.Core.Path.{sym, ap, ◌∙◌}
use Rattle.formula.proofs.Acceptance.{low-row, accepted-passed, rejected-refused}
use Rattle.machine_tag_start.specs.TagStart.{loop_answer}
use Rattle.machine_tag_start.proofs.refuse_loop.Goals as goal

pub overflow_cast-row : goal.overflow_cast-row
overflow_cast-row c =
    let m = low-row c.args.sheet.now c.args.line.now c.in-Err.field-0.refusal c.in-Err.field-0.row (rejected-refused c.args.sheet.now c.args.line.now c.in-Err.field-0.refusal c.in-Err.field-0.row (sym c.read.ensures ∙ c.in-Err.is)) in
    omega arith

pub returns-in-Ok : goal.returns-in-Ok
returns-in-Ok c = c.refused.ensures ∙ sym (ap loop_answer (accepted-passed c.args.sheet.now c.args.line.now _ (sym c.read.ensures ∙ c.in-Ok.is)))

pub returns-in-Err : goal.returns-in-Err
returns-in-Err c = c.refused-in-Err.ensures ∙ sym (ap loop_answer (rejected-refused c.args.sheet.now c.args.line.now c.in-Err.field-0.refusal c.in-Err.field-0.row (sym c.read.ensures ∙ c.in-Err.is)))
