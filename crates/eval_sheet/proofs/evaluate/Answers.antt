use native.Mathlib.Omega.{arith}
use Prim.Native.Nat.{◌-◌}
use mathlib.Core.Path.{refl, sym, ap, ◌∙◌}
use Rattle.sheet_read.specs.Reading.{verdict_in}
use lib.ListN.{replicate, length}
use lib.Seq.{length-take-le}
use Rattle.eval_sheet.specs.Rows.{rows-some, rows_few, fields-long, widths-long, row_of, mask-of, line-long, letters-count, accepted-is, refused-is}
use Rattle.eval_sheet.proofs.evaluate.Goals as goal

pub fill_tables-tested-requires : goal.fill_tables-tested-requires
fill_tables-tested-requires c = (refl, refl, refl)

pub overflow_mul-end : goal.overflow_mul-end
overflow_mul-end c = let b = rows_few c.args.sheet.now c.args.line.now _ c.fill_tables-tested.ensures (ap verdict_in c.in-Ok.is) in omega (arith, b)

pub overflow_sub-last : goal.overflow_sub-last
overflow_sub-last c = let b = rows-some c.args.sheet.now c.args.line.now _ c.fill_tables-tested.ensures (ap verdict_in c.in-Ok.is) in omega (arith, b)

pub offset_bounds-masks-last : goal.offset_bounds-masks-last
offset_bounds-masks-last c = let b = rows_few c.args.sheet.now c.args.line.now _ c.fill_tables-tested.ensures (ap verdict_in c.in-Ok.is) in omega (arith, b)

pub bounds-masks-last : goal.bounds-masks-last
bounds-masks-last c = let b = rows_few c.args.sheet.now c.args.line.now _ c.fill_tables-tested.ensures (ap verdict_in c.in-Ok.is) in let a = rows-some c.args.sheet.now c.args.line.now _ c.fill_tables-tested.ensures (ap verdict_in c.in-Ok.is) in omega (arith, a, b)

pub slice_bounds-fields-end : goal.slice_bounds-fields-end
slice_bounds-fields-end c = fields-long c.args.sheet.now c.args.line.now _ c.fill_tables-tested.ensures (ap verdict_in c.in-Ok.is)

pub slice_bounds-evaluate_row-end : goal.slice_bounds-evaluate_row-end
slice_bounds-evaluate_row-end c = sym (length-take-le _ _ (fields-long c.args.sheet.now c.args.line.now _ c.fill_tables-tested.ensures (ap verdict_in c.in-Ok.is)))

pub slice_bounds-returned-end : goal.slice_bounds-returned-end
slice_bounds-returned-end c = widths-long c.args.sheet.now c.args.line.now _ c.fill_tables-tested.ensures (ap verdict_in c.in-Ok.is)

pub slice_bounds-evaluate_row-end-in-Ok : goal.slice_bounds-evaluate_row-end-in-Ok
slice_bounds-evaluate_row-end-in-Ok c = sym (length-take-le _ _ (widths-long c.args.sheet.now c.args.line.now _ c.fill_tables-tested.ensures (ap verdict_in c.in-Ok.is)))

pub slice_bounds-evaluate_row-end-in-Ok-2 : goal.slice_bounds-evaluate_row-end-in-Ok-2
slice_bounds-evaluate_row-end-in-Ok-2 c = sym (length-take-le _ _ (line-long c.args.sheet.now c.args.line.now _ c.fill_tables-tested.ensures (ap verdict_in c.in-Ok.is) c.inputs_in-inputs.result c.inputs_in-inputs.ensures.0))

pub evaluate_row-requires : goal.evaluate_row-requires
evaluate_row-requires c = (row_of c.args.sheet.now c.args.line.now _ c.fill_tables-tested.ensures (ap verdict_in c.in-Ok.is), mask-of c.args.sheet.now c.args.line.now _ c.fill_tables-tested.ensures (ap verdict_in c.in-Ok.is), letters-count c.args.sheet.now c.args.line.now _ c.fill_tables-tested.ensures (ap verdict_in c.in-Ok.is) c.inputs_in-inputs.result c.inputs_in-inputs.ensures.0)

pub returns-in-Err : goal.returns-in-Err
returns-in-Err c = c.refuse.ensures ∙ refused-is c.args.sheet.now c.args.line.now c.args.set.now c.args.rounds c.in-Err.field-0.refusal c.in-Err.field-0.row (sym c.fill_tables-tested.ensures.verdict ∙ ap verdict_in c.in-Err.is)

pub returns-in-Ok : goal.returns-in-Ok
returns-in-Ok c = c.evaluate_row.ensures ∙ accepted-is c.args.sheet.now c.args.line.now _ c.fill_tables-tested.ensures (ap verdict_in c.in-Ok.is) c.inputs_in-inputs.result c.inputs_in-inputs.ensures.0 c.args.set.now c.args.rounds
