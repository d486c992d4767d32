use native.Mathlib.Omega.{arith}
use mathlib.Core.Path.{sym, ap, ◌∙◌, refl}
use lib.ListN.{length}
use lib.Seq.{length-take-le}
use Rattle.formula.proofs.Acceptance.{low-row}
use Rattle.sheet_read.specs.Reading.{verdict_in}
use Rattle.sheet_drift.specs.declared.DriftAnswer.{DriftAnswer}
use Rattle.sheet_drift.specs.Drifting.{handed}
use Rattle.sheet_drift.specs.Tested.{rows-some, rows_few, tabled, verdict-is, moves-are, verdict-first}
use Rattle.sheet_drift.proofs.AnswerLaws.{memory-short, reader-refuses, rows-decide}
use Rattle.sheet_drift.proofs.drift.Goals as goal

pub returns-then-out-lt-NEED : goal.returns-then-out-lt-NEED
returns-then-out-lt-NEED c = ap (λ (a : DriftAnswer). handed a c.args.out.now) c.refused.ensures ∙ memory-short c.args.sheet.now c.args.line.now c.args.tolerances.now c.args.out.now c.if-out-lt-NEED.true

pub fill_tables-tested-requires : goal.fill_tables-tested-requires
fill_tables-tested-requires c = (refl, refl, refl)

pub overflow_cast-row : goal.overflow_cast-row
overflow_cast-row c = let l = low-row c.args.sheet.now c.args.line.now c.in-Err.field-0.refusal c.in-Err.field-0.row (sym c.fill_tables-tested.ensures.verdict ∙ ap verdict_in c.in-Err.is) in record { fits = omega (arith, l) }

pub overflow_sub-last : goal.overflow_sub-last
overflow_sub-last c = let b = rows-some c.args.sheet.now c.args.line.now _ c.fill_tables-tested.ensures (ap verdict_in c.in-Ok.is) in omega (arith, b)

pub slice_bounds-fields-end : goal.slice_bounds-fields-end
slice_bounds-fields-end c = let b = rows_few c.args.sheet.now c.args.line.now _ c.fill_tables-tested.ensures (ap verdict_in c.in-Ok.is) in let l = c.fill_tables-tested.auto.fields ∙ refl in omega (arith, b, l)

pub slice_bounds-drift_rows-end : goal.slice_bounds-drift_rows-end
slice_bounds-drift_rows-end c = sym (length-take-le _ _ (let b = rows_few c.args.sheet.now c.args.line.now _ c.fill_tables-tested.ensures (ap verdict_in c.in-Ok.is) in let l = c.fill_tables-tested.auto.fields ∙ refl in omega (arith, b, l)))

pub slice_bounds-widths-end : goal.slice_bounds-widths-end
slice_bounds-widths-end c = let b = rows_few c.args.sheet.now c.args.line.now _ c.fill_tables-tested.ensures (ap verdict_in c.in-Ok.is) in let l = c.fill_tables-tested.auto.returned ∙ refl in omega (arith, b, l)

pub slice_bounds-drift_rows-end-in-Ok : goal.slice_bounds-drift_rows-end-in-Ok
slice_bounds-drift_rows-end-in-Ok c = sym (length-take-le _ _ (let b = rows_few c.args.sheet.now c.args.line.now _ c.fill_tables-tested.ensures (ap verdict_in c.in-Ok.is) in let l = c.fill_tables-tested.auto.returned ∙ refl in omega (arith, b, l)))

pub bounds-masks-last : goal.bounds-masks-last
bounds-masks-last c = let b = rows_few c.args.sheet.now c.args.line.now _ c.fill_tables-tested.ensures (ap verdict_in c.in-Ok.is) in let a = rows-some c.args.sheet.now c.args.line.now _ c.fill_tables-tested.ensures (ap verdict_in c.in-Ok.is) in omega (arith, a, b)

pub drift_rows-requires : goal.drift_rows-requires
drift_rows-requires c = (tabled c.args.sheet.now c.args.line.now _ c.fill_tables-tested.ensures (ap verdict_in c.in-Ok.is), rows_few c.args.sheet.now c.args.line.now _ c.fill_tables-tested.ensures (ap verdict_in c.in-Ok.is), c.if-out-lt-NEED.false)

pub returns-in-Err : goal.returns-in-Err
returns-in-Err c = ap (λ (a : DriftAnswer). handed a c.args.out.now) c.refused-in-Err.ensures ∙ reader-refuses c.args.sheet.now c.args.line.now c.args.tolerances.now c.args.out.now c.if-out-lt-NEED.false c.in-Err.field-0.refusal c.in-Err.field-0.row (verdict-first c.args.sheet.now c.args.line.now c.args.tolerances.now c.in-Err.field-0.refusal c.in-Err.field-0.row (sym c.fill_tables-tested.ensures.verdict ∙ ap verdict_in c.in-Err.is))

pub returns-in-Ok : goal.returns-in-Ok
returns-in-Ok c = c.drift_rows.ensures ∙ rows-decide c.args.sheet.now c.args.line.now c.args.tolerances.now c.args.out.now c.if-out-lt-NEED.false _ _ (verdict-is c.args.sheet.now c.args.line.now _ c.fill_tables-tested.ensures (ap verdict_in c.in-Ok.is) c.args.tolerances.now) (moves-are c.args.sheet.now c.args.line.now _ c.fill_tables-tested.ensures (ap verdict_in c.in-Ok.is) c.args.tolerances.now)
