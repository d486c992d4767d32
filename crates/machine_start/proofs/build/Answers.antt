use native.Mathlib.Omega.{arith}
use mathlib.Core.Path.{refl, sym, ap, ◌∙◌}
use Prim.Native.Nat.{◌-◌, ◌*◌}
use Rattle.sheet_read.specs.Reading.{verdict_in, told-admissible, told-kinded}
use lib.ListN.{replicate, length, take}
use lib.Seq.{length-take-le}
use Rattle.formula.proofs.Acceptance.{low-row}
use Rattle.formula.specs.Sheet.{row_count}
use Rattle.formula.specs.Tree.{exp_of, formula_of}
use Rattle.formula.specs.Tests.{verdict_of}
use Rattle.formula.specs.Faults.{letters_of}
use Rattle.machine_start.specs.Start.{begun}
use Rattle.machine_start.specs.StartLaws.{verdict-refused}
use Rattle.machine_start.specs.SheetTables.{rows_few, fields-size, fields-long, masks-size, masks-long, widths-size, widths-long, making-modest}
use Rattle.machine_start.specs.Letters.{letters-in, letters-told, letters-few}
use Rattle.machine_start.specs.Completed.{completed, built}
use Rattle.maker.specs.AcceptedSheets.{accepted-makeable, accepted-formula}
use Rattle.machine_start.specs.declared.StartAnswer.{StartAnswer}
use Rattle.machine_start.proofs.build.Goals as goal

pub fill_tables-tested-requires : goal.fill_tables-tested-requires
fill_tables-tested-requires c = (refl, refl, refl)

pub overflow_cast-row : goal.overflow_cast-row
overflow_cast-row c = let m = low-row c.args.sheet.now c.args.line.now c.in-Err.field-0.refusal c.in-Err.field-0.row (sym c.fill_tables-tested.ensures.verdict ∙ ap verdict_in c.in-Err.is) in omega arith

pub overflow_mul-end : goal.overflow_mul-end
overflow_mul-end c = omega (arith, rows_few c.args.sheet.now _ (c.fill_tables-tested.ensures.accepts (ap verdict_in c.in-Ok.is)))

pub slice_bounds-fields-end : goal.slice_bounds-fields-end
slice_bounds-fields-end c = fields-long c.args.sheet.now _ (c.fill_tables-tested.ensures.accepts (ap verdict_in c.in-Ok.is))

pub slice_bounds-make-end : goal.slice_bounds-make-end
slice_bounds-make-end c = fields-size c.args.sheet.now _ (c.fill_tables-tested.ensures.accepts (ap verdict_in c.in-Ok.is))

pub slice_bounds-masks-end : goal.slice_bounds-masks-end
slice_bounds-masks-end c = masks-long c.args.sheet.now _ (c.fill_tables-tested.ensures.accepts (ap verdict_in c.in-Ok.is))

pub slice_bounds-make-end-in-Ok : goal.slice_bounds-make-end-in-Ok
slice_bounds-make-end-in-Ok c = masks-size c.args.sheet.now _ (c.fill_tables-tested.ensures.accepts (ap verdict_in c.in-Ok.is))

pub slice_bounds-returned-end : goal.slice_bounds-returned-end
slice_bounds-returned-end c = widths-long c.args.sheet.now _ (c.fill_tables-tested.ensures.accepts (ap verdict_in c.in-Ok.is))

pub slice_bounds-make-end-in-Ok-2 : goal.slice_bounds-make-end-in-Ok-2
slice_bounds-make-end-in-Ok-2 c = widths-size c.args.sheet.now _ (c.fill_tables-tested.ensures.accepts (ap verdict_in c.in-Ok.is))

pub make-made-requires : goal.make-made-requires
make-made-requires c = (accepted-makeable c.args.sheet.now _ (c.fill_tables-tested.ensures.accepts (ap verdict_in c.in-Ok.is)) (told-admissible c.args.sheet.now c.args.line.now _ c.fill_tables-tested.ensures (ap verdict_in c.in-Ok.is)), omega (arith, c.requires.1))

pub slice_bounds-complete-end : goal.slice_bounds-complete-end
slice_bounds-complete-end c = sym (length-take-le c.make-made.result.inputs c.args.line.now (letters-in c.args.sheet.now c.args.line.now (told-kinded c.args.sheet.now c.args.line.now _ c.fill_tables-tested.ensures (ap verdict_in c.in-Ok.is)) _ (c.fill_tables-tested.ensures.accepts (ap verdict_in c.in-Ok.is)) c.make-made.result c.make-made.ensures.0))

pub complete-requires : goal.complete-requires
complete-requires c = (c.requires.0, omega (arith, c.requires.1, c.mem-1.given), making-modest c.args.sheet.now _ (c.fill_tables-tested.ensures.accepts (ap verdict_in c.in-Ok.is)) (told-admissible c.args.sheet.now c.args.line.now _ c.fill_tables-tested.ensures (ap verdict_in c.in-Ok.is)) c.make-made.result c.make-made.ensures.0, letters-few c.args.sheet.now c.args.line.now (told-kinded c.args.sheet.now c.args.line.now _ c.fill_tables-tested.ensures (ap verdict_in c.in-Ok.is)) _ (c.fill_tables-tested.ensures.accepts (ap verdict_in c.in-Ok.is)) c.make-made.result c.make-made.ensures.0)

pub overflow_cast-result : goal.overflow_cast-result
overflow_cast-result c = let m = (making-modest c.args.sheet.now _ (c.fill_tables-tested.ensures.accepts (ap verdict_in c.in-Ok.is)) (told-admissible c.args.sheet.now c.args.line.now _ c.fill_tables-tested.ensures (ap verdict_in c.in-Ok.is)) c.make-made.result c.make-made.ensures.0).operators in omega arith

pub overflow_cast-result-in-Ok : goal.overflow_cast-result-in-Ok
overflow_cast-result-in-Ok c = let m = (making-modest c.args.sheet.now _ (c.fill_tables-tested.ensures.accepts (ap verdict_in c.in-Ok.is)) (told-admissible c.args.sheet.now c.args.line.now _ c.fill_tables-tested.ensures (ap verdict_in c.in-Ok.is)) c.make-made.result c.make-made.ensures.0).inputs in omega arith

pub overflow_cast-result-in-Ok-2 : goal.overflow_cast-result-in-Ok-2
overflow_cast-result-in-Ok-2 c = let m = (making-modest c.args.sheet.now _ (c.fill_tables-tested.ensures.accepts (ap verdict_in c.in-Ok.is)) (told-admissible c.args.sheet.now c.args.line.now _ c.fill_tables-tested.ensures (ap verdict_in c.in-Ok.is)) c.make-made.result c.make-made.ensures.0).results in omega arith

pub returns-in-Err : goal.returns-in-Err
returns-in-Err c =
    ap (λ (a : StartAnswer). begun a c.args.mem.now) c.refused.ensures
    ∙ sym (verdict-refused (verdict_of c.args.sheet.now c.args.line.now) (formula_of c.args.sheet.now) (letters_of (formula_of c.args.sheet.now) c.args.line.now) c.args.capacity c.args.mem.now c.in-Err.field-0.refusal c.in-Err.field-0.row (sym c.fill_tables-tested.ensures.verdict ∙ ap verdict_in c.in-Err.is))

pub returns-in-Ok : goal.returns-in-Ok
returns-in-Ok c =
    built (verdict_of c.args.sheet.now c.args.line.now) (exp_of (take (5 * row_count c.args.sheet.now) c.fill_tables-tested.new.fields) (row_count c.args.sheet.now)) (formula_of c.args.sheet.now) (letters_of (formula_of c.args.sheet.now) c.args.line.now) c.args.capacity c.args.mem.now c.make-made.new.mem c.complete.new.mem c.make-made.result
    (sym c.fill_tables-tested.ensures.verdict ∙ ap verdict_in c.in-Ok.is) (accepted-formula c.args.sheet.now _ (c.fill_tables-tested.ensures.accepts (ap verdict_in c.in-Ok.is))) c.make-made.ensures.0 c.make-made.ensures.1
    (c.complete.ensures ∙ ap (completed c.make-made.new.mem c.args.capacity c.make-made.result) (letters-told c.args.sheet.now c.args.line.now (told-kinded c.args.sheet.now c.args.line.now _ c.fill_tables-tested.ensures (ap verdict_in c.in-Ok.is)) _ (c.fill_tables-tested.ensures.accepts (ap verdict_in c.in-Ok.is)) c.make-made.result c.make-made.ensures.0))
