use mathlib.Core.Path.{sym, ◌∙◌, ap, subst, refl}
use mathlib.Core.List.{List}
use native.Mathlib.Omega.{arith}
use Prim.Native.Nat.{ℕ, ◌≤◌}
use lib.ListN.{length}
use lib.Seq.{sets}
use Rattle.formula.specs.Sheet.{row_count}
use Rattle.formula.proofs.SheetLaws.{fields-length}
use Rattle.formula.specs.TreeLaws.{Named}
use Rattle.sheet_tidied.specs.Text.{sheet_text}
use Rattle.sheet_tidied.proofs.Rowwise.{passes-rowwise, naming}
use Rattle.sheet_tidied.specs.Tidy.{tidy_need}
use Rattle.sheet_tidy.specs.Rows.{rows_of}
use Rattle.sheet_tidy.proofs.AnswerLaws.{refused-low, memory-short, tests-refuse, room, tests-pass}
use Rattle.sheet_tidy.proofs.tidy.Goals as goal

pub returns-then-out-need : goal.returns-then-out-need
returns-then-out-need c = rw c.refused.ensures (memory-short c.args.sheet.now c.args.out.now (omega (arith, c.need.ensures, c.if-out-need.true)))

pub overflow_cast-row : goal.overflow_cast-row
overflow_cast-row c = let l = refused-low c.args.sheet.now c.in-Err.field-0.refusal c.in-Err.field-0.row (sym c.row_tests.ensures.0 ∙ c.in-Err.is) in record { fits = omega (arith, l) }

pub slice_bounds-fields-end : goal.slice_bounds-fields-end
slice_bounds-fields-end c = let t = passes-rowwise c.args.sheet.now (sym c.row_tests.ensures.0 ∙ c.in-Ok.is) in let e = c.row_tests.auto.fields ∙ refl in omega (arith, t.few, e)

pub slice_bounds-write_kept-end : goal.slice_bounds-write_kept-end
slice_bounds-write_kept-end c = sym (ap length (c.row_tests.ensures.1 c.in-Ok.is) ∙ fields-length c.args.sheet.now)

pub write_kept-requires : goal.write_kept-requires
write_kept-requires c =
    let t = passes-rowwise c.args.sheet.now (sym c.row_tests.ensures.0 ∙ c.in-Ok.is) in
    let h : tidy_need c.args.sheet.now ≤ length c.args.out.now = omega (arith, c.need.ensures, c.if-out-need.false) in
    (ap length (c.row_tests.ensures.1 c.in-Ok.is) ∙ fields-length c.args.sheet.now, t.some, t.few, subst (λ (x : List ℕ). Named x (row_count c.args.sheet.now)) (sym (c.row_tests.ensures.1 c.in-Ok.is)) (naming c.args.sheet.now t), room c.args.sheet.now c.args.out.now h t)

pub returns-in-Err : goal.returns-in-Err
returns-in-Err c =
    let h : tidy_need c.args.sheet.now ≤ length c.args.out.now = omega (arith, c.need.ensures, c.if-out-need.false) in
    rw c.refused-in-Err.ensures (tests-refuse c.args.sheet.now c.args.out.now h c.in-Err.field-0.refusal c.in-Err.field-0.row (sym c.row_tests.ensures.0 ∙ c.in-Err.is))

pub returns-in-Ok : goal.returns-in-Ok
returns-in-Ok c =
    let h : tidy_need c.args.sheet.now ≤ length c.args.out.now = omega (arith, c.need.ensures, c.if-out-need.false) in
    tests-pass c.args.sheet.now c.args.out.now h (sym c.row_tests.ensures.0 ∙ c.in-Ok.is) c.write_kept.result c.write_kept.new.out
    (c.write_kept.ensures.0 ∙ ap (λ (x : List ℕ). length (rows_of x (row_count c.args.sheet.now))) (c.row_tests.ensures.1 c.in-Ok.is))
    (c.write_kept.ensures.1 ∙ ap (λ (x : List ℕ). sets c.args.out.now 0 (sheet_text (rows_of x (row_count c.args.sheet.now)))) (c.row_tests.ensures.1 c.in-Ok.is))
