use Prim.Native.Nat.{ℕ}
use mathlib.Core.Path.{refl, sym, ap, ◌∙◌}
use mathlib.Core.Bool.{false≢true}
use mathlib.Core.List.{List}
use native.Mathlib.Omega.{arith}
use lib.ListN.{length}
use borrow.Author.Tests.{eq-eqb, ne_eqb}
use Rattle.formula.specs.Sheet.{row_count}
use Rattle.formula.specs.Tests.{lowest, is-passed}
use Rattle.sheet_listed.specs.Small.{modest_row}
use Rattle.sheet_tidied.proofs.Rowwise.{passes-rowwise}
use Rattle.sheet_stands.specs.Tests.{formula_passes}
use Rattle.sheet_stands.proofs.TestLaws.{empty-not-small, long-not-small, refused-not-small, not-modest, table-size, rows-ranged, rows_named, small-decides}
use Rattle.sheet_stands.proofs.tests.listed.Goals as goal

pub returns-then-sheet-eq0 : goal.returns-then-sheet-eq0
returns-then-sheet-eq0 c = (rw (eq-eqb (length c.args.sheet.now) 0 c.if-sheet-eq0.true) refl, λ h. absurd (empty-not-small c.args.sheet.now c.if-sheet-eq0.true h))

pub returns-then-sheet-gt-SMALL_BYTES : goal.returns-then-sheet-gt-SMALL_BYTES
returns-then-sheet-gt-SMALL_BYTES c = let no = long-not-small c.args.sheet.now c.if-sheet-gt-SMALL_BYTES.true in (rw (ne_eqb (length c.args.sheet.now) 0 c.if-sheet-eq0.false, no) refl, λ h. absurd (false≢true (sym no ∙ h)))

pub row_tests-requires : goal.row_tests-requires
row_tests-requires c = λ h. omega (arith, c.requires)

pub slice_bounds-modest_rows-end : goal.slice_bounds-modest_rows-end
slice_bounds-modest_rows-end c = omega (arith, c.row_tests.auto.fields, c.requires)

pub slice_bounds-modest_rows-end-in-Ok : goal.slice_bounds-modest_rows-end-in-Ok
slice_bounds-modest_rows-end-in-Ok c = sym (table-size c.args.sheet.now (sym c.row_tests.ensures.0 ∙ c.in-Ok.is) _ (c.row_tests.ensures.1 c.in-Ok.is))

pub modest_rows-requires : goal.modest_rows-requires
modest_rows-requires c = omega (arith, table-size c.args.sheet.now (sym c.row_tests.ensures.0 ∙ c.in-Ok.is) _ (c.row_tests.ensures.1 c.in-Ok.is))

pub returns-then-not-modest_rows : goal.returns-then-not-modest_rows
returns-then-not-modest_rows c =
    let no = not-modest c.args.sheet.now (sym (c.modest_rows.ensures ∙ ap (λ (t : List ℕ). is-passed (lowest (row_count c.args.sheet.now) (modest_row t))) (c.row_tests.ensures.1 c.in-Ok.is)) ∙ c.if-not-modest_rows.true) in
    (rw (ne_eqb (length c.args.sheet.now) 0 c.if-sheet-eq0.false, no) refl, λ h. (c.row_tests.ensures.1 c.in-Ok.is))

pub slice_bounds-passes-end : goal.slice_bounds-passes-end
slice_bounds-passes-end c = omega (arith, c.row_tests.auto.fields, c.requires)

pub slice_bounds-passes-end-in-Ok : goal.slice_bounds-passes-end-in-Ok
slice_bounds-passes-end-in-Ok c = sym (table-size c.args.sheet.now (sym c.row_tests.ensures.0 ∙ c.in-Ok.is) _ (c.row_tests.ensures.1 c.in-Ok.is))

pub passes-requires : goal.passes-requires
passes-requires c = (table-size c.args.sheet.now (sym c.row_tests.ensures.0 ∙ c.in-Ok.is) _ (c.row_tests.ensures.1 c.in-Ok.is), (passes-rowwise c.args.sheet.now (sym c.row_tests.ensures.0 ∙ c.in-Ok.is)).some, omega arith, rows-ranged c.args.sheet.now (sym c.row_tests.ensures.0 ∙ c.in-Ok.is) _ (c.row_tests.ensures.1 c.in-Ok.is), rows_named c.args.sheet.now (sym c.row_tests.ensures.0 ∙ c.in-Ok.is) _ (c.row_tests.ensures.1 c.in-Ok.is))

pub returns-in-Err : goal.returns-in-Err
returns-in-Err c = let no = refused-not-small c.args.sheet.now c.in-Err.field-0.refusal c.in-Err.field-0.row (sym c.row_tests.ensures.0 ∙ c.in-Err.is) in (rw (ne_eqb (length c.args.sheet.now) 0 c.if-sheet-eq0.false, no) refl, λ h. absurd (false≢true (sym no ∙ h)))

pub returns-else-not-modest_rows : goal.returns-else-not-modest_rows
returns-else-not-modest_rows c =
    let modest = sym (c.modest_rows.ensures ∙ ap (λ (t : List ℕ). is-passed (lowest (row_count c.args.sheet.now) (modest_row t))) (c.row_tests.ensures.1 c.in-Ok.is)) ∙ c.if-not-modest_rows.false in
    (rw (ne_eqb (length c.args.sheet.now) 0 c.if-sheet-eq0.false) (c.passes.ensures ∙ ap (λ (t : List ℕ). formula_passes t (row_count c.args.sheet.now)) (c.row_tests.ensures.1 c.in-Ok.is) ∙ sym (small-decides c.args.sheet.now (sym c.row_tests.ensures.0 ∙ c.in-Ok.is) (omega arith) modest)), λ h. (c.row_tests.ensures.1 c.in-Ok.is))
