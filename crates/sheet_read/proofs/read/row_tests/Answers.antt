use mathlib.Core.Path.{sym, ◌∙◌, ap, refl, ◌≡◌}
use mathlib.Core.Bool.{true, false}
use native.Mathlib.Omega.{arith}
use Prim.Native.Nat.{ℕ, ◌-◌, ◌*◌}
use lib.ListN.{length}
use lib.Seq.{length-take-le}
use Rattle.formula.specs.Sheet.{row_count}
use Rattle.formula.proofs.SheetLaws.{fields-length}
use Rattle.formula.specs.Tests.{after_check, lowest, ranges_well, names_well}
use Rattle.formula.proofs.Results.{exit-at, passed-at}
use Rattle.formula.specs.declared.Refusal.TheVariants.{Naming}
use Rattle.std.specs.Prelude.{Ok}
use Rattle.sheet_read.proofs.ReadLaws.{fault-first, fault-second, rows_few, fault-third, fault-fourth, rows-end, decoded}
use Rattle.sheet_read.proofs.read.row_tests.Goals as goal

pub returns-then-not-laid_out : goal.returns-then-not-laid_out
returns-then-not-laid_out c = (fault-first c.args.s.now (sym c.laid_out.ensures ∙ c.if-not-laid_out.true), λ q. absurd (let z : ◌≡◌ {A = ℕ} 0 1 = cc q in omega arith))

pub returns-then-not-few_rows : goal.returns-then-not-few_rows
returns-then-not-few_rows c = (fault-second c.args.s.now (sym c.laid_out.ensures ∙ c.if-not-laid_out.false) (sym c.few_rows.ensures ∙ c.if-not-few_rows.true), λ q. absurd (let z : ◌≡◌ {A = ℕ} 0 1 = cc q in omega arith))

pub decode-requires : goal.decode-requires
decode-requires c = let few = rows_few c.args.s.now (sym c.laid_out.ensures ∙ c.if-not-laid_out.false) (sym c.few_rows.ensures ∙ c.if-not-few_rows.false) in (refl, omega (arith, few, c.requires few))

pub slice_bounds-test_ranges-end : goal.slice_bounds-test_ranges-end
slice_bounds-test_ranges-end c = let few = rows_few c.args.s.now (sym c.laid_out.ensures ∙ c.if-not-laid_out.false) (sym c.few_rows.ensures ∙ c.if-not-few_rows.false) in let kept = c.decode.auto.fields in omega (arith, few, kept, c.requires few)

pub slice_bounds-test_ranges-end-2 : goal.slice_bounds-test_ranges-end-2
slice_bounds-test_ranges-end-2 c = let few = rows_few c.args.s.now (sym c.laid_out.ensures ∙ c.if-not-laid_out.false) (sym c.few_rows.ensures ∙ c.if-not-few_rows.false) in let kept = c.decode.auto.fields in sym (length-take-le (5 * row_count c.args.s.now) c.decode.new.fields (omega (arith, few, kept, c.requires few)))

pub test_ranges-requires : goal.test_ranges-requires
test_ranges-requires c = ap length (decoded c.args.s.now (row_count c.args.s.now) refl c.args.fields.now c.decode.new.fields c.decode.result c.decode.ensures.1 (passed-at _ _ _ (sym c.at_row.ensures ∙ c.in_ok-at_row.was)) (let few = rows_few c.args.s.now (sym c.laid_out.ensures ∙ c.if-not-laid_out.false) (sym c.few_rows.ensures ∙ c.if-not-few_rows.false) in omega (arith, few, c.requires few))) ∙ fields-length c.args.s.now

pub slice_bounds-test_naming-end : goal.slice_bounds-test_naming-end
slice_bounds-test_naming-end c = let few = rows_few c.args.s.now (sym c.laid_out.ensures ∙ c.if-not-laid_out.false) (sym c.few_rows.ensures ∙ c.if-not-few_rows.false) in let kept = c.decode.auto.fields in omega (arith, few, kept, c.requires few)

pub slice_bounds-test_naming-end-2 : goal.slice_bounds-test_naming-end-2
slice_bounds-test_naming-end-2 c = let few = rows_few c.args.s.now (sym c.laid_out.ensures ∙ c.if-not-laid_out.false) (sym c.few_rows.ensures ∙ c.if-not-few_rows.false) in let kept = c.decode.auto.fields in sym (length-take-le (5 * row_count c.args.s.now) c.decode.new.fields (omega (arith, few, kept, c.requires few)))

pub test_naming-requires : goal.test_naming-requires
test_naming-requires c = ap length (decoded c.args.s.now (row_count c.args.s.now) refl c.args.fields.now c.decode.new.fields c.decode.result c.decode.ensures.1 (passed-at _ _ _ (sym c.at_row.ensures ∙ c.in_ok-at_row.was)) (let few = rows_few c.args.s.now (sym c.laid_out.ensures ∙ c.if-not-laid_out.false) (sym c.few_rows.ensures ∙ c.if-not-few_rows.false) in omega (arith, few, c.requires few))) ∙ fields-length c.args.s.now

pub returns-in_err-at_row : goal.returns-in_err-at_row
returns-in_err-at_row c =
    let p = exit-at _ _ _ _ _ c.at_row.ensures c.in_err-at_row.was c.from_residual.ensures.1 in
    (p.1 ∙ fault-third c.args.s.now (sym c.laid_out.ensures ∙ c.if-not-laid_out.false) (sym c.few_rows.ensures ∙ c.if-not-few_rows.false) _ (sym c.decode.ensures.0 ∙ p.0), λ q. cc (q, p.1))

pub returns-in_err-at_row-2 : goal.returns-in_err-at_row-2
returns-in_err-at_row-2 c =
    let p = exit-at _ _ _ _ _ c.at_row-2.ensures c.in_err-at_row-2.was c.from_residual-in_err-at_row-2.ensures.1 in (
      p.1
          ∙ fault-fourth c.args.s.now (sym c.laid_out.ensures ∙ c.if-not-laid_out.false) (sym c.few_rows.ensures ∙ c.if-not-few_rows.false) (sym c.decode.ensures.0 ∙ (passed-at _ _ _ (sym c.at_row.ensures ∙ c.in_ok-at_row.was))) _
          (sym (c.test_ranges.ensures ∙ ap (λ x. lowest (row_count c.args.s.now) (ranges_well x)) (decoded c.args.s.now (row_count c.args.s.now) refl c.args.fields.now c.decode.new.fields c.decode.result c.decode.ensures.1 (passed-at _ _ _ (sym c.at_row.ensures ∙ c.in_ok-at_row.was)) (let few = rows_few c.args.s.now (sym c.laid_out.ensures ∙ c.if-not-laid_out.false) (sym c.few_rows.ensures ∙ c.if-not-few_rows.false) in omega (arith, few, c.requires few)))) ∙ p.0),
      λ q. cc (q, p.1),
    )

pub returns : goal.returns
returns c = (
  c.at_row-3.ensures ∙ ap (λ x. after_check Naming x (Ok tt)) (c.test_naming.ensures ∙ ap (λ x. lowest (row_count c.args.s.now) (names_well x)) (decoded c.args.s.now (row_count c.args.s.now) refl c.args.fields.now c.decode.new.fields c.decode.result c.decode.ensures.1 (passed-at _ _ _ (sym c.at_row.ensures ∙ c.in_ok-at_row.was)) (let few = rows_few c.args.s.now (sym c.laid_out.ensures ∙ c.if-not-laid_out.false) (sym c.few_rows.ensures ∙ c.if-not-few_rows.false) in omega (arith, few, c.requires few))))
      ∙ rows-end c.args.s.now (sym c.laid_out.ensures ∙ c.if-not-laid_out.false) (sym c.few_rows.ensures ∙ c.if-not-few_rows.false) (sym c.decode.ensures.0 ∙ (passed-at _ _ _ (sym c.at_row.ensures ∙ c.in_ok-at_row.was)))
      (sym (c.test_ranges.ensures ∙ ap (λ x. lowest (row_count c.args.s.now) (ranges_well x)) (decoded c.args.s.now (row_count c.args.s.now) refl c.args.fields.now c.decode.new.fields c.decode.result c.decode.ensures.1 (passed-at _ _ _ (sym c.at_row.ensures ∙ c.in_ok-at_row.was)) (let few = rows_few c.args.s.now (sym c.laid_out.ensures ∙ c.if-not-laid_out.false) (sym c.few_rows.ensures ∙ c.if-not-few_rows.false) in omega (arith, few, c.requires few)))) ∙ (passed-at _ _ _ (sym c.at_row-2.ensures ∙ c.in_ok-at_row-2.was))),
  λ q. (decoded c.args.s.now (row_count c.args.s.now) refl c.args.fields.now c.decode.new.fields c.decode.result c.decode.ensures.1 (passed-at _ _ _ (sym c.at_row.ensures ∙ c.in_ok-at_row.was)) (let few = rows_few c.args.s.now (sym c.laid_out.ensures ∙ c.if-not-laid_out.false) (sym c.few_rows.ensures ∙ c.if-not-few_rows.false) in omega (arith, few, c.requires few))),
)
