use mathlib.Core.Path.{sym, ◌∙◌, ap, subst, ◌≡◌, refl}
use native.Mathlib.Omega.{arith}
use Prim.Native.Nat.{ℕ, ◌-◌}
use lib.ListN.{length, replicate}
use lib.Seq.{take_all}
use Rattle.names.specs.Names.{mask}
use Rattle.formula.specs.Tests.{operators_of}
use Rattle.sheet_tables.specs.Nodes.{node_at, returned_in, iterated_in, free_in, Holds}
use Rattle.sheet_fields.proofs.TableLaws.{part_length, lent_length, whole_length, part-back}
use Rattle.meaning.specs.Rows.{ExpRow}
use Rattle.formula.proofs.Results.{exit-at, exit-with, passed-at}
use Rattle.std.specs.Prelude.{Ok}
use Rattle.sheet_read.specs.Reading.{verdict_in, operators_in, table_verdict, Rowed}
use Rattle.sheet_read.proofs.ReadLaws.{fault-eighth, fault-ninth, last-mask, last-is, kinds-refuse, fault-tenth, by_total, tables-pass, tenth-within, rowed-by}
use Rattle.sheet_read.proofs.read.table_tests.Goals as goal

pub slice_bounds-test_widths-end : goal.slice_bounds-test_widths-end
slice_bounds-test_widths-end c = part_length c.args.n 200 c.requires.2 (replicate 200 0) refl

pub test_widths-requires : goal.test_widths-requires
test_widths-requires c = (c.requires.0, c.requires.3, sym (part_length c.args.n 200 c.requires.2 (replicate 200 0) refl))

pub test_bound-requires : goal.test_bound-requires
test_bound-requires c = (c.requires.0, c.requires.4)

pub slice_bounds-kind_tests-end : goal.slice_bounds-kind_tests-end
slice_bounds-kind_tests-end c = let e = (c.test_widths.auto.returned ∙ c.requires.3) in omega (arith, e)

pub slice_bounds-kind_tests-end-2 : goal.slice_bounds-kind_tests-end-2
slice_bounds-kind_tests-end-2 c = sym (ap length (take_all c.args.n c.test_widths.new.returned (let e = (c.test_widths.auto.returned ∙ c.requires.3) in omega (arith, e))) ∙ (c.test_widths.auto.returned ∙ c.requires.3))

pub overflow_sub-n : goal.overflow_sub-n
overflow_sub-n c = omega (arith, c.requires.1)

pub offset_bounds-masks-n : goal.offset_bounds-masks-n
offset_bounds-masks-n c = omega (arith, c.requires.2)

pub bounds-masks-n : goal.bounds-masks-n
bounds-masks-n c = let e = (c.test_bound.auto.masks ∙ c.requires.4) in omega (arith, e, c.requires.1)

pub kind_tests-requires : goal.kind_tests-requires
kind_tests-requires c = (
  subst (λ x. ExpRow c.args.fields.now x c.args.n) (sym (take_all c.args.n c.test_widths.new.returned (let e = (c.test_widths.auto.returned ∙ c.requires.3) in omega (arith, e)))) (last-is c.args.fields.now c.args.n c.args.places.now c.requires.0 c.requires.1 c.test_widths.new.returned (c.test_widths.auto.returned ∙ c.requires.3) (sym c.test_widths.ensures.0 ∙ (passed-at _ _ _ (sym c.at_row.ensures ∙ c.in_ok-at_row.was))) (c.test_widths.ensures.1 (passed-at _ _ _ (sym c.at_row.ensures ∙ c.in_ok-at_row.was))).0),
  last-mask c.args.fields.now c.args.n c.args.places.now c.requires.0 c.requires.1 c.test_bound.new.masks (c.test_bound.ensures.1 (passed-at _ _ _ (sym c.at_row-2.ensures ∙ c.in_ok-at_row-2.was))),
)

pub slice_bounds-test_operators-end : goal.slice_bounds-test_operators-end
slice_bounds-test_operators-end c = let e = (c.test_widths.auto.returned ∙ c.requires.3) in omega (arith, e)

pub slice_bounds-test_operators-end-2 : goal.slice_bounds-test_operators-end-2
slice_bounds-test_operators-end-2 c = sym (ap length (take_all c.args.n c.test_widths.new.returned (let e = (c.test_widths.auto.returned ∙ c.requires.3) in omega (arith, e))) ∙ (c.test_widths.auto.returned ∙ c.requires.3))

pub slice_bounds-iterated-end-2 : goal.slice_bounds-iterated-end-2
slice_bounds-iterated-end-2 c = let e = whole_length c.args.n 200 c.requires.2 (replicate 200 0) refl c.test_widths.new.iterated c.test_widths.auto.iterated in omega (arith, e, c.requires.2)

pub slice_bounds-test_operators-end-3 : goal.slice_bounds-test_operators-end-3
slice_bounds-test_operators-end-3 c = sym (ap length (part-back c.args.n 200 c.requires.2 (replicate 200 0) refl c.test_widths.new.iterated c.test_widths.auto.iterated) ∙ (lent_length c.args.n 200 c.requires.2 (replicate 200 0) refl c.test_widths.new.iterated c.test_widths.auto.iterated))

pub slice_bounds-test_operators-end-4 : goal.slice_bounds-test_operators-end-4
slice_bounds-test_operators-end-4 c = let e = (c.test_bound.auto.masks ∙ c.requires.4) in omega (arith, e)

pub slice_bounds-test_operators-end-5 : goal.slice_bounds-test_operators-end-5
slice_bounds-test_operators-end-5 c = sym (ap length (take_all c.args.n c.test_bound.new.masks (let e = (c.test_bound.auto.masks ∙ c.requires.4) in omega (arith, e))) ∙ (c.test_bound.auto.masks ∙ c.requires.4))

pub test_operators-total-requires : goal.test_operators-total-requires
test_operators-total-requires c = (
  c.requires.0,
  c.requires.1,
  c.requires.2,
  record {
    returned = subst (λ x. Holds 0 x c.args.n (λ k. returned_in (node_at c.args.fields.now c.args.places.now k))) (sym (take_all c.args.n c.test_widths.new.returned (let e = (c.test_widths.auto.returned ∙ c.requires.3) in omega (arith, e)))) (c.test_widths.ensures.1 (passed-at _ _ _ (sym c.at_row.ensures ∙ c.in_ok-at_row.was))).0;
    iterated = subst (λ x. Holds 0 x c.args.n (λ k. iterated_in (node_at c.args.fields.now c.args.places.now k))) (sym (part-back c.args.n 200 c.requires.2 (replicate 200 0) refl c.test_widths.new.iterated c.test_widths.auto.iterated)) (c.test_widths.ensures.1 (passed-at _ _ _ (sym c.at_row.ensures ∙ c.in_ok-at_row.was))).1;
    masks = subst (λ x. Holds 0 x c.args.n (λ k. mask (free_in (node_at c.args.fields.now c.args.places.now k)))) (sym (take_all c.args.n c.test_bound.new.masks (let e = (c.test_bound.auto.masks ∙ c.requires.4) in omega (arith, e)))) (c.test_bound.ensures.1 (passed-at _ _ _ (sym c.at_row-2.ensures ∙ c.in_ok-at_row-2.was)));
    returned-size = ap length (take_all c.args.n c.test_widths.new.returned (let e = (c.test_widths.auto.returned ∙ c.requires.3) in omega (arith, e))) ∙ (c.test_widths.auto.returned ∙ c.requires.3);
    iterated-size = ap length (part-back c.args.n 200 c.requires.2 (replicate 200 0) refl c.test_widths.new.iterated c.test_widths.auto.iterated) ∙ (lent_length c.args.n 200 c.requires.2 (replicate 200 0) refl c.test_widths.new.iterated c.test_widths.auto.iterated);
    masks-size = ap length (take_all c.args.n c.test_bound.new.masks (let e = (c.test_bound.auto.masks ∙ c.requires.4) in omega (arith, e))) ∙ (c.test_bound.auto.masks ∙ c.requires.4);
  },
)

pub returns-in_err-at_row : goal.returns-in_err-at_row
returns-in_err-at_row c =
    let p = exit-at _ _ _ _ _ c.at_row.ensures c.in_err-at_row.was c.from_residual.ensures.1 in
    (ap verdict_in p.1 ∙ fault-eighth c.args.fields.now c.args.n c.args.places.now c.args.line.now _ (sym c.test_widths.ensures.0 ∙ p.0), λ q. absurd (let z : ◌≡◌ {A = ℕ} 0 1 = cc (q, ap verdict_in p.1) in omega arith))

pub returns-in_err-at_row-2 : goal.returns-in_err-at_row-2
returns-in_err-at_row-2 c =
    let p = exit-at _ _ _ _ _ c.at_row-2.ensures c.in_err-at_row-2.was c.from_residual-in_err-at_row-2.ensures.1 in
    (ap verdict_in p.1 ∙ fault-ninth c.args.fields.now c.args.n c.args.places.now c.args.line.now (sym c.test_widths.ensures.0 ∙ (passed-at _ _ _ (sym c.at_row.ensures ∙ c.in_ok-at_row.was))) _ (sym c.test_bound.ensures.0 ∙ p.0), λ q. absurd (let z : ◌≡◌ {A = ℕ} 0 1 = cc (q, ap verdict_in p.1) in omega arith))

pub returns-in_err-kind_tests : goal.returns-in_err-kind_tests
returns-in_err-kind_tests c =
    let e = exit-with _ _ c.from_residual-in_err-kind_tests.ensures.1 in
    (ap verdict_in e ∙ kinds-refuse c.args.fields.now c.args.n c.args.places.now c.args.line.now (sym c.test_widths.ensures.0 ∙ (passed-at _ _ _ (sym c.at_row.ensures ∙ c.in_ok-at_row.was))) (sym c.test_bound.ensures.0 ∙ (passed-at _ _ _ (sym c.at_row-2.ensures ∙ c.in_ok-at_row-2.was))) c.kind_tests.result c.kind_tests.ensures _ _ c.in_err-kind_tests.was, λ q. absurd (let z : ◌≡◌ {A = ℕ} 0 1 = cc (q, ap verdict_in e) in omega arith))

pub returns : goal.returns
returns c =
    by_total
    (λ z. (verdict_in z ≡ table_verdict c.args.fields.now c.args.places.now c.args.n c.args.line.now) × (verdict_in z ≡ Ok tt → Rowed c.args.fields.now c.args.n (operators_in z) c.test_widths.new.returned c.test_bound.new.masks))
    _ c.test_operators-total.result c.ok_or.result c.ok_or.ensures.value
    (λ e. (fault-tenth c.args.fields.now c.args.n c.args.places.now c.args.line.now (sym c.test_widths.ensures.0 ∙ (passed-at _ _ _ (sym c.at_row.ensures ∙ c.in_ok-at_row.was))) (sym c.test_bound.ensures.0 ∙ (passed-at _ _ _ (sym c.at_row-2.ensures ∙ c.in_ok-at_row-2.was))) c.kind_tests.result c.kind_tests.ensures c.in_ok-kind_tests.was c.test_operators-total.result c.test_operators-total.ensures e, λ q. absurd (let z : ◌≡◌ {A = ℕ} 0 1 = cc q in omega arith)))
    (λ k e. (
      tables-pass c.args.fields.now c.args.n c.args.places.now c.args.line.now (sym c.test_widths.ensures.0 ∙ (passed-at _ _ _ (sym c.at_row.ensures ∙ c.in_ok-at_row.was))) (sym c.test_bound.ensures.0 ∙ (passed-at _ _ _ (sym c.at_row-2.ensures ∙ c.in_ok-at_row-2.was))) c.kind_tests.result c.kind_tests.ensures c.in_ok-kind_tests.was c.test_operators-total.result c.test_operators-total.ensures k e,
      λ q. rowed-by c.args.fields.now c.args.n k c.args.places.now c.test_widths.new.returned c.test_bound.new.masks c.requires.0 (tenth-within (operators_of c.args.fields.now c.args.n) k (sym c.test_operators-total.ensures ∙ e)).1
          (c.test_widths.ensures.1 (passed-at _ _ _ (sym c.at_row.ensures ∙ c.in_ok-at_row.was))).0 (c.test_bound.ensures.1 (passed-at _ _ _ (sym c.at_row-2.ensures ∙ c.in_ok-at_row-2.was))) (c.test_widths.auto.returned ∙ c.requires.3) (c.test_bound.auto.masks ∙ c.requires.4)
          (last-is c.args.fields.now c.args.n c.args.places.now c.requires.0 c.requires.1 c.test_widths.new.returned (c.test_widths.auto.returned ∙ c.requires.3) (sym c.test_widths.ensures.0 ∙ (passed-at _ _ _ (sym c.at_row.ensures ∙ c.in_ok-at_row.was))) (c.test_widths.ensures.1 (passed-at _ _ _ (sym c.at_row.ensures ∙ c.in_ok-at_row.was))).0),
    ))
