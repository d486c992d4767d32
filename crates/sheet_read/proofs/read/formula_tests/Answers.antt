use mathlib.Core.Path.{sym, ◌∙◌, ap, subst, ◌≡◌, refl}
use mathlib.Core.Bool.{false}
use native.Mathlib.Omega.{arith}
use Prim.Native.Nat.{ℕ, ◌-◌}
use lib.ListN.{length, take, replicate}
use Rattle.formula.specs.Tests.{lowest, placed_well}
use Rattle.sheet_tables.specs.Ready.{Ready}
use Rattle.sheet_fields.proofs.TableLaws.{part_length, lent_length, whole_length, part-back, take-replicate}
use Rattle.formula.proofs.Results.{exit-at, passed-at}
use Rattle.sheet_read.specs.Reading.{table_verdict, verdict_in}
use Rattle.sheet_read.proofs.ReadLaws.{fault-sixth, fault-seventh, places-pass, ready}
use Rattle.sheet_read.proofs.read.formula_tests.Goals as goal

pub slice_bounds-find_places-end : goal.slice_bounds-find_places-end
slice_bounds-find_places-end c = part_length c.args.n 200 c.requires.2 (replicate 200 false) refl

pub find_places-requires : goal.find_places-requires
find_places-requires c = (c.requires.0, take-replicate c.args.n 200 false c.requires.2, c.requires.4)

pub slice_bounds-places-end-2 : goal.slice_bounds-places-end-2
slice_bounds-places-end-2 c = let e = whole_length c.args.n 200 c.requires.2 (replicate 200 false) refl c.find_places.new.places c.find_places.auto.places in omega (arith, e, c.requires.2)

pub slice_bounds-test_places-end : goal.slice_bounds-test_places-end
slice_bounds-test_places-end c = sym (ap length (part-back c.args.n 200 c.requires.2 (replicate 200 false) refl c.find_places.new.places c.find_places.auto.places) ∙ (lent_length c.args.n 200 c.requires.2 (replicate 200 false) refl c.find_places.new.places c.find_places.auto.places))

pub test_places-requires : goal.test_places-requires
test_places-requires c = (c.requires.0, ap length (part-back c.args.n 200 c.requires.2 (replicate 200 false) refl c.find_places.new.places c.find_places.auto.places) ∙ (lent_length c.args.n 200 c.requires.2 (replicate 200 false) refl c.find_places.new.places c.find_places.auto.places))

pub slice_bounds-places-end-3 : goal.slice_bounds-places-end-3
slice_bounds-places-end-3 c = let e = whole_length c.args.n 200 c.requires.2 (replicate 200 false) refl c.find_places.new.places c.find_places.auto.places in omega (arith, e, c.requires.2)

pub slice_bounds-table_tests-end : goal.slice_bounds-table_tests-end
slice_bounds-table_tests-end c = sym (ap length (part-back c.args.n 200 c.requires.2 (replicate 200 false) refl c.find_places.new.places c.find_places.auto.places) ∙ (lent_length c.args.n 200 c.requires.2 (replicate 200 false) refl c.find_places.new.places c.find_places.auto.places))

pub table_tests-requires : goal.table_tests-requires
table_tests-requires c = (subst (λ x. Ready c.args.fields.now c.args.n x) (sym ((part-back c.args.n 200 c.requires.2 (replicate 200 false) refl c.find_places.new.places c.find_places.auto.places) ∙ c.find_places.ensures)) (ready c.args.fields.now c.args.n c.requires.0 c.requires.3 c.requires.4 (sym c.test_named.ensures ∙ (passed-at _ _ _ (sym c.at_row.ensures ∙ c.in_ok-at_row.was))) (sym (c.test_places.ensures ∙ ap (λ x. lowest c.args.n (placed_well c.args.fields.now x)) ((part-back c.args.n 200 c.requires.2 (replicate 200 false) refl c.find_places.new.places c.find_places.auto.places) ∙ c.find_places.ensures)) ∙ (passed-at _ _ _ (sym c.at_row-2.ensures ∙ c.in_ok-at_row-2.was)))), c.requires.1, c.requires.2, c.requires.5, c.requires.6)

pub returns : goal.returns
returns c = (c.table_tests.ensures.0 ∙ ap (λ x. table_verdict c.args.fields.now x c.args.n c.args.line.now) ((part-back c.args.n 200 c.requires.2 (replicate 200 false) refl c.find_places.new.places c.find_places.auto.places) ∙ c.find_places.ensures) ∙ places-pass c.args.fields.now c.args.n c.args.line.now (sym c.test_named.ensures ∙ (passed-at _ _ _ (sym c.at_row.ensures ∙ c.in_ok-at_row.was))) (sym (c.test_places.ensures ∙ ap (λ x. lowest c.args.n (placed_well c.args.fields.now x)) ((part-back c.args.n 200 c.requires.2 (replicate 200 false) refl c.find_places.new.places c.find_places.auto.places) ∙ c.find_places.ensures)) ∙ (passed-at _ _ _ (sym c.at_row-2.ensures ∙ c.in_ok-at_row-2.was))), c.table_tests.ensures.1)

pub returns-in_err-at_row : goal.returns-in_err-at_row
returns-in_err-at_row c =
    let p = exit-at _ _ _ _ _ c.at_row.ensures c.in_err-at_row.was c.from_residual.ensures.1 in
    (ap verdict_in p.1 ∙ fault-sixth c.args.fields.now c.args.n c.args.line.now _ (sym c.test_named.ensures ∙ p.0), λ q. absurd (let z : ◌≡◌ {A = ℕ} 0 1 = cc (q, ap verdict_in p.1) in omega arith))

pub returns-in_err-at_row-2 : goal.returns-in_err-at_row-2
returns-in_err-at_row-2 c =
    let p = exit-at _ _ _ _ _ c.at_row-2.ensures c.in_err-at_row-2.was c.from_residual-in_err-at_row-2.ensures.1 in (
      ap verdict_in p.1
          ∙ fault-seventh c.args.fields.now c.args.n c.args.line.now (sym c.test_named.ensures ∙ (passed-at _ _ _ (sym c.at_row.ensures ∙ c.in_ok-at_row.was))) _ (sym (c.test_places.ensures ∙ ap (λ x. lowest c.args.n (placed_well c.args.fields.now x)) ((part-back c.args.n 200 c.requires.2 (replicate 200 false) refl c.find_places.new.places c.find_places.auto.places) ∙ c.find_places.ensures)) ∙ p.0),
      λ q. absurd (let z : ◌≡◌ {A = ℕ} 0 1 = cc (q, ap verdict_in p.1) in omega arith),
    )
