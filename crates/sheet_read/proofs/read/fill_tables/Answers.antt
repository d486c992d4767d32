use mathlib.Core.Path.{sym, ◌∙◌, ap, refl, subst, ◌≡◌}
use native.Mathlib.Omega.{arith}
use Prim.Native.Nat.{ℕ, ◌*◌}
use mathlib.Core.List.{◌++◌}
use lib.ListN.{length, take, drop}
use lib.Seq.{length-take-le}
use Rattle.std.specs.Prelude.{Ok}
use Rattle.formula.specs.Sheet.{row_count, fields_of}
use Rattle.formula.proofs.SheetLaws.{fields-length}
use Rattle.formula.specs.Tests.{lowest, ranges_well, names_well}
use Rattle.formula.proofs.Results.{exit-with}
use Rattle.sheet_read.specs.Reading.{formula_verdict, verdict_in, operators_in}
use Rattle.sheet_fields.proofs.TableLaws.{part_length, part-back}
use Rattle.sheet_read.proofs.ReadLaws.{rowwise, rows_few, some-rows, rows-refuse, formula-decides, rowed-as}
use Rattle.sheet_read.proofs.read.fill_tables.Goals as goal

pub row_tests-requires : goal.row_tests-requires
row_tests-requires c = λ h. omega (arith, h, c.requires.0)

pub slice_bounds-formula_tests-end : goal.slice_bounds-formula_tests-end
slice_bounds-formula_tests-end c = let r = (rows_few c.args.sheet.now (rowwise c.args.sheet.now (sym c.row_tests.ensures.0 ∙ c.in_ok-row_tests.was)).laid (rowwise c.args.sheet.now (sym c.row_tests.ensures.0 ∙ c.in_ok-row_tests.was)).few) in let e = c.row_tests.auto.fields ∙ c.requires.0 in omega (arith, r, e)

pub slice_bounds-formula_tests-end-2 : goal.slice_bounds-formula_tests-end-2
slice_bounds-formula_tests-end-2 c = let r = (rows_few c.args.sheet.now (rowwise c.args.sheet.now (sym c.row_tests.ensures.0 ∙ c.in_ok-row_tests.was)).laid (rowwise c.args.sheet.now (sym c.row_tests.ensures.0 ∙ c.in_ok-row_tests.was)).few) in let e = c.row_tests.auto.fields ∙ c.requires.0 in sym (length-take-le (5 * (row_count c.args.sheet.now)) c.row_tests.new.fields (omega (arith, r, e)))

pub slice_bounds-formula_tests-end-3 : goal.slice_bounds-formula_tests-end-3
slice_bounds-formula_tests-end-3 c = let r = (rows_few c.args.sheet.now (rowwise c.args.sheet.now (sym c.row_tests.ensures.0 ∙ c.in_ok-row_tests.was)).laid (rowwise c.args.sheet.now (sym c.row_tests.ensures.0 ∙ c.in_ok-row_tests.was)).few) in let e = c.requires.1 in omega (arith, r, e)

pub slice_bounds-formula_tests-end-4 : goal.slice_bounds-formula_tests-end-4
slice_bounds-formula_tests-end-4 c = part_length (row_count c.args.sheet.now) 200 (rows_few c.args.sheet.now (rowwise c.args.sheet.now (sym c.row_tests.ensures.0 ∙ c.in_ok-row_tests.was)).laid (rowwise c.args.sheet.now (sym c.row_tests.ensures.0 ∙ c.in_ok-row_tests.was)).few) c.args.returned.now c.requires.1

pub slice_bounds-formula_tests-end-5 : goal.slice_bounds-formula_tests-end-5
slice_bounds-formula_tests-end-5 c = let r = (rows_few c.args.sheet.now (rowwise c.args.sheet.now (sym c.row_tests.ensures.0 ∙ c.in_ok-row_tests.was)).laid (rowwise c.args.sheet.now (sym c.row_tests.ensures.0 ∙ c.in_ok-row_tests.was)).few) in let e = c.requires.2 in omega (arith, r, e)

pub slice_bounds-formula_tests-end-6 : goal.slice_bounds-formula_tests-end-6
slice_bounds-formula_tests-end-6 c = part_length (row_count c.args.sheet.now) 200 (rows_few c.args.sheet.now (rowwise c.args.sheet.now (sym c.row_tests.ensures.0 ∙ c.in_ok-row_tests.was)).laid (rowwise c.args.sheet.now (sym c.row_tests.ensures.0 ∙ c.in_ok-row_tests.was)).few) c.args.masks.now c.requires.2

pub formula_tests-requires : goal.formula_tests-requires
formula_tests-requires c = (
  ap length (c.row_tests.ensures.1 c.in_ok-row_tests.was) ∙ fields-length c.args.sheet.now,
  some-rows c.args.sheet.now (rowwise c.args.sheet.now (sym c.row_tests.ensures.0 ∙ c.in_ok-row_tests.was)).laid,
  (rows_few c.args.sheet.now (rowwise c.args.sheet.now (sym c.row_tests.ensures.0 ∙ c.in_ok-row_tests.was)).laid (rowwise c.args.sheet.now (sym c.row_tests.ensures.0 ∙ c.in_ok-row_tests.was)).few),
  subst (λ x. lowest (row_count c.args.sheet.now) (ranges_well x) ≡ Ok tt) (sym (c.row_tests.ensures.1 c.in_ok-row_tests.was)) (rowwise c.args.sheet.now (sym c.row_tests.ensures.0 ∙ c.in_ok-row_tests.was)).ranged,
  subst (λ x. lowest (row_count c.args.sheet.now) (names_well x) ≡ Ok tt) (sym (c.row_tests.ensures.1 c.in_ok-row_tests.was)) (rowwise c.args.sheet.now (sym c.row_tests.ensures.0 ∙ c.in_ok-row_tests.was)).named,
  sym (part_length (row_count c.args.sheet.now) 200 (rows_few c.args.sheet.now (rowwise c.args.sheet.now (sym c.row_tests.ensures.0 ∙ c.in_ok-row_tests.was)).laid (rowwise c.args.sheet.now (sym c.row_tests.ensures.0 ∙ c.in_ok-row_tests.was)).few) c.args.returned.now c.requires.1),
  sym (part_length (row_count c.args.sheet.now) 200 (rows_few c.args.sheet.now (rowwise c.args.sheet.now (sym c.row_tests.ensures.0 ∙ c.in_ok-row_tests.was)).laid (rowwise c.args.sheet.now (sym c.row_tests.ensures.0 ∙ c.in_ok-row_tests.was)).few) c.args.masks.now c.requires.2),
)

pub returns-in_err-row_tests : goal.returns-in_err-row_tests
returns-in_err-row_tests c =
    let e = exit-with _ _ c.from_residual.ensures.1 in
    record { verdict = ap verdict_in e ∙ rows-refuse c.args.sheet.now c.args.line.now c.row_tests.result _ _ c.row_tests.ensures.0 c.in_err-row_tests.was; accepts = λ q. absurd (let z : ◌≡◌ {A = ℕ} 0 1 = cc (q, ap verdict_in e) in omega arith) }

pub returns : goal.returns
returns c =
    record {
      verdict = c.formula_tests.ensures.0 ∙ ap (λ x. formula_verdict x (row_count c.args.sheet.now) c.args.line.now) (c.row_tests.ensures.1 c.in_ok-row_tests.was) ∙ formula-decides c.args.sheet.now c.args.line.now c.row_tests.result c.row_tests.ensures.0 c.in_ok-row_tests.was;
      accepts = λ q. record {
        rows = refl;
        some = some-rows c.args.sheet.now (rowwise c.args.sheet.now (sym c.row_tests.ensures.0 ∙ c.in_ok-row_tests.was)).laid;
        few = (rows_few c.args.sheet.now (rowwise c.args.sheet.now (sym c.row_tests.ensures.0 ∙ c.in_ok-row_tests.was)).laid (rowwise c.args.sheet.now (sym c.row_tests.ensures.0 ∙ c.in_ok-row_tests.was)).few);
        fields = (c.row_tests.ensures.1 c.in_ok-row_tests.was);
        tables = rowed-as (row_count c.args.sheet.now) (operators_in c.formula_tests.result) (take (5 * (row_count c.args.sheet.now)) c.row_tests.new.fields) (fields_of c.args.sheet.now) c.formula_tests.new.returned c.formula_tests.new.masks (take (row_count c.args.sheet.now) (c.formula_tests.new.returned ++ drop (row_count c.args.sheet.now) c.args.returned.now)) (take (row_count c.args.sheet.now) (c.formula_tests.new.masks ++ drop (row_count c.args.sheet.now) c.args.masks.now))
            (sym (c.row_tests.ensures.1 c.in_ok-row_tests.was))
            (part-back (row_count c.args.sheet.now) 200 (rows_few c.args.sheet.now (rowwise c.args.sheet.now (sym c.row_tests.ensures.0 ∙ c.in_ok-row_tests.was)).laid (rowwise c.args.sheet.now (sym c.row_tests.ensures.0 ∙ c.in_ok-row_tests.was)).few) c.args.returned.now c.requires.1 c.formula_tests.new.returned c.formula_tests.auto.returned)
            (part-back (row_count c.args.sheet.now) 200 (rows_few c.args.sheet.now (rowwise c.args.sheet.now (sym c.row_tests.ensures.0 ∙ c.in_ok-row_tests.was)).laid (rowwise c.args.sheet.now (sym c.row_tests.ensures.0 ∙ c.in_ok-row_tests.was)).few) c.args.masks.now c.requires.2 c.formula_tests.new.masks c.formula_tests.auto.masks)
            (c.formula_tests.ensures.1 q);
      };
    }
