use native.Mathlib.Omega.{arith}
use mathlib.Core.Path.{sym, ap, ◌∙◌}
use Rattle.formula.specs.Tree.{exp_of}
use Rattle.formula.specs.declared.Refusal.TheVariants.{Sort, Movement}
use Rattle.eval_words.specs.Inputs.{inputs_in_lem}
use Rattle.eval_words.specs.Needs.{narrow}
use lib.Seq.{sets}
use Rattle.sheet_movement.specs.Moves.{Moves, moves_e, fits_e}
use Rattle.formula.proofs.Results.{exit-at, passed-at}
use Rattle.sheet_drift.specs.Numbers.{order-inputs, order-within}
use Rattle.sheet_drift.specs.Drifts.{kept-drifts}
use Rattle.sheet_drift.specs.Tested.{last_moves, fault-sort, fault-tolerances, fault-moves, tests-pass}
use Rattle.sheet_drift.proofs.AnswerLaws.{never-passed}
use Rattle.sheet_drift.proofs.drift_tests.Goals as goal

pub test_sorts-requires : goal.test_sorts-requires
test_sorts-requires c = (c.requires.0.row, c.requires.0.mask_is, c.requires.0.line-is)

pub returns-in_err-at_row : goal.returns-in_err-at_row
returns-in_err-at_row c =
    let p = exit-at _ _ _ _ _ c.at_row.ensures c.in_err-at_row.was c.from_residual.ensures.1 in
    (p.1 ∙ fault-sort c.args.fields.now c.args.n c.args.line.now c.args.tolerances.now _ (sym c.test_sorts.ensures ∙ p.0), λ e. never-passed Sort _ (sym p.1 ∙ e))

pub tolerances_well-requires : goal.tolerances_well-requires
tolerances_well-requires c = c.inputs_in.ensures.1

pub returns-then-not-tolerances_well : goal.returns-then-not-tolerances_well
returns-then-not-tolerances_well c = (fault-tolerances c.args.fields.now c.args.n c.args.line.now c.args.tolerances.now (sym c.test_sorts.ensures ∙ (passed-at _ _ _ (sym c.at_row.ensures ∙ c.in_ok-at_row.was))) c.inputs_in.result (c.inputs_in.ensures.0 ∙ inputs_in_lem (exp_of c.args.fields.now c.args.n) c.args.free c.requires.0.mask_is) (sym c.tolerances_well.ensures ∙ c.if-not-tolerances_well.true), λ e. never-passed Movement 0 e)

pub row_moves-requires : goal.row_moves-requires
row_moves-requires c = (c.requires.0.row, kept-drifts c.args.fields.now c.args.widths.now c.args.n c.args.line.now c.requires.0.row (sym c.test_sorts.ensures ∙ (passed-at _ _ _ (sym c.at_row.ensures ∙ c.in_ok-at_row.was))), c.in_order-env.ensures.long, order-within (exp_of c.args.fields.now c.args.n) c.args.tolerances.now c.in_order-env.result c.args.free c.inputs_in.result c.requires.0.mask_is (c.inputs_in.ensures.0 ∙ inputs_in_lem (exp_of c.args.fields.now c.args.n) c.args.free c.requires.0.mask_is) (sym c.tolerances_well.ensures ∙ c.if-not-tolerances_well.false) c.in_order-env.ensures, omega (arith, narrow c.args.fields.now c.args.widths.now c.args.n c.requires.0.row, c.requires.1))

pub returns-then-not-row_moves : goal.returns-then-not-row_moves
returns-then-not-row_moves c = (fault-moves c.args.fields.now c.args.n c.args.line.now c.args.tolerances.now (sym c.test_sorts.ensures ∙ (passed-at _ _ _ (sym c.at_row.ensures ∙ c.in_ok-at_row.was))) c.inputs_in.result (c.inputs_in.ensures.0 ∙ inputs_in_lem (exp_of c.args.fields.now c.args.n) c.args.free c.requires.0.mask_is) (sym c.tolerances_well.ensures ∙ c.if-not-tolerances_well.false) (ap (fits_e (exp_of c.args.fields.now c.args.n)) (sym (order-inputs (exp_of c.args.fields.now c.args.n) c.args.tolerances.now c.in_order-env.result c.args.free c.inputs_in.result c.requires.0.mask_is (c.inputs_in.ensures.0 ∙ inputs_in_lem (exp_of c.args.fields.now c.args.n) c.args.free c.requires.0.mask_is) (sym c.tolerances_well.ensures ∙ c.if-not-tolerances_well.false) c.in_order-env.ensures)) ∙ sym c.row_moves.ensures.0 ∙ c.if-not-row_moves.true), λ e. never-passed Movement 0 e)

pub returns : goal.returns
unfolding last_moves
returns c = (tests-pass c.args.fields.now c.args.n c.args.line.now c.args.tolerances.now (sym c.test_sorts.ensures ∙ (passed-at _ _ _ (sym c.at_row.ensures ∙ c.in_ok-at_row.was))) c.inputs_in.result (c.inputs_in.ensures.0 ∙ inputs_in_lem (exp_of c.args.fields.now c.args.n) c.args.free c.requires.0.mask_is) (sym c.tolerances_well.ensures ∙ c.if-not-tolerances_well.false) (ap (fits_e (exp_of c.args.fields.now c.args.n)) (sym (order-inputs (exp_of c.args.fields.now c.args.n) c.args.tolerances.now c.in_order-env.result c.args.free c.inputs_in.result c.requires.0.mask_is (c.inputs_in.ensures.0 ∙ inputs_in_lem (exp_of c.args.fields.now c.args.n) c.args.free c.requires.0.mask_is) (sym c.tolerances_well.ensures ∙ c.if-not-tolerances_well.false) c.in_order-env.ensures)) ∙ sym c.row_moves.ensures.0 ∙ c.if-not-row_moves.false), λ e. c.row_moves.ensures.1 (c.if-not-row_moves.false) ∙ ap (λ (m : Moves). sets c.args.numbers.now 0 (moves_e (exp_of c.args.fields.now c.args.n) m)) (order-inputs (exp_of c.args.fields.now c.args.n) c.args.tolerances.now c.in_order-env.result c.args.free c.inputs_in.result c.requires.0.mask_is (c.inputs_in.ensures.0 ∙ inputs_in_lem (exp_of c.args.fields.now c.args.n) c.args.free c.requires.0.mask_is) (sym c.tolerances_well.ensures ∙ c.if-not-tolerances_well.false) c.in_order-env.ensures))
