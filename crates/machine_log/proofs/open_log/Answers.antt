use mathlib.Core.Path.{sym, ap, ap₂, ◌∙◌}
use mathlib.Core.List.{List}
use Prim.Native.Nat.{ℕ}
use lib.ListN.{length}
use lib.Seq.{length-take-le}
use Rattle.formula.specs.Results.{Verdict}
use Rattle.formula.specs.Tree.{formula_of}
use Rattle.formula.specs.Widths.{width}
use Rattle.formula.specs.Faults.{letters_of}
use Rattle.formula.proofs.Acceptance.{accepted-passed, rejected-refused}
use Rattle.formula.proofs.Results.{exit-with}
use Rattle.machine_log.specs.CheckedLaws.{log_verdict, opened_by, letters-read, width_read, inputs_in_lem, inputs-few, opening-lent, opening-sheet, opening-log}
use Rattle.machine_log.proofs.open_log.Goals as goal

pub returns-in_err-test_lent : goal.returns-in_err-test_lent
returns-in_err-test_lent c = exit-with _ _ c.from_residual.ensures.1 ∙ ap (λ (v : Verdict). opened_by v (length (letters_of (formula_of c.args.sheet.now) c.args.line.now)) (width (formula_of c.args.sheet.now))) (sym (opening-lent c.args.sheet.now c.args.line.now c.args.capacity c.args.sets.now c.args.number c.args.log.now c.args.lent c.args.room _ _ (sym c.test_lent.ensures ∙ c.in_err-test_lent.was)))

pub slice_bounds-test_log-end : goal.slice_bounds-test_log-end
slice_bounds-test_log-end c = sym (length-take-le c.in_ok-f.f.inputs c.args.line.now (inputs_in_lem c.args.sheet.now c.args.line.now c.in_ok-f.f (sym c.read.ensures ∙ c.in_ok-f.was)))

pub test_log-requires : goal.test_log-requires
test_log-requires c = inputs-few c.args.sheet.now c.args.line.now c.in_ok-f.f (sym c.read.ensures ∙ c.in_ok-f.was)

pub returns-in_err-f : goal.returns-in_err-f
returns-in_err-f c =
    exit-with _ _ c.from_residual-in_err-f.ensures.1
    ∙ ap (λ (v : Verdict). opened_by v (length (letters_of (formula_of c.args.sheet.now) c.args.line.now)) (width (formula_of c.args.sheet.now)))
    (sym (opening-sheet c.args.sheet.now c.args.line.now c.args.capacity c.args.sets.now c.args.number c.args.log.now c.args.lent c.args.room (sym c.test_lent.ensures ∙ c.in_ok-test_lent.was)
    c.in_err-f.field-0.0.refusal c.in_err-f.field-0.0.row (rejected-refused c.args.sheet.now c.args.line.now c.in_err-f.field-0.0.refusal c.in_err-f.field-0.0.row (sym c.read.ensures ∙ c.in_err-f.was))))

pub returns : goal.returns
returns c =
    c.test_log.ensures
    ∙ ap₂ (λ (ks : List ℕ) (w : ℕ). opened_by (log_verdict ks c.args.sets.now c.args.number c.args.log.now) (length ks) w)
    (letters-read c.args.sheet.now c.args.line.now c.in_ok-f.f (sym c.read.ensures ∙ c.in_ok-f.was))
    (width_read c.args.sheet.now c.args.line.now c.in_ok-f.f (sym c.read.ensures ∙ c.in_ok-f.was))
    ∙ ap (λ (v : Verdict). opened_by v (length (letters_of (formula_of c.args.sheet.now) c.args.line.now)) (width (formula_of c.args.sheet.now)))
    (sym (opening-log c.args.sheet.now c.args.line.now c.args.capacity c.args.sets.now c.args.number c.args.log.now c.args.lent c.args.room (sym c.test_lent.ensures ∙ c.in_ok-test_lent.was) (accepted-passed c.args.sheet.now c.args.line.now c.in_ok-f.f (sym c.read.ensures ∙ c.in_ok-f.was))))
