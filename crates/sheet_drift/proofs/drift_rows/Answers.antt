use native.Mathlib.Omega.{arith}
use mathlib.Core.Path.{refl, sym, ap, ◌∙◌}
use Rattle.eval_words.specs.Needs.{narrow}
use Rattle.sheet_drift.specs.declared.DriftAnswer.{DriftAnswer}
use Rattle.sheet_drift.specs.Drifting.{handed}
use Rattle.sheet_drift.specs.Tested.{rows_verdict, last_moves, low-fault, numbers-counted}
use Rattle.sheet_drift.proofs.AnswerLaws.{rows-refuse, rows-accept}
use Rattle.sheet_drift.proofs.drift_rows.Goals as goal

pub drift_tests-requires : goal.drift_tests-requires
drift_tests-requires c = (c.requires.0, refl)

pub overflow_cast-row : goal.overflow_cast-row
overflow_cast-row c = let l = low-fault c.args.fields.now c.args.widths.now c.args.n c.requires.0.row c.args.line.now c.args.tolerances.now c.in-Err.field-0.refusal c.in-Err.field-0.row (sym c.drift_tests.ensures.0 ∙ c.in-Err.is) in record { fits = omega (arith, l, c.requires.1) }

pub width_at-results-requires : goal.width_at-results-requires
width_at-results-requires c = (c.requires.0.row.low, omega (arith, c.requires.0.row.high, c.requires.0.row.accepted.table))

pub write_numbers-requires : goal.write_numbers-requires
write_numbers-requires c = let w = narrow c.args.fields.now c.args.widths.now c.args.n c.requires.0.row in (omega (arith, w, c.width_at-results.ensures.0, c.drift_tests.auto.numbers), omega (arith, w, c.width_at-results.ensures.0, c.requires.2))

pub returns-in-Err : goal.returns-in-Err
returns-in-Err c = ap (λ (a : DriftAnswer). handed a c.args.out.now) c.refused.ensures ∙ rows-refuse (rows_verdict c.args.fields.now c.args.n c.args.line.now c.args.tolerances.now) (last_moves c.args.fields.now c.args.n c.args.tolerances.now) c.args.out.now c.in-Err.field-0.refusal c.in-Err.field-0.row (sym c.drift_tests.ensures.0 ∙ c.in-Err.is)

pub returns-in-Ok : goal.returns-in-Ok
returns-in-Ok c = rows-accept (rows_verdict c.args.fields.now c.args.n c.args.line.now c.args.tolerances.now) (last_moves c.args.fields.now c.args.n c.args.tolerances.now) c.args.out.now (sym c.drift_tests.ensures.0 ∙ c.in-Ok.is) c.width_at-results.result c.drift_tests.new.numbers c.write_numbers.new.out (omega (arith, narrow c.args.fields.now c.args.widths.now c.args.n c.requires.0.row, c.width_at-results.ensures.0)) (c.width_at-results.ensures.0 ∙ numbers-counted c.args.fields.now c.args.widths.now c.args.n c.requires.0.row c.args.line.now c.args.tolerances.now (sym c.drift_tests.ensures.0 ∙ c.in-Ok.is)) (c.drift_tests.ensures.1 c.in-Ok.is) c.write_numbers.ensures
