use mathlib.Core.Path.{refl, sym, ◌∙◌}
use native.Mathlib.Omega.{arith}
use Rattle.sheet_read.proofs.FigureLaws.{answer-modest, answer-low}
use Rattle.sheet_read.proofs.read.bench_read.Goals as goal

pub overflow_cast-result : goal.overflow_cast-result
overflow_cast-result c = let m = (answer-modest c.args.sheet.now c.args.kinds.now c.in-Ok.f (sym c.read.ensures ∙ c.in-Ok.is)).rows in record { fits = omega (arith, m) }

pub overflow_cast-result-in-Ok : goal.overflow_cast-result-in-Ok
overflow_cast-result-in-Ok c = let m = (answer-modest c.args.sheet.now c.args.kinds.now c.in-Ok.f (sym c.read.ensures ∙ c.in-Ok.is)).operators in record { fits = omega (arith, m) }

pub overflow_cast-result-in-Ok-2 : goal.overflow_cast-result-in-Ok-2
overflow_cast-result-in-Ok-2 c = let m = (answer-modest c.args.sheet.now c.args.kinds.now c.in-Ok.f (sym c.read.ensures ∙ c.in-Ok.is)).inputs in record { fits = omega (arith, m) }

pub overflow_cast-result-in-Ok-3 : goal.overflow_cast-result-in-Ok-3
overflow_cast-result-in-Ok-3 c = let m = (answer-modest c.args.sheet.now c.args.kinds.now c.in-Ok.f (sym c.read.ensures ∙ c.in-Ok.is)).results in record { fits = omega (arith, m) }

pub overflow_cast-result-in-Err : goal.overflow_cast-result-in-Err
overflow_cast-result-in-Err c = let m = answer-low c.args.sheet.now c.args.kinds.now c.in-Err.field-0.refusal c.in-Err.field-0.row (sym c.read.ensures ∙ c.in-Err.is) in record { fits = omega (arith, m) }

pub returns-in-Ok : goal.returns-in-Ok
returns-in-Ok c = rw (sym c.read.ensures, c.in-Ok.is) refl

pub returns-in-Err : goal.returns-in-Err
returns-in-Err c = rw (sym c.read.ensures, c.in-Err.is, c.from.ensures) refl
