use native.Mathlib.Omega.{arith}
use Prim.Native.Nat.{ℕ, ◌-◌, ◌≤◌}
use mathlib.Core.Path.{sym, ap, ◌∙◌}
use mathlib.Core.List.{List}
use Rattle.meaning.specs.declared.Evaluation.{Evaluation}
use Rattle.eval_sheet.specs.declared.EvaluateAnswer.{EvaluateAnswer}
use Rattle.eval_sheet.specs.Handed.{answers, handed, handed-short, handed-refused, handed-passed}
use Rattle.eval_sheet.specs.Small.{low-row-of, narrow-width}
use Rattle.eval_sheet.proofs.evaluate_into.Goals as goal

pub returns-then-out-lt80 : goal.returns-then-out-lt80
returns-then-out-lt80 c = ap (λ (a : EvaluateAnswer). handed a c.args.out.now) c.refused.ensures ∙ handed-short c.args.sheet.now c.args.line.now c.args.set.now c.args.rounds c.args.out.now c.if-out-lt80.true

pub overflow_cast-row : goal.overflow_cast-row
overflow_cast-row c = let b = low-row-of c.args.sheet.now c.args.line.now c.args.set.now c.args.rounds c.in-Err.field-0.refusal c.in-Err.field-0.row (ap (λ (z : Evaluation). z.verdict) (sym c.evaluate-e.ensures) ∙ c.in-Err.is) in record { fits = omega (arith, b) }

pub overflow_cast-result : goal.overflow_cast-result
overflow_cast-result c = let b = narrow-width c.args.sheet.now c.args.line.now c.args.set.now c.args.rounds in let e : c.evaluate-e.result.width ≤ 16 = rw c.evaluate-e.ensures b in record { fits = omega (arith, e) }

pub returns-in-Err : goal.returns-in-Err
returns-in-Err c = ap (λ (a : EvaluateAnswer). handed a c.args.out.now) c.refused-in-Err.ensures ∙ handed-refused c.args.sheet.now c.args.line.now c.args.set.now c.args.rounds c.args.out.now c.if-out-lt80.false c.in-Err.field-0.refusal c.in-Err.field-0.row (ap (λ (z : Evaluation). z.verdict) (sym c.evaluate-e.ensures) ∙ c.in-Err.is)

pub returns-in-Ok : goal.returns-in-Ok
returns-in-Ok c = ap (λ (o : List ℕ). handed (answers 0 0 c.evaluate-e.result.width c.evaluate-e.result.rounds) o) c.write_cells.ensures ∙ handed-passed c.args.sheet.now c.args.line.now c.args.set.now c.args.rounds c.args.out.now c.if-out-lt80.false c.evaluate-e.result c.evaluate-e.ensures c.in-Ok.is
