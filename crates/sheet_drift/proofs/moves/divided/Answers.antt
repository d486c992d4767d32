use native.Mathlib.Omega.{arith}
use mathlib.Core.Path.{sym, ap, ◌∙◌}
use mathlib.Core.Bool.{false≢true}
use Rattle.sheet_sorts.specs.Shapes.{divides_by_whole_row}
use Rattle.sheet_drift.proofs.NoPair.{no-pair}
use Rattle.sheet_drift.specs.Moved.{in_table, second-row, divisor, quotient_is, quotient-named}
use Rattle.sheet_drift.proofs.moves.divided.Goals as goal

pub shape_at-requires : goal.shape_at-requires
shape_at-requires c = in_table c.args.t.now c.args.b c.requires.0.0

pub returns-in_default : goal.returns-in_default
returns-in_default c = absurd (false≢true (sym (no-pair c.args.t.now c.shape_at.result c.in_default.not-Pair).1 ∙ ap (divides_by_whole_row c.args.t.now) c.shape_at.ensures ∙ quotient-named c.args.t.now c.args.b c.requires.0))

pub amount-c-requires : goal.amount-c-requires
amount-c-requires c = in_table c.args.t.now c.in-Pair.y (second-row c.args.t.now c.args.b c.requires.0.0 c.in-Pair.field-0 c.in-Pair.y (sym c.shape_at.ensures ∙ c.in-Pair.is))

pub overflow_sub-result : goal.overflow_sub-result
overflow_sub-result c = omega (arith, (divisor c.args.t.now c.args.b c.requires.0.0 c.in-Pair.field-0 c.in-Pair.y (sym c.shape_at.ensures ∙ c.in-Pair.is) c.requires.0.1 c.amount-c.result c.amount-c.ensures).0)

pub nonzero_div-result : goal.nonzero_div-result
nonzero_div-result c = omega (arith, (divisor c.args.t.now c.args.b c.requires.0.0 c.in-Pair.field-0 c.in-Pair.y (sym c.shape_at.ensures ∙ c.in-Pair.is) c.requires.0.1 c.amount-c.result c.amount-c.ensures).0)

pub returns : goal.returns
returns c = quotient_is c.args.t.now c.args.b c.requires.0.0 c.in-Pair.field-0 c.in-Pair.y (sym c.shape_at.ensures ∙ c.in-Pair.is) c.amount-c.result c.args.d c.amount-c.ensures
