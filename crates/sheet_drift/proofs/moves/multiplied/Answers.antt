use native.Mathlib.Omega.{arith}
use mathlib.Core.Path.{sym, ap, ◌∙◌}
use mathlib.Core.Bool.{false≢true}
use Rattle.sheet_sorts.specs.Shapes.{names_whole_row}
use Rattle.sheet_drift.proofs.NoPair.{no-pair}
use Rattle.sheet_drift.specs.Moved.{in_table, first-row, second-row, first-product, second-product, product-first, product-second, product-named}
use Rattle.sheet_drift.proofs.moves.multiplied.Goals as goal

pub shape_at-requires : goal.shape_at-requires
shape_at-requires c = in_table c.args.t.now c.args.b c.requires.0.0

pub returns-in_default : goal.returns-in_default
returns-in_default c = absurd (false≢true (sym (no-pair c.args.t.now c.shape_at.result c.in_default.not-Pair).0 ∙ ap (names_whole_row c.args.t.now) c.shape_at.ensures ∙ product-named c.args.t.now c.args.b c.requires.0))

pub is_whole-requires : goal.is_whole-requires
is_whole-requires c = in_table c.args.t.now c.in-Pair.x (first-row c.args.t.now c.args.b c.requires.0.0 c.in-Pair.x c.in-Pair.y (sym c.shape_at.ensures ∙ c.in-Pair.is))

pub amount-requires : goal.amount-requires
amount-requires c = in_table c.args.t.now c.in-Pair.x (first-row c.args.t.now c.args.b c.requires.0.0 c.in-Pair.x c.in-Pair.y (sym c.shape_at.ensures ∙ c.in-Pair.is))

pub overflow_mul-result : goal.overflow_mul-result
overflow_mul-result c = omega (arith, first-product c.args.t.now c.args.b c.requires.0.0 c.in-Pair.x c.in-Pair.y (sym c.shape_at.ensures ∙ c.in-Pair.is) c.amount.result c.args.e c.amount.ensures c.requires.2)

pub returns-then-is_whole : goal.returns-then-is_whole
returns-then-is_whole c = product-first c.args.t.now c.args.b c.requires.0.0 c.in-Pair.x c.in-Pair.y (sym c.shape_at.ensures ∙ c.in-Pair.is) c.amount.result c.args.d c.args.e c.amount.ensures (sym c.is_whole.ensures ∙ c.if-is_whole.true)

pub amount-requires-2 : goal.amount-requires-2
amount-requires-2 c = in_table c.args.t.now c.in-Pair.y (second-row c.args.t.now c.args.b c.requires.0.0 c.in-Pair.x c.in-Pair.y (sym c.shape_at.ensures ∙ c.in-Pair.is))

pub overflow_mul-result-2 : goal.overflow_mul-result-2
overflow_mul-result-2 c = omega (arith, second-product c.args.t.now c.args.b c.requires.0.0 c.in-Pair.x c.in-Pair.y (sym c.shape_at.ensures ∙ c.in-Pair.is) c.amount-2.result c.args.d c.amount-2.ensures c.requires.1)

pub returns : goal.returns
returns c = product-second c.args.t.now c.args.b c.requires.0.0 c.in-Pair.x c.in-Pair.y (sym c.shape_at.ensures ∙ c.in-Pair.is) c.amount-2.result c.args.d c.args.e c.amount-2.ensures (sym c.is_whole.ensures ∙ c.if-is_whole.false)
