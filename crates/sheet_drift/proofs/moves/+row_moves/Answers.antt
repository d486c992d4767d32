use native.Mathlib.Omega.{arith}
use Prim.Native.Nat.{ℕ, ◌+◌}
use mathlib.Core.Path.{refl, sym, ap, ◌∙◌}
use lib.ListN.{get_or, set, length-set}
use borrow.Author.Tests.{not-true, not-false}
use Rattle.formula.specs.declared.Shape.TheVariants.{Identifier, Constant, Pair, Operator, Let, If, For, Iter}
use Rattle.meaning.proofs.Rows.{exp-children}
use Rattle.eval_words.specs.Needs.{exp-needs}
use Rattle.sheet_drift.specs.Numbers.{moves_in}
use Rattle.sheet_drift.specs.Drifts.{drifts-below}
use Rattle.sheet_drift.specs.Walk.{tell-identifier, tell-constant, pair-stopped, tell-pair, operator-stopped, operands-in-range, tell-operator, let-stopped, inner-in-range, tell-let}
use Rattle.sheet_drift.proofs.moves.+row_moves.Goals as goal

pub shape_at-requires : goal.shape_at-requires
shape_at-requires t c = (c.requires.0.low, omega (arith, c.requires.0.accepted.fields, c.requires.0.high))

pub bounds-env-a : goal.bounds-env-a
bounds-env-a t c = let f = exp-needs c.args.t.now c.args.widths.now c.args.r c.requires.0 (Identifier c.in-Identifier.a) (sym c.shape_at.ensures ∙ c.in-Identifier.is) in omega (arith, f.1, c.requires.2)

pub bounds-out-at : goal.bounds-out-at
bounds-out-at t c = let f = exp-needs c.args.t.now c.args.widths.now c.args.r c.requires.0 (Identifier c.in-Identifier.a) (sym c.shape_at.ensures ∙ c.in-Identifier.is) in omega (arith, f.0, c.requires.4)

pub bounds-out-at-in-Constant : goal.bounds-out-at-in-Constant
bounds-out-at-in-Constant t c = let f = exp-needs c.args.t.now c.args.widths.now c.args.r c.requires.0 (Constant c.in-Constant.field-0 c.in-Constant.field-1) (sym c.shape_at.ensures ∙ c.in-Constant.is) in omega (arith, f.0, c.requires.4)

pub row_moves-requires : goal.row_moves-requires
row_moves-requires t c = let f = exp-needs c.args.t.now c.args.widths.now c.args.r c.requires.0 (Pair c.in-Pair.a c.in-Pair.b) (sym c.shape_at.ensures ∙ c.in-Pair.is) in let k = exp-children c.args.t.now c.args.widths.now c.args.r c.requires.0 (Pair c.in-Pair.a c.in-Pair.b) (sym c.shape_at.ensures ∙ c.in-Pair.is) in let g = drifts-below c.args.t.now c.args.widths.now c.args.r c.requires.0 c.requires.1 (Pair c.in-Pair.a c.in-Pair.b) (sym c.shape_at.ensures ∙ c.in-Pair.is) in (omega (arith, k.0.1), (k.0.0, g.0, c.requires.2, c.requires.3, omega (arith, f, c.requires.4)))

pub shape_of-out-else-row_moves : goal.shape_of-out-else-row_moves
shape_of-out-else-row_moves t c = c.row_moves.auto.out

pub returns-else-row_moves : goal.returns-else-row_moves
returns-else-row_moves t c = rw c.if-row_moves.false (pair-stopped c.args.t.now c.args.widths.now c.args.r c.requires.0 (moves_in c.args.env.now) c.args.at c.args.out.now c.row_moves.new.out c.in-Pair.a c.in-Pair.b (sym c.shape_at.ensures ∙ c.in-Pair.is) c.row_moves.new.out c.row_moves.result c.row_moves.ensures c.if-row_moves.false)

pub width_at-requires : goal.width_at-requires
width_at-requires t c = let k = exp-children c.args.t.now c.args.widths.now c.args.r c.requires.0 (Pair c.in-Pair.a c.in-Pair.b) (sym c.shape_at.ensures ∙ c.in-Pair.is) in (k.0.0.low, omega (arith, k.0.0.high, k.0.0.accepted.table))

pub overflow_add-at : goal.overflow_add-at
overflow_add-at t c = let f = exp-needs c.args.t.now c.args.widths.now c.args.r c.requires.0 (Pair c.in-Pair.a c.in-Pair.b) (sym c.shape_at.ensures ∙ c.in-Pair.is) in omega (arith, f, c.requires.4, c.width_at.ensures.0, c.well_formed.1.1.1.1.0.0)

pub row_moves-requires-then-row_moves : goal.row_moves-requires-then-row_moves
row_moves-requires-then-row_moves t c = let f = exp-needs c.args.t.now c.args.widths.now c.args.r c.requires.0 (Pair c.in-Pair.a c.in-Pair.b) (sym c.shape_at.ensures ∙ c.in-Pair.is) in let k = exp-children c.args.t.now c.args.widths.now c.args.r c.requires.0 (Pair c.in-Pair.a c.in-Pair.b) (sym c.shape_at.ensures ∙ c.in-Pair.is) in let g = drifts-below c.args.t.now c.args.widths.now c.args.r c.requires.0 c.requires.1 (Pair c.in-Pair.a c.in-Pair.b) (sym c.shape_at.ensures ∙ c.in-Pair.is) in (omega (arith, k.1.1), (k.1.0, g.1, c.requires.2, c.requires.3, omega (arith, f, c.requires.4, c.width_at.ensures.0, c.row_moves.auto.out)))

pub row_moves-requires-in-Operator : goal.row_moves-requires-in-Operator
row_moves-requires-in-Operator t c = let f = exp-needs c.args.t.now c.args.widths.now c.args.r c.requires.0 (Operator c.in-Operator.code c.in-Operator.b) (sym c.shape_at.ensures ∙ c.in-Operator.is) in let k = exp-children c.args.t.now c.args.widths.now c.args.r c.requires.0 (Operator c.in-Operator.code c.in-Operator.b) (sym c.shape_at.ensures ∙ c.in-Operator.is) in let g = drifts-below c.args.t.now c.args.widths.now c.args.r c.requires.0 c.requires.1 (Operator c.in-Operator.code c.in-Operator.b) (sym c.shape_at.ensures ∙ c.in-Operator.is) in (omega (arith, k.1), (k.0, g.1, c.requires.2, c.requires.3, omega (arith, f.1)))

pub returns-then-not-row_moves : goal.returns-then-not-row_moves
returns-then-not-row_moves t c = operator-stopped c.args.t.now c.args.widths.now c.args.r c.requires.0 (moves_in c.args.env.now) c.args.at c.args.out.now c.args.out.now c.in-Operator.code c.in-Operator.b (sym c.shape_at.ensures ∙ c.in-Operator.is) c.row_moves-in-Operator.new.out c.row_moves-in-Operator.result c.row_moves-in-Operator.ensures c.if-not-row_moves.true

pub overflow_cast-operands : goal.overflow_cast-operands
overflow_cast-operands t c = omega (arith, (operands-in-range c.args.t.now c.args.widths.now c.args.r c.requires.0 (moves_in c.args.env.now) c.args.at c.args.out.now c.args.out.now c.in-Operator.code c.in-Operator.b (sym c.shape_at.ensures ∙ c.in-Operator.is) c.row_moves-in-Operator.new.out c.row_moves-in-Operator.result c.row_moves-in-Operator.ensures c.requires.1 c.if-not-row_moves.false).0)

pub overflow_cast-operands-in-Operator : goal.overflow_cast-operands-in-Operator
overflow_cast-operands-in-Operator t c = omega (arith, (operands-in-range c.args.t.now c.args.widths.now c.args.r c.requires.0 (moves_in c.args.env.now) c.args.at c.args.out.now c.args.out.now c.in-Operator.code c.in-Operator.b (sym c.shape_at.ensures ∙ c.in-Operator.is) c.row_moves-in-Operator.new.out c.row_moves-in-Operator.result c.row_moves-in-Operator.ensures c.requires.1 c.if-not-row_moves.false).1)

pub moved-requires : goal.moved-requires
moved-requires t c = let k = exp-children c.args.t.now c.args.widths.now c.args.r c.requires.0 (Operator c.in-Operator.code c.in-Operator.b) (sym c.shape_at.ensures ∙ c.in-Operator.is) in let g = drifts-below c.args.t.now c.args.widths.now c.args.r c.requires.0 c.requires.1 (Operator c.in-Operator.code c.in-Operator.b) (sym c.shape_at.ensures ∙ c.in-Operator.is) in let o = operands-in-range c.args.t.now c.args.widths.now c.args.r c.requires.0 (moves_in c.args.env.now) c.args.at c.args.out.now c.args.out.now c.in-Operator.code c.in-Operator.b (sym c.shape_at.ensures ∙ c.in-Operator.is) c.row_moves-in-Operator.new.out c.row_moves-in-Operator.result c.row_moves-in-Operator.ensures c.requires.1 c.if-not-row_moves.false in ((record { widths = c.args.widths.now; row = k.0 }, g.0), o.0, o.1)

pub put_within-requires : goal.put_within-requires
put_within-requires t c = let f = exp-needs c.args.t.now c.args.widths.now c.args.r c.requires.0 (Operator c.in-Operator.code c.in-Operator.b) (sym c.shape_at.ensures ∙ c.in-Operator.is) in omega (arith, f.0, c.requires.4)

pub row_moves-requires-in-Let : goal.row_moves-requires-in-Let
row_moves-requires-in-Let t c = let f = exp-needs c.args.t.now c.args.widths.now c.args.r c.requires.0 (Let c.in-Let.a c.in-Let.field-1 c.in-Let.c c.in-Let.d) (sym c.shape_at.ensures ∙ c.in-Let.is) in let k = exp-children c.args.t.now c.args.widths.now c.args.r c.requires.0 (Let c.in-Let.a c.in-Let.field-1 c.in-Let.c c.in-Let.d) (sym c.shape_at.ensures ∙ c.in-Let.is) in let g = drifts-below c.args.t.now c.args.widths.now c.args.r c.requires.0 c.requires.1 (Let c.in-Let.a c.in-Let.field-1 c.in-Let.c c.in-Let.d) (sym c.shape_at.ensures ∙ c.in-Let.is) in (omega (arith, k.0.1), (k.0.0, g.0, c.requires.2, c.requires.3, omega (arith, f.0, f.1, c.requires.2)))

pub returns-then-not-row_moves-2 : goal.returns-then-not-row_moves-2
returns-then-not-row_moves-2 t c = let-stopped c.args.t.now c.args.widths.now c.args.r c.requires.0 c.args.env.now c.args.at c.args.out.now c.args.out.now c.requires.2 c.in-Let.a c.in-Let.field-1 c.in-Let.c c.in-Let.d (sym c.shape_at.ensures ∙ c.in-Let.is) c.row_moves-in-Let.new.out c.row_moves-in-Let.result c.row_moves-in-Let.ensures c.if-not-row_moves-2.true

pub row_moves-requires-in-Let-2 : goal.row_moves-requires-in-Let-2
row_moves-requires-in-Let-2 t c = let f = exp-needs c.args.t.now c.args.widths.now c.args.r c.requires.0 (Let c.in-Let.a c.in-Let.field-1 c.in-Let.c c.in-Let.d) (sym c.shape_at.ensures ∙ c.in-Let.is) in let k = exp-children c.args.t.now c.args.widths.now c.args.r c.requires.0 (Let c.in-Let.a c.in-Let.field-1 c.in-Let.c c.in-Let.d) (sym c.shape_at.ensures ∙ c.in-Let.is) in let g = drifts-below c.args.t.now c.args.widths.now c.args.r c.requires.0 c.requires.1 (Let c.in-Let.a c.in-Let.field-1 c.in-Let.c c.in-Let.d) (sym c.shape_at.ensures ∙ c.in-Let.is) in (omega (arith, k.1.1), (k.1.0, g.1, c.row_moves-in-Let.auto.out ∙ c.requires.2, inner-in-range c.args.t.now c.args.widths.now c.args.r c.requires.0 c.args.env.now c.args.at c.args.out.now c.args.out.now c.requires.2 c.in-Let.a c.in-Let.field-1 c.in-Let.c c.in-Let.d (sym c.shape_at.ensures ∙ c.in-Let.is) c.row_moves-in-Let.new.out c.row_moves-in-Let.result c.row_moves-in-Let.ensures c.requires.1 c.if-not-row_moves-2.false c.requires.3, omega (arith, f.2, c.requires.4)))

pub shape_of-out-in-Identifier : goal.shape_of-out-in-Identifier
shape_of-out-in-Identifier t c = length-set c.args.out.now c.args.at _

pub returns-in-Identifier : goal.returns-in-Identifier
unfolding moves_in
returns-in-Identifier t c = tell-identifier c.args.t.now c.args.widths.now c.args.r c.requires.0 (moves_in c.args.env.now) c.args.at c.args.out.now (set c.args.out.now c.args.at (get_or c.args.env.now c.in-Identifier.a 0)) c.in-Identifier.a (sym c.shape_at.ensures ∙ c.in-Identifier.is) c.requires.3 refl

pub shape_of-out-in-Constant : goal.shape_of-out-in-Constant
shape_of-out-in-Constant t c = length-set c.args.out.now c.args.at _

pub returns-in-Constant : goal.returns-in-Constant
returns-in-Constant t c = tell-constant c.args.t.now c.args.widths.now c.args.r c.requires.0 (moves_in c.args.env.now) c.args.at c.args.out.now (set c.args.out.now c.args.at 0) c.in-Constant.field-0 c.in-Constant.field-1 (sym c.shape_at.ensures ∙ c.in-Constant.is) refl

pub shape_of-out-then-row_moves : goal.shape_of-out-then-row_moves
shape_of-out-then-row_moves t c = c.row_moves-then-row_moves.auto.out ∙ c.row_moves.auto.out

pub returns-then-row_moves : goal.returns-then-row_moves
returns-then-row_moves t c = tell-pair c.args.t.now c.args.widths.now c.args.r c.requires.0 (moves_in c.args.env.now) c.args.at c.args.out.now c.row_moves-then-row_moves.new.out c.in-Pair.a c.in-Pair.b (sym c.shape_at.ensures ∙ c.in-Pair.is) c.row_moves.new.out c.row_moves.result c.row_moves.ensures c.requires.1 c.if-row_moves.true (c.args.at + c.width_at.result) (ap (λ (z : ℕ). c.args.at + z) c.width_at.ensures.0) c.row_moves-then-row_moves.result c.row_moves-then-row_moves.ensures

pub shape_of-out-else-not-row_moves : goal.shape_of-out-else-not-row_moves
shape_of-out-else-not-row_moves t c = c.put_within.auto.out

pub returns-else-not-row_moves : goal.returns-else-not-row_moves
returns-else-not-row_moves t c = tell-operator c.args.t.now c.args.widths.now c.args.r c.requires.0 (moves_in c.args.env.now) c.args.at c.args.out.now c.put_within.new.out c.in-Operator.code c.in-Operator.b (sym c.shape_at.ensures ∙ c.in-Operator.is) c.row_moves-in-Operator.new.out c.row_moves-in-Operator.result c.row_moves-in-Operator.ensures c.requires.1 c.if-not-row_moves.false c.moved.result c.moved.ensures c.put_within.result c.put_within.ensures.0 c.put_within.ensures.1

pub shape_of-out-else-not-row_moves-2 : goal.shape_of-out-else-not-row_moves-2
shape_of-out-else-not-row_moves-2 t c = c.row_moves-in-Let-2.auto.out

pub returns-else-not-row_moves-2 : goal.returns-else-not-row_moves-2
returns-else-not-row_moves-2 t c = tell-let c.args.t.now c.args.widths.now c.args.r c.requires.0 c.args.env.now c.args.at c.args.out.now c.row_moves-in-Let-2.new.out c.requires.2 c.in-Let.a c.in-Let.field-1 c.in-Let.c c.in-Let.d (sym c.shape_at.ensures ∙ c.in-Let.is) c.row_moves-in-Let.new.out c.row_moves-in-Let.result c.row_moves-in-Let.ensures c.requires.1 c.if-not-row_moves-2.false c.row_moves-in-Let-2.result c.row_moves-in-Let-2.ensures

pub returns-in-If : goal.returns-in-If
returns-in-If t c = absurd (drifts-below c.args.t.now c.args.widths.now c.args.r c.requires.0 c.requires.1 (If c.in-If.field-0 c.in-If.field-1 c.in-If.field-2) (sym c.shape_at.ensures ∙ c.in-If.is))

pub returns-in-For : goal.returns-in-For
returns-in-For t c = absurd (drifts-below c.args.t.now c.args.widths.now c.args.r c.requires.0 c.requires.1 (For c.in-For.field-0 c.in-For.field-1 c.in-For.field-2 c.in-For.field-3) (sym c.shape_at.ensures ∙ c.in-For.is))

pub returns-in-Iter : goal.returns-in-Iter
returns-in-Iter t c = absurd (drifts-below c.args.t.now c.args.widths.now c.args.r c.requires.0 c.requires.1 (Iter c.in-Iter.field-0) (sym c.shape_at.ensures ∙ c.in-Iter.is))
