use native.Mathlib.Omega.{arith}
use mathlib.Core.Path.{sym, ap, ◌∙◌}
use mathlib.Core.Bool.{true, false}
use Rattle.formula.specs.Results.{Check}
use Rattle.std.specs.Prelude.{Err}
use Rattle.formula.specs.declared.Shape.TheVariants.{Identifier, Pair, Operator, Let, If, For, Iter}
use Rattle.sheet_kinds.specs.Bytes.{kinds_in}
use Rattle.sheet_kinds.specs.Checks.{lesser}
use Rattle.sheet_sorts.specs.Shapes.{known}
use Rattle.sheet_sorts.specs.Walk.{Parts, parts, in_table}
use Rattle.sheet_sorts.proofs.Told.{tell-identifier, tell-constant, tell-pair, tell-operator, tell-let, tell-if, tell-for, tell-iter}
use Rattle.sheet_sorts.proofs.walk.+other_sort.Goals as goal

pub shape_at-requires : goal.shape_at-requires
shape_at-requires t c = in_table c.args.t.now c.args.widths.now c.requires.0.0 c.args.r c.requires.0.1

pub bounds-env-a : goal.bounds-env-a
bounds-env-a t c = let k : Parts c.args.t.now c.args.widths.now c.requires.0.0 c.args.r (Identifier c.in-Identifier.a) = parts c.args.t.now c.args.widths.now c.requires.0.0 c.args.r c.requires.0.1 (Identifier c.in-Identifier.a) (sym c.shape_at.ensures ∙ c.in-Identifier.is) in omega (arith, k, c.requires.1)

pub other_sort-first-requires : goal.other_sort-first-requires
other_sort-first-requires t c = let k : Parts c.args.t.now c.args.widths.now c.requires.0.0 c.args.r (Pair c.in-Pair.a c.in-Pair.b) = parts c.args.t.now c.args.widths.now c.requires.0.0 c.args.r c.requires.0.1 (Pair c.in-Pair.a c.in-Pair.b) (sym c.shape_at.ensures ∙ c.in-Pair.is) in (omega (arith, k.0.1), ((false, k.0.0), c.requires.1))

pub other_sort-second-requires : goal.other_sort-second-requires
other_sort-second-requires t c = let k : Parts c.args.t.now c.args.widths.now c.requires.0.0 c.args.r (Pair c.in-Pair.a c.in-Pair.b) = parts c.args.t.now c.args.widths.now c.requires.0.0 c.args.r c.requires.0.1 (Pair c.in-Pair.a c.in-Pair.b) (sym c.shape_at.ensures ∙ c.in-Pair.is) in (omega (arith, k.1.1), ((false, k.1.0), c.requires.1))

pub other_sort-operands-requires : goal.other_sort-operands-requires
other_sort-operands-requires t c = let k : Parts c.args.t.now c.args.widths.now c.requires.0.0 c.args.r (Operator c.in-Operator.code c.in-Operator.b) = parts c.args.t.now c.args.widths.now c.requires.0.0 c.args.r c.requires.0.1 (Operator c.in-Operator.code c.in-Operator.b) (sym c.shape_at.ensures ∙ c.in-Operator.is) in (omega (arith, k.1), ((false, k.0), c.requires.1))

pub code_sort-requires : goal.code_sort-requires
code_sort-requires t c = let k : Parts c.args.t.now c.args.widths.now c.requires.0.0 c.args.r (Operator c.in-Operator.code c.in-Operator.b) = parts c.args.t.now c.args.widths.now c.requires.0.0 c.args.r c.requires.0.1 (Operator c.in-Operator.code c.in-Operator.b) (sym c.shape_at.ensures ∙ c.in-Operator.is) in known c.args.t.now c.args.widths.now c.in-Operator.b k.0

pub other_sort-value-requires : goal.other_sort-value-requires
other_sort-value-requires t c = let k : Parts c.args.t.now c.args.widths.now c.requires.0.0 c.args.r (Let c.in-Let.a c.in-Let.field-1 c.in-Let.c c.in-Let.d) = parts c.args.t.now c.args.widths.now c.requires.0.0 c.args.r c.requires.0.1 (Let c.in-Let.a c.in-Let.field-1 c.in-Let.c c.in-Let.d) (sym c.shape_at.ensures ∙ c.in-Let.is) in (omega (arith, k.0.1), ((false, k.0.0), c.requires.1))

pub bound-requires : goal.bound-requires
bound-requires t c = let k : Parts c.args.t.now c.args.widths.now c.requires.0.0 c.args.r (Let c.in-Let.a c.in-Let.field-1 c.in-Let.c c.in-Let.d) = parts c.args.t.now c.args.widths.now c.requires.0.0 c.args.r c.requires.0.1 (Let c.in-Let.a c.in-Let.field-1 c.in-Let.c c.in-Let.d) (sym c.shape_at.ensures ∙ c.in-Let.is) in (k.0.0, c.requires.1, omega (arith, k.2.0, k.2.1))

pub other_sort-rest-requires : goal.other_sort-rest-requires
other_sort-rest-requires t c = let k : Parts c.args.t.now c.args.widths.now c.requires.0.0 c.args.r (Let c.in-Let.a c.in-Let.field-1 c.in-Let.c c.in-Let.d) = parts c.args.t.now c.args.widths.now c.requires.0.0 c.args.r c.requires.0.1 (Let c.in-Let.a c.in-Let.field-1 c.in-Let.c c.in-Let.d) (sym c.shape_at.ensures ∙ c.in-Let.is) in (omega (arith, k.1.1), ((c.requires.0.0, k.1.0), c.bound.type_inv.1.0.1))

pub other_sort-test-requires : goal.other_sort-test-requires
other_sort-test-requires t c = let k : Parts c.args.t.now c.args.widths.now c.requires.0.0 c.args.r (If c.in-If.a c.in-If.b c.in-If.c) = parts c.args.t.now c.args.widths.now c.requires.0.0 c.args.r c.requires.0.1 (If c.in-If.a c.in-If.b c.in-If.c) (sym c.shape_at.ensures ∙ c.in-If.is) in (omega (arith, k.0.1), ((false, k.0.0), c.requires.1))

pub other_sort-first-requires-in-If : goal.other_sort-first-requires-in-If
other_sort-first-requires-in-If t c = let k : Parts c.args.t.now c.args.widths.now c.requires.0.0 c.args.r (If c.in-If.a c.in-If.b c.in-If.c) = parts c.args.t.now c.args.widths.now c.requires.0.0 c.args.r c.requires.0.1 (If c.in-If.a c.in-If.b c.in-If.c) (sym c.shape_at.ensures ∙ c.in-If.is) in (omega (arith, k.1.1), ((c.requires.0.0, k.1.0), c.requires.1))

pub other_sort-second-requires-in-If : goal.other_sort-second-requires-in-If
other_sort-second-requires-in-If t c = let k : Parts c.args.t.now c.args.widths.now c.requires.0.0 c.args.r (If c.in-If.a c.in-If.b c.in-If.c) = parts c.args.t.now c.args.widths.now c.requires.0.0 c.args.r c.requires.0.1 (If c.in-If.a c.in-If.b c.in-If.c) (sym c.shape_at.ensures ∙ c.in-If.is) in (omega (arith, k.2.1), ((c.requires.0.0, k.2.0), c.requires.1))

pub other_sort-start-requires : goal.other_sort-start-requires
other_sort-start-requires t c = let k : Parts c.args.t.now c.args.widths.now c.requires.0.0 c.args.r (For c.in-For.a c.in-For.field-1 c.in-For.c c.in-For.d) = parts c.args.t.now c.args.widths.now c.requires.0.0 c.args.r c.requires.0.1 (For c.in-For.a c.in-For.field-1 c.in-For.c c.in-For.d) (sym c.shape_at.ensures ∙ c.in-For.is) in (omega (arith, k.0.1), ((false, k.0.0), c.requires.1))

pub bound-requires-in-For : goal.bound-requires-in-For
bound-requires-in-For t c = let k : Parts c.args.t.now c.args.widths.now c.requires.0.0 c.args.r (For c.in-For.a c.in-For.field-1 c.in-For.c c.in-For.d) = parts c.args.t.now c.args.widths.now c.requires.0.0 c.args.r c.requires.0.1 (For c.in-For.a c.in-For.field-1 c.in-For.c c.in-For.d) (sym c.shape_at.ensures ∙ c.in-For.is) in (k.0.0, c.requires.1, omega (arith, k.2.0, k.2.1))

pub other_sort-round-requires : goal.other_sort-round-requires
other_sort-round-requires t c = let k : Parts c.args.t.now c.args.widths.now c.requires.0.0 c.args.r (For c.in-For.a c.in-For.field-1 c.in-For.c c.in-For.d) = parts c.args.t.now c.args.widths.now c.requires.0.0 c.args.r c.requires.0.1 (For c.in-For.a c.in-For.field-1 c.in-For.c c.in-For.d) (sym c.shape_at.ensures ∙ c.in-For.is) in (omega (arith, k.1.1), ((true, k.1.0), c.bound-in-For.type_inv.1.0.1))

pub other_sort-requires : goal.other_sort-requires
other_sort-requires t c = let k : Parts c.args.t.now c.args.widths.now c.requires.0.0 c.args.r (Iter c.in-Iter.a) = parts c.args.t.now c.args.widths.now c.requires.0.0 c.args.r c.requires.0.1 (Iter c.in-Iter.a) (sym c.shape_at.ensures ∙ c.in-Iter.is) in (omega (arith, k.1), ((false, k.0), c.requires.1))

pub returns-in-Identifier : goal.returns-in-Identifier
unfolding kinds_in
returns-in-Identifier t c = λ b h. c.own.ensures ∙ tell-identifier c.args.t.now c.args.widths.now (kinds_in c.args.env.now) c.args.r c.in-Identifier.a (sym c.shape_at.ensures ∙ c.in-Identifier.is) c.same_kind.result c.same_kind.ensures b h

pub returns-in-Constant : goal.returns-in-Constant
returns-in-Constant t c = λ b h. c.own-in-Constant.ensures ∙ tell-constant c.args.t.now c.args.widths.now (kinds_in c.args.env.now) c.args.r c.in-Constant.kind c.in-Constant.field-1 (sym c.shape_at.ensures ∙ c.in-Constant.is) b h

pub returns-in-Pair : goal.returns-in-Pair
returns-in-Pair t c = λ b h. c.lower.ensures ∙ tell-pair c.args.t.now c.args.widths.now (kinds_in c.args.env.now) c.args.r c.in-Pair.a c.in-Pair.b (sym c.shape_at.ensures ∙ c.in-Pair.is) c.other_sort-first.result c.other_sort-second.result c.other_sort-first.ensures c.other_sort-second.ensures b h

pub returns-in-Operator : goal.returns-in-Operator
returns-in-Operator t c = λ b h. c.lower-in-Operator.ensures ∙ ap (λ (z : Check). lesser z c.other_sort-operands.result) c.own-in-Operator.ensures ∙ tell-operator c.args.t.now c.args.widths.now (kinds_in c.args.env.now) c.args.r c.in-Operator.code c.in-Operator.b (sym c.shape_at.ensures ∙ c.in-Operator.is) c.code_sort.result c.other_sort-operands.result c.code_sort.ensures c.other_sort-operands.ensures b h

pub returns-in-Let : goal.returns-in-Let
returns-in-Let t c = λ b h. c.lower-in-Let.ensures ∙ tell-let c.args.t.now c.args.widths.now (kinds_in c.args.env.now) c.args.r c.in-Let.a c.in-Let.field-1 c.in-Let.c c.in-Let.d (sym c.shape_at.ensures ∙ c.in-Let.is) (kinds_in c.bound.result) c.bound.ensures c.other_sort-value.result c.other_sort-rest.result c.other_sort-value.ensures c.other_sort-rest.ensures b h

pub returns-in-If : goal.returns-in-If
returns-in-If t c = λ b h. c.lower-in-If-3.ensures ∙ ap (lesser (Err c.args.r)) (c.lower-in-If-2.ensures ∙ ap (lesser c.other_sort-test.result) c.lower-in-If.ensures) ∙ tell-if c.args.t.now c.args.widths.now (kinds_in c.args.env.now) c.args.r c.in-If.a c.in-If.b c.in-If.c (sym c.shape_at.ensures ∙ c.in-If.is) c.other_sort-test.result c.other_sort-first-in-If.result c.other_sort-second-in-If.result c.other_sort-test.ensures c.other_sort-first-in-If.ensures c.other_sort-second-in-If.ensures b h

pub returns-in-For : goal.returns-in-For
returns-in-For t c = λ b h. c.lower-in-For-2.ensures ∙ ap (lesser (Err c.args.r)) c.lower-in-For.ensures ∙ tell-for c.args.t.now c.args.widths.now (kinds_in c.args.env.now) c.args.r c.in-For.a c.in-For.field-1 c.in-For.c c.in-For.d (sym c.shape_at.ensures ∙ c.in-For.is) (kinds_in c.bound-in-For.result) c.bound-in-For.ensures c.other_sort-start.result c.other_sort-round.result c.other_sort-start.ensures c.other_sort-round.ensures b h

pub returns-in-Iter : goal.returns-in-Iter
returns-in-Iter t c = λ b h. c.lower-in-Iter.ensures ∙ tell-iter c.args.t.now c.args.widths.now (kinds_in c.args.env.now) c.args.r c.in-Iter.a (sym c.shape_at.ensures ∙ c.in-Iter.is) c.other_sort.result c.other_sort.ensures b h
