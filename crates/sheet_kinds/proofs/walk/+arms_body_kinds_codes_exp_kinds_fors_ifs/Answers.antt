use native.Mathlib.Omega.{arith}
use Prim.Native.Nat.{ℕ, ◌+◌}
use mathlib.Core.Path.{◌≡◌, refl, sym, ap, ◌∙◌}
use mathlib.Core.Bool.{true, ◌&&◌}
use mathlib.Core.List.{[], ◌∷◌}
use lib.ListN.{get_or, replicate}
use Rattle.formula.specs.Results.{Check}
use Rattle.formula.specs.declared.Shape.TheVariants.{Identifier, Constant, Pair, Operator, Let, If, For, Iter}
use Rattle.formula.specs.declared.Way.TheVariants.{Iter as iter-way, Let as let-way, If as if-way, End}
use Rattle.formula.specs.Kinds.{same_kinds}
use Rattle.formula.specs.Sheet.{shape_at}
use Rattle.formula.specs.Tree.{body_of}
use Rattle.meaning.specs.Rows.{ExpRow, ExpChildren, BodyChildren}
use Rattle.meaning.proofs.Rows.{exp-children, body-children, ending-row}
use Rattle.eval_words.specs.Needs.{W, ExpNeeds, BodyNeeds, exp-needs, body-needs, narrow}
use Rattle.sheet_kinds.specs.Bytes.{kinds_in, stretch}
use Rattle.sheet_kinds.specs.Checks.{lesser, own}
use Rattle.sheet_kinds.specs.KindWidths.{counted_back}
use Rattle.sheet_kinds.specs.Walk.{lowest_at, Told, tell-identifier, tell-constant, tell-pair, tell-operator, tell-let, tell-if, tell-for}
use Rattle.sheet_kinds.specs.WalkBody.{Held, shaped-as, tell-iter, tell-ending, tell-let-B, tell-if-B}
use Rattle.sheet_kinds.proofs.walk.+arms_body_kinds_codes_exp_kinds_fors_ifs.Goals as goal
use Rattle.sheet_kinds.proofs.walk.+arms_body_kinds_codes_exp_kinds_fors_ifs.Goals.{arms-then-all_kinds, arms-else-all_kinds, arms-then-rounds, arms-else-rounds, ifs-then-all_kinds, ifs-else-all_kinds}

pub arms-exp_kinds-tested-requires : goal.arms-exp_kinds-tested-requires
arms-exp_kinds-tested-requires t c = let k : BodyChildren c.args.t.now c.args.widths.now c.args.r (If c.args.a c.args.b c.args.c) = body-children c.args.t.now c.args.widths.now c.args.r c.requires.0 (If c.args.a c.args.b c.args.c) c.requires.4 in let f : BodyNeeds c.args.t.now c.args.widths.now c.args.r (If c.args.a c.args.b c.args.c) = body-needs c.args.t.now c.args.widths.now c.args.r c.requires.0 (If c.args.a c.args.b c.args.c) c.requires.4 in (omega (arith, k.0.1), (k.0.0, c.requires.1, omega (arith, f.0)))

pub arms-body_kinds-first-requires : goal.arms-body_kinds-first-requires
arms-body_kinds-first-requires t c = let k : BodyChildren c.args.t.now c.args.widths.now c.args.r (If c.args.a c.args.b c.args.c) = body-children c.args.t.now c.args.widths.now c.args.r c.requires.0 (If c.args.a c.args.b c.args.c) c.requires.4 in (omega (arith, k.1.1), (k.1.0, c.requires.1, c.requires.2, c.requires.3))

pub arms-body_kinds-second-requires : goal.arms-body_kinds-second-requires
arms-body_kinds-second-requires t c = let k : BodyChildren c.args.t.now c.args.widths.now c.args.r (If c.args.a c.args.b c.args.c) = body-children c.args.t.now c.args.widths.now c.args.r c.requires.0 (If c.args.a c.args.b c.args.c) c.requires.4 in (omega (arith, k.2.1), (k.2.0, c.requires.1, refl, refl))

pub arms-agree-rounds-requires : goal.arms-agree-rounds-requires
arms-agree-rounds-requires t c = (omega (arith, c.body_kinds-first.ensures.0.0.2, c.body_kinds-first.ensures.1), omega (arith, c.body_kinds-second.ensures.0.0.2, c.body_kinds-second.ensures.1))

pub arms-agree-ends-requires : goal.arms-agree-ends-requires
arms-agree-ends-requires t c = (omega (arith, c.body_kinds-first.ensures.0.0.3, c.body_kinds-first.ensures.2), omega (arith, c.body_kinds-second.ensures.0.0.3, c.body_kinds-second.ensures.2))

pub arms-all_kinds-requires : goal.arms-all_kinds-requires
arms-all_kinds-requires t c = omega (arith, c.exp_kinds-tested.ensures.0.1)

pub arms-hold_first-requires : goal.arms-hold_first-requires
arms-hold_first-requires t c = (c.body_kinds-first.ensures.0.0.2, c.body_kinds-second.ensures.0.0.2, c.body_kinds-first.ensures.1, c.body_kinds-second.ensures.1)

pub arms-hold_first-requires-2 : goal.arms-hold_first-requires-2
arms-hold_first-requires-2 t c = (c.body_kinds-first.ensures.0.0.3, c.body_kinds-second.ensures.0.0.3, c.body_kinds-first.ensures.2, c.body_kinds-second.ensures.2)

pub arms-shape_of-again : goal.arms-shape_of-again
arms-shape_of-again t c = c.hold_first.ensures.2 ∙ sym c.requires.2

pub arms-shape_of-back : goal.arms-shape_of-back
arms-shape_of-back t c = c.hold_first-2.ensures.2 ∙ sym c.requires.3

pub arms-returns : goal.arms-returns
arms-returns t c =
    let ok : c.if-rounds.ok ≡ (c.all_kinds.result && c.agree-rounds.result && c.agree-ends.result) = elim c.if-rounds.branch [ arms-then-rounds w ↦ rw (w.if-rounds.true.0, w.if-rounds.true.1) w.ok-is | arms-else-rounds w ↦ grind arith ] in
    let p : Held (body_of c.args.t.now c.args.r) (kinds_in c.args.env.now) c.hold_first.new.first c.hold_first.result c.hold_first-2.new.first c.hold_first-2.result × (lesser (own c.args.r c.if-rounds.ok) (lesser c.exp_kinds-tested.result (lesser c.body_kinds-first.result.fault c.body_kinds-second.result.fault)) ≡ lowest_at c.args.t.now true (kinds_in c.args.env.now) c.args.r) = tell-if-B c.args.t.now c.args.widths.now c.args.r c.requires.0 (kinds_in c.args.env.now) c.args.a c.args.b c.args.c c.requires.4 (0 ∷ []) c.exp_kinds-tested.new.out c.body_kinds-first.new.again c.body_kinds-first.new.back c.body_kinds-second.new.again c.body_kinds-second.new.back c.hold_first.new.first c.hold_first-2.new.first c.body_kinds-first.result.again c.body_kinds-first.result.back c.body_kinds-second.result.again c.body_kinds-second.result.back c.hold_first.result c.hold_first-2.result c.exp_kinds-tested.result c.body_kinds-first.result.fault c.body_kinds-second.result.fault c.all_kinds.result c.agree-rounds.result c.agree-ends.result c.if-rounds.ok c.exp_kinds-tested.ensures c.body_kinds-first.ensures.0 c.body_kinds-second.ensures.0 c.all_kinds.ensures c.agree-rounds.ensures c.agree-ends.ensures ok (c.hold_first.ensures.0, c.hold_first.ensures.1) (c.hold_first-2.ensures.0, c.hold_first-2.ensures.1) in ((p.0, c.lower-3.ensures ∙ (λ j. lesser (c.own.ensures j) ((c.lower-2.ensures ∙ ap (lesser c.exp_kinds-tested.result) c.lower.ensures) j)) ∙ p.1), c.hold_first.ensures.2, c.hold_first-2.ensures.2)

pub body_kinds-exp_kinds-requires : goal.body_kinds-exp_kinds-requires
body_kinds-exp_kinds-requires t c = let k : BodyChildren c.args.t.now c.args.widths.now c.args.r (Iter c.in-Iter.a) = body-children c.args.t.now c.args.widths.now c.args.r c.requires.0 (Iter c.in-Iter.a) (shaped-as (shape_at c.args.t.now c.args.r) (iter-way c.in-Iter.a) (sym c.in-Iter.is ∙ c.way_at.ensures)) in (omega (arith, k.1), (k.0, c.requires.1, omega (arith, narrow c.args.t.now c.args.widths.now c.in-Iter.a k.0, c.requires.2)))

pub body_kinds-width_at-requires : goal.body_kinds-width_at-requires
body_kinds-width_at-requires t c = let k : BodyChildren c.args.t.now c.args.widths.now c.args.r (Iter c.in-Iter.a) = body-children c.args.t.now c.args.widths.now c.args.r c.requires.0 (Iter c.in-Iter.a) (shaped-as (shape_at c.args.t.now c.args.r) (iter-way c.in-Iter.a) (sym c.in-Iter.is ∙ c.way_at.ensures)) in (k.0.low, omega (arith, k.0.high, k.0.accepted.table))

pub body_kinds-exp_kinds-bound-requires : goal.body_kinds-exp_kinds-bound-requires
body_kinds-exp_kinds-bound-requires t c = let k : BodyChildren c.args.t.now c.args.widths.now c.args.r (Let c.in-Let.a c.in-Let.field-1 c.in-Let.c c.in-Let.d) = body-children c.args.t.now c.args.widths.now c.args.r c.requires.0 (Let c.in-Let.a c.in-Let.field-1 c.in-Let.c c.in-Let.d) (shaped-as (shape_at c.args.t.now c.args.r) (let-way c.in-Let.a c.in-Let.field-1 c.in-Let.c c.in-Let.d) (sym c.in-Let.is ∙ c.way_at.ensures)) in let f : BodyNeeds c.args.t.now c.args.widths.now c.args.r (Let c.in-Let.a c.in-Let.field-1 c.in-Let.c c.in-Let.d) = body-needs c.args.t.now c.args.widths.now c.args.r c.requires.0 (Let c.in-Let.a c.in-Let.field-1 c.in-Let.c c.in-Let.d) (shaped-as (shape_at c.args.t.now c.args.r) (let-way c.in-Let.a c.in-Let.field-1 c.in-Let.c c.in-Let.d) (sym c.in-Let.is ∙ c.way_at.ensures)) in (omega (arith, k.0.1), (k.0.0, c.requires.1, omega (arith, f.0, f.1, c.requires.1)))

pub body_kinds-body_kinds-rest-requires : goal.body_kinds-body_kinds-rest-requires
body_kinds-body_kinds-rest-requires t c = let k : BodyChildren c.args.t.now c.args.widths.now c.args.r (Let c.in-Let.a c.in-Let.field-1 c.in-Let.c c.in-Let.d) = body-children c.args.t.now c.args.widths.now c.args.r c.requires.0 (Let c.in-Let.a c.in-Let.field-1 c.in-Let.c c.in-Let.d) (shaped-as (shape_at c.args.t.now c.args.r) (let-way c.in-Let.a c.in-Let.field-1 c.in-Let.c c.in-Let.d) (sym c.in-Let.is ∙ c.way_at.ensures)) in (omega (arith, k.1.1), (k.1.0, c.exp_kinds-bound.ensures.0.1 ∙ c.requires.1, c.requires.2, c.requires.3))

pub body_kinds-arms-requires : goal.body_kinds-arms-requires
body_kinds-arms-requires t c = (omega arith, (c.requires.0, c.requires.1, c.requires.2, c.requires.3, (shaped-as (shape_at c.args.t.now c.args.r) (if-way c.in-If.a c.in-If.b c.in-If.c) (sym c.in-If.is ∙ c.way_at.ensures))))

pub body_kinds-exp_kinds-requires-in-End : goal.body_kinds-exp_kinds-requires-in-End
body_kinds-exp_kinds-requires-in-End t c = let k : ExpRow c.args.t.now c.args.widths.now c.args.r = ending-row c.args.t.now c.args.widths.now c.args.r c.requires.0 (shaped-as (shape_at c.args.t.now c.args.r) End (sym c.in-End.is ∙ c.way_at.ensures)) in (omega arith, (k, c.requires.1, omega (arith, narrow c.args.t.now c.args.widths.now c.args.r k, c.requires.3)))

pub body_kinds-width_at-requires-in-End : goal.body_kinds-width_at-requires-in-End
body_kinds-width_at-requires-in-End t c = (c.requires.0.low, omega (arith, c.requires.0.high, c.requires.0.accepted.table))

pub body_kinds-shape_of-again-in-Iter : goal.body_kinds-shape_of-again-in-Iter
body_kinds-shape_of-again-in-Iter t c = c.exp_kinds.ensures.0.1

pub body_kinds-returns-in-Iter : goal.body_kinds-returns-in-Iter
body_kinds-returns-in-Iter t c = (tell-iter c.args.t.now c.args.widths.now c.args.r c.requires.0 (kinds_in c.args.env.now) c.in-Iter.a c.width_at.result (shaped-as (shape_at c.args.t.now c.args.r) (iter-way c.in-Iter.a) (sym c.in-Iter.is ∙ c.way_at.ensures)) c.width_at.ensures.0 c.args.again.now c.exp_kinds.new.out c.args.back.now c.exp_kinds.result c.exp_kinds.ensures, c.exp_kinds.ensures.0.1 ∙ c.requires.2, c.requires.3)

pub body_kinds-shape_of-again-in-Let : goal.body_kinds-shape_of-again-in-Let
body_kinds-shape_of-again-in-Let t c = c.body_kinds-rest.ensures.1 ∙ sym c.requires.2

pub body_kinds-shape_of-back-in-Let : goal.body_kinds-shape_of-back-in-Let
body_kinds-shape_of-back-in-Let t c = c.body_kinds-rest.ensures.2 ∙ sym c.requires.3

pub body_kinds-returns-in-Let : goal.body_kinds-returns-in-Let
body_kinds-returns-in-Let t c = let p : Held (body_of c.args.t.now c.args.r) (kinds_in c.args.env.now) c.body_kinds-rest.new.again c.body_kinds-rest.result.again c.body_kinds-rest.new.back c.body_kinds-rest.result.back × (lesser c.exp_kinds-bound.result c.body_kinds-rest.result.fault ≡ lowest_at c.args.t.now true (kinds_in c.args.env.now) c.args.r) = tell-let-B c.args.t.now c.args.widths.now c.args.r c.requires.0 (kinds_in c.args.env.now) c.in-Let.a c.in-Let.field-1 c.in-Let.c c.in-Let.d (shaped-as (shape_at c.args.t.now c.args.r) (let-way c.in-Let.a c.in-Let.field-1 c.in-Let.c c.in-Let.d) (sym c.in-Let.is ∙ c.way_at.ensures)) c.args.env.now c.exp_kinds-bound.new.out c.body_kinds-rest.new.again c.body_kinds-rest.new.back c.body_kinds-rest.result.again c.body_kinds-rest.result.back c.exp_kinds-bound.result c.body_kinds-rest.result.fault refl c.exp_kinds-bound.ensures c.body_kinds-rest.ensures.0 in ((p.0, c.lower.ensures ∙ p.1), c.body_kinds-rest.ensures.1, c.body_kinds-rest.ensures.2)

pub body_kinds-shape_of-again-in-If : goal.body_kinds-shape_of-again-in-If
body_kinds-shape_of-again-in-If t c = c.arms.ensures.1 ∙ sym c.requires.2

pub body_kinds-shape_of-back-in-If : goal.body_kinds-shape_of-back-in-If
body_kinds-shape_of-back-in-If t c = c.arms.ensures.2 ∙ sym c.requires.3

pub body_kinds-returns-in-If : goal.body_kinds-returns-in-If
body_kinds-returns-in-If t c = c.arms.ensures

pub body_kinds-shape_of-back-in-End : goal.body_kinds-shape_of-back-in-End
body_kinds-shape_of-back-in-End t c = c.exp_kinds-in-End.ensures.0.1

pub body_kinds-returns-in-End : goal.body_kinds-returns-in-End
body_kinds-returns-in-End t c = (tell-ending c.args.t.now c.args.widths.now c.args.r c.requires.0 (kinds_in c.args.env.now) c.width_at-in-End.result (shaped-as (shape_at c.args.t.now c.args.r) End (sym c.in-End.is ∙ c.way_at.ensures)) c.width_at-in-End.ensures.0 c.args.back.now c.args.again.now c.exp_kinds-in-End.new.out c.exp_kinds-in-End.result c.exp_kinds-in-End.ensures, c.requires.2, c.exp_kinds-in-End.ensures.0.1 ∙ c.requires.3)

pub codes-exp_kinds-fault-requires : goal.codes-exp_kinds-fault-requires
codes-exp_kinds-fault-requires t c = let k : ExpChildren c.args.t.now c.args.widths.now c.args.r (Operator c.args.code c.args.b) = exp-children c.args.t.now c.args.widths.now c.args.r c.requires.0 (Operator c.args.code c.args.b) c.requires.3 in let f : ExpNeeds c.args.t.now c.args.widths.now c.args.r (Operator c.args.code c.args.b) = exp-needs c.args.t.now c.args.widths.now c.args.r c.requires.0 (Operator c.args.code c.args.b) c.requires.3 in (omega (arith, k.1), (k.0, c.requires.1, omega (arith, f.1)))

pub codes-width_at-n-requires : goal.codes-width_at-n-requires
codes-width_at-n-requires t c = let k : ExpChildren c.args.t.now c.args.widths.now c.args.r (Operator c.args.code c.args.b) = exp-children c.args.t.now c.args.widths.now c.args.r c.requires.0 (Operator c.args.code c.args.b) c.requires.3 in (k.0.low, omega (arith, k.0.high, k.0.accepted.table))

pub codes-wanted_kinds-ok-requires : goal.codes-wanted_kinds-ok-requires
codes-wanted_kinds-ok-requires t c = let f : ExpNeeds c.args.t.now c.args.widths.now c.args.r (Operator c.args.code c.args.b) = exp-needs c.args.t.now c.args.widths.now c.args.r c.requires.0 (Operator c.args.code c.args.b) c.requires.3 in omega (arith, f.1, c.width_at-n.ensures.0, c.exp_kinds-fault.ensures.0.1)

pub codes-given_kind-requires : goal.codes-given_kind-requires
codes-given_kind-requires t c = let f : ExpNeeds c.args.t.now c.args.widths.now c.args.r (Operator c.args.code c.args.b) = exp-needs c.args.t.now c.args.widths.now c.args.r c.requires.0 (Operator c.args.code c.args.b) c.requires.3 in omega (arith, f.1, c.width_at-n.ensures.0, c.exp_kinds-fault.ensures.0.1)

pub codes-put_kind-requires : goal.codes-put_kind-requires
codes-put_kind-requires t c = let f : ExpNeeds c.args.t.now c.args.widths.now c.args.r (Operator c.args.code c.args.b) = exp-needs c.args.t.now c.args.widths.now c.args.r c.requires.0 (Operator c.args.code c.args.b) c.requires.3 in omega (arith, f.0, c.requires.2)

pub codes-shape_of-out : goal.codes-shape_of-out
codes-shape_of-out t c = c.put_kind.ensures.1

pub codes-returns : goal.codes-returns
codes-returns t c = let p : Told c.args.t.now c.args.r (kinds_in c.args.env.now) c.args.at c.args.out.now c.put_kind.new.out (lesser (own c.args.r c.wanted_kinds-ok.result) c.exp_kinds-fault.result) = tell-operator c.args.t.now c.args.widths.now c.args.r c.requires.0 (kinds_in c.args.env.now) c.args.at c.args.out.now c.put_kind.new.out c.args.code c.args.b c.given_kind.result c.width_at-n.result c.requires.3 c.width_at-n.ensures.0 (0 ∷ 0 ∷ []) c.exp_kinds-fault.new.out c.exp_kinds-fault.result c.wanted_kinds-ok.result c.exp_kinds-fault.ensures c.wanted_kinds-ok.ensures c.given_kind.ensures c.put_kind.ensures in (p.0, c.lower.ensures ∙ ap (λ (z : Check). lesser z c.exp_kinds-fault.result) c.own.ensures ∙ p.1)

pub exp_kinds-bounds-env-a : goal.exp_kinds-bounds-env-a
exp_kinds-bounds-env-a t c = let f : ExpNeeds c.args.t.now c.args.widths.now c.args.r (Identifier c.in-Identifier.a) = exp-needs c.args.t.now c.args.widths.now c.args.r c.requires.0 (Identifier c.in-Identifier.a) (sym c.shape_at.ensures ∙ c.in-Identifier.is) in omega (arith, f.1, c.requires.1)

pub exp_kinds-put_kind-requires : goal.exp_kinds-put_kind-requires
exp_kinds-put_kind-requires t c = let f : ExpNeeds c.args.t.now c.args.widths.now c.args.r (Identifier c.in-Identifier.a) = exp-needs c.args.t.now c.args.widths.now c.args.r c.requires.0 (Identifier c.in-Identifier.a) (sym c.shape_at.ensures ∙ c.in-Identifier.is) in omega (arith, f.0, c.requires.2)

pub exp_kinds-put_kind-requires-in-Constant : goal.exp_kinds-put_kind-requires-in-Constant
exp_kinds-put_kind-requires-in-Constant t c = let f : ExpNeeds c.args.t.now c.args.widths.now c.args.r (Constant c.in-Constant.kind c.in-Constant.field-1) = exp-needs c.args.t.now c.args.widths.now c.args.r c.requires.0 (Constant c.in-Constant.kind c.in-Constant.field-1) (sym c.shape_at.ensures ∙ c.in-Constant.is) in omega (arith, f.0, c.requires.2)

pub exp_kinds-exp_kinds-first-requires : goal.exp_kinds-exp_kinds-first-requires
exp_kinds-exp_kinds-first-requires t c = let k : ExpChildren c.args.t.now c.args.widths.now c.args.r (Pair c.in-Pair.a c.in-Pair.b) = exp-children c.args.t.now c.args.widths.now c.args.r c.requires.0 (Pair c.in-Pair.a c.in-Pair.b) (sym c.shape_at.ensures ∙ c.in-Pair.is) in let f : ExpNeeds c.args.t.now c.args.widths.now c.args.r (Pair c.in-Pair.a c.in-Pair.b) = exp-needs c.args.t.now c.args.widths.now c.args.r c.requires.0 (Pair c.in-Pair.a c.in-Pair.b) (sym c.shape_at.ensures ∙ c.in-Pair.is) in (omega (arith, k.0.1), (k.0.0, c.requires.1, omega (arith, f, c.requires.2)))

pub exp_kinds-width_at-requires : goal.exp_kinds-width_at-requires
exp_kinds-width_at-requires t c = let k : ExpChildren c.args.t.now c.args.widths.now c.args.r (Pair c.in-Pair.a c.in-Pair.b) = exp-children c.args.t.now c.args.widths.now c.args.r c.requires.0 (Pair c.in-Pair.a c.in-Pair.b) (sym c.shape_at.ensures ∙ c.in-Pair.is) in (k.0.0.low, omega (arith, k.0.0.high, k.0.0.accepted.table))

pub exp_kinds-exp_kinds-second-requires : goal.exp_kinds-exp_kinds-second-requires
exp_kinds-exp_kinds-second-requires t c = let k : ExpChildren c.args.t.now c.args.widths.now c.args.r (Pair c.in-Pair.a c.in-Pair.b) = exp-children c.args.t.now c.args.widths.now c.args.r c.requires.0 (Pair c.in-Pair.a c.in-Pair.b) (sym c.shape_at.ensures ∙ c.in-Pair.is) in let f : ExpNeeds c.args.t.now c.args.widths.now c.args.r (Pair c.in-Pair.a c.in-Pair.b) = exp-needs c.args.t.now c.args.widths.now c.args.r c.requires.0 (Pair c.in-Pair.a c.in-Pair.b) (sym c.shape_at.ensures ∙ c.in-Pair.is) in (omega (arith, k.1.1), (k.1.0, c.requires.1, omega (arith, f, c.requires.2, c.width_at.ensures.0, c.exp_kinds-first.ensures.0.1)))

pub exp_kinds-codes-requires : goal.exp_kinds-codes-requires
exp_kinds-codes-requires t c = (omega arith, (c.requires.0, c.requires.1, c.requires.2, (sym c.shape_at.ensures ∙ c.in-Operator.is)))

pub exp_kinds-exp_kinds-bound-requires : goal.exp_kinds-exp_kinds-bound-requires
exp_kinds-exp_kinds-bound-requires t c = let k : ExpChildren c.args.t.now c.args.widths.now c.args.r (Let c.in-Let.a c.in-Let.field-1 c.in-Let.c c.in-Let.d) = exp-children c.args.t.now c.args.widths.now c.args.r c.requires.0 (Let c.in-Let.a c.in-Let.field-1 c.in-Let.c c.in-Let.d) (sym c.shape_at.ensures ∙ c.in-Let.is) in let f : ExpNeeds c.args.t.now c.args.widths.now c.args.r (Let c.in-Let.a c.in-Let.field-1 c.in-Let.c c.in-Let.d) = exp-needs c.args.t.now c.args.widths.now c.args.r c.requires.0 (Let c.in-Let.a c.in-Let.field-1 c.in-Let.c c.in-Let.d) (sym c.shape_at.ensures ∙ c.in-Let.is) in (omega (arith, k.0.1), (k.0.0, c.requires.1, omega (arith, f.0, f.1, c.requires.1)))

pub exp_kinds-exp_kinds-rest-requires : goal.exp_kinds-exp_kinds-rest-requires
exp_kinds-exp_kinds-rest-requires t c = let k : ExpChildren c.args.t.now c.args.widths.now c.args.r (Let c.in-Let.a c.in-Let.field-1 c.in-Let.c c.in-Let.d) = exp-children c.args.t.now c.args.widths.now c.args.r c.requires.0 (Let c.in-Let.a c.in-Let.field-1 c.in-Let.c c.in-Let.d) (sym c.shape_at.ensures ∙ c.in-Let.is) in let f : ExpNeeds c.args.t.now c.args.widths.now c.args.r (Let c.in-Let.a c.in-Let.field-1 c.in-Let.c c.in-Let.d) = exp-needs c.args.t.now c.args.widths.now c.args.r c.requires.0 (Let c.in-Let.a c.in-Let.field-1 c.in-Let.c c.in-Let.d) (sym c.shape_at.ensures ∙ c.in-Let.is) in (omega (arith, k.1.1), (k.1.0, c.exp_kinds-bound.ensures.0.1 ∙ c.requires.1, omega (arith, f.2, c.requires.2)))

pub exp_kinds-ifs-requires : goal.exp_kinds-ifs-requires
exp_kinds-ifs-requires t c = (omega arith, (c.requires.0, c.requires.1, c.requires.2, (sym c.shape_at.ensures ∙ c.in-If.is)))

pub exp_kinds-fors-requires : goal.exp_kinds-fors-requires
exp_kinds-fors-requires t c = (omega arith, (c.requires.0, c.requires.1, c.requires.2, (sym c.shape_at.ensures ∙ c.in-For.is)))

pub exp_kinds-shape_of-out-in-Identifier : goal.exp_kinds-shape_of-out-in-Identifier
exp_kinds-shape_of-out-in-Identifier t c = c.put_kind.ensures.1

pub exp_kinds-returns-in-Identifier : goal.exp_kinds-returns-in-Identifier
unfolding kinds_in
exp_kinds-returns-in-Identifier t c = tell-identifier c.args.t.now c.args.widths.now c.args.r c.requires.0 (kinds_in c.args.env.now) c.args.at c.args.out.now c.put_kind.new.out c.in-Identifier.a (get_or c.args.env.now c.in-Identifier.a 0) (sym c.shape_at.ensures ∙ c.in-Identifier.is) refl c.put_kind.ensures

pub exp_kinds-shape_of-out-in-Constant : goal.exp_kinds-shape_of-out-in-Constant
exp_kinds-shape_of-out-in-Constant t c = c.put_kind-in-Constant.ensures.1

pub exp_kinds-returns-in-Constant : goal.exp_kinds-returns-in-Constant
exp_kinds-returns-in-Constant t c = tell-constant c.args.t.now c.args.widths.now c.args.r c.requires.0 (kinds_in c.args.env.now) c.args.at c.args.out.now c.put_kind-in-Constant.new.out c.in-Constant.kind c.in-Constant.field-1 c.constant_kind.result (sym c.shape_at.ensures ∙ c.in-Constant.is) c.constant_kind.ensures c.put_kind-in-Constant.ensures

pub exp_kinds-shape_of-out-in-Pair : goal.exp_kinds-shape_of-out-in-Pair
exp_kinds-shape_of-out-in-Pair t c = c.exp_kinds-second.ensures.0.1 ∙ c.exp_kinds-first.ensures.0.1

pub exp_kinds-returns-in-Pair : goal.exp_kinds-returns-in-Pair
exp_kinds-returns-in-Pair t c = let p : Told c.args.t.now c.args.r (kinds_in c.args.env.now) c.args.at c.args.out.now c.exp_kinds-second.new.out (lesser c.exp_kinds-first.result c.exp_kinds-second.result) = tell-pair c.args.t.now c.args.widths.now c.args.r c.requires.0 (kinds_in c.args.env.now) c.args.at c.args.out.now c.exp_kinds-second.new.out c.in-Pair.a c.in-Pair.b (c.args.at + c.width_at.result) (sym c.shape_at.ensures ∙ c.in-Pair.is) (ap (λ (z : ℕ). c.args.at + z) c.width_at.ensures.0) c.exp_kinds-first.new.out c.exp_kinds-first.result c.exp_kinds-second.result c.exp_kinds-first.ensures c.exp_kinds-second.ensures in (p.0, c.lower.ensures ∙ p.1)

pub exp_kinds-shape_of-out-in-Operator : goal.exp_kinds-shape_of-out-in-Operator
exp_kinds-shape_of-out-in-Operator t c = c.codes.ensures.0.1

pub exp_kinds-returns-in-Operator : goal.exp_kinds-returns-in-Operator
exp_kinds-returns-in-Operator t c = c.codes.ensures

pub exp_kinds-shape_of-out-in-Let : goal.exp_kinds-shape_of-out-in-Let
exp_kinds-shape_of-out-in-Let t c = c.exp_kinds-rest.ensures.0.1

pub exp_kinds-returns-in-Let : goal.exp_kinds-returns-in-Let
exp_kinds-returns-in-Let t c = let p : Told c.args.t.now c.args.r (kinds_in c.args.env.now) c.args.at c.args.out.now c.exp_kinds-rest.new.out (lesser c.exp_kinds-bound.result c.exp_kinds-rest.result) = tell-let c.args.t.now c.args.widths.now c.args.r c.requires.0 (kinds_in c.args.env.now) c.args.at c.args.out.now c.exp_kinds-rest.new.out c.in-Let.a c.in-Let.field-1 c.in-Let.c c.in-Let.d (sym c.shape_at.ensures ∙ c.in-Let.is) c.args.env.now c.exp_kinds-bound.new.out c.exp_kinds-bound.result c.exp_kinds-rest.result refl c.exp_kinds-bound.ensures c.exp_kinds-rest.ensures in (p.0, c.lower-in-Let.ensures ∙ p.1)

pub exp_kinds-shape_of-out-in-If : goal.exp_kinds-shape_of-out-in-If
exp_kinds-shape_of-out-in-If t c = c.ifs.ensures.0.1

pub exp_kinds-returns-in-If : goal.exp_kinds-returns-in-If
exp_kinds-returns-in-If t c = c.ifs.ensures

pub exp_kinds-shape_of-out-in-For : goal.exp_kinds-shape_of-out-in-For
exp_kinds-shape_of-out-in-For t c = c.fors.ensures.0.1

pub exp_kinds-returns-in-For : goal.exp_kinds-returns-in-For
exp_kinds-returns-in-For t c = c.fors.ensures

pub exp_kinds-returns-in-Iter : goal.exp_kinds-returns-in-Iter
exp_kinds-returns-in-Iter t c = absurd (exp-children c.args.t.now c.args.widths.now c.args.r c.requires.0 (Iter c.in-Iter.field-0) (sym c.shape_at.ensures ∙ c.in-Iter.is))

pub fors-exp_kinds-started-requires : goal.fors-exp_kinds-started-requires
fors-exp_kinds-started-requires t c = let k : ExpChildren c.args.t.now c.args.widths.now c.args.r (For c.args.a c.args.b c.args.c c.args.d) = exp-children c.args.t.now c.args.widths.now c.args.r c.requires.0 (For c.args.a c.args.b c.args.c c.args.d) c.requires.3 in let f : ExpNeeds c.args.t.now c.args.widths.now c.args.r (For c.args.a c.args.b c.args.c c.args.d) = exp-needs c.args.t.now c.args.widths.now c.args.r c.requires.0 (For c.args.a c.args.b c.args.c c.args.d) c.requires.3 in (omega (arith, k.0.1), (k.0.0, c.requires.1, omega (arith, f.0, f.1, c.requires.1)))

pub fors-body_kinds-round-requires : goal.fors-body_kinds-round-requires
fors-body_kinds-round-requires t c = let k : ExpChildren c.args.t.now c.args.widths.now c.args.r (For c.args.a c.args.b c.args.c c.args.d) = exp-children c.args.t.now c.args.widths.now c.args.r c.requires.0 (For c.args.a c.args.b c.args.c c.args.d) c.requires.3 in (omega (arith, k.1.1), (k.1.0, c.exp_kinds-started.ensures.0.1 ∙ c.requires.1, refl, refl))

pub fors-same_kinds-ok-requires : goal.fors-same_kinds-ok-requires
fors-same_kinds-ok-requires t c = let f : ExpNeeds c.args.t.now c.args.widths.now c.args.r (For c.args.a c.args.b c.args.c c.args.d) = exp-needs c.args.t.now c.args.widths.now c.args.r c.requires.0 (For c.args.a c.args.b c.args.c c.args.d) c.requires.3 in (omega (arith, f.1, c.exp_kinds-started.ensures.0.1, c.requires.1), omega (arith, c.body_kinds-round.ensures.0.0.2, c.body_kinds-round.ensures.1))

pub fors-copy-requires : goal.fors-copy-requires
fors-copy-requires t c = let m : c.body_kinds-round.result.back ≡ W c.args.widths.now c.args.r = counted_back c.args.t.now c.args.widths.now c.args.r c.requires.0 c.args.a c.args.b c.args.c c.args.d c.requires.3 c.body_kinds-round.new.back c.body_kinds-round.result.back (kinds_in c.exp_kinds-started.new.out) c.body_kinds-round.ensures.0.0.1 in (omega (arith, m, c.requires.2), omega (arith, c.body_kinds-round.ensures.0.0.3, c.body_kinds-round.ensures.2))

pub fors-shape_of-out : goal.fors-shape_of-out
fors-shape_of-out t c = c.copy.ensures.1

pub fors-returns : goal.fors-returns
fors-returns t c = let p : Told c.args.t.now c.args.r (kinds_in c.args.env.now) c.args.at c.args.out.now c.copy.new.to (lesser (own c.args.r c.same_kinds-ok.result) (lesser c.exp_kinds-started.result c.body_kinds-round.result.fault)) = tell-for c.args.t.now c.args.widths.now c.args.r c.requires.0 (kinds_in c.args.env.now) c.args.at c.args.out.now c.copy.new.to c.args.a c.args.b c.args.c c.args.d c.requires.3 c.args.env.now c.exp_kinds-started.new.out c.body_kinds-round.new.again c.body_kinds-round.new.back c.body_kinds-round.result.again c.body_kinds-round.result.back c.exp_kinds-started.result c.body_kinds-round.result.fault c.same_kinds-ok.result refl c.exp_kinds-started.ensures c.body_kinds-round.ensures.0.0.0 c.body_kinds-round.ensures.0.0.1 c.body_kinds-round.ensures.0.1 c.same_kinds-ok.ensures c.copy.ensures in (p.0, c.lower-2.ensures ∙ (λ j. lesser (c.own.ensures j) (c.lower.ensures j)) ∙ p.1)

pub ifs-exp_kinds-tested-requires : goal.ifs-exp_kinds-tested-requires
ifs-exp_kinds-tested-requires t c = let k : ExpChildren c.args.t.now c.args.widths.now c.args.r (If c.args.a c.args.b c.args.c) = exp-children c.args.t.now c.args.widths.now c.args.r c.requires.0 (If c.args.a c.args.b c.args.c) c.requires.3 in let f : ExpNeeds c.args.t.now c.args.widths.now c.args.r (If c.args.a c.args.b c.args.c) = exp-needs c.args.t.now c.args.widths.now c.args.r c.requires.0 (If c.args.a c.args.b c.args.c) c.requires.3 in (omega (arith, k.0.1), (k.0.0, c.requires.1, omega (arith, f.0)))

pub ifs-exp_kinds-first-requires : goal.ifs-exp_kinds-first-requires
ifs-exp_kinds-first-requires t c = let k : ExpChildren c.args.t.now c.args.widths.now c.args.r (If c.args.a c.args.b c.args.c) = exp-children c.args.t.now c.args.widths.now c.args.r c.requires.0 (If c.args.a c.args.b c.args.c) c.requires.3 in let f : ExpNeeds c.args.t.now c.args.widths.now c.args.r (If c.args.a c.args.b c.args.c) = exp-needs c.args.t.now c.args.widths.now c.args.r c.requires.0 (If c.args.a c.args.b c.args.c) c.requires.3 in (omega (arith, k.1.1), (k.1.0, c.requires.1, omega (arith, f.1, c.requires.2)))

pub ifs-exp_kinds-second-requires : goal.ifs-exp_kinds-second-requires
ifs-exp_kinds-second-requires t c = let k : ExpChildren c.args.t.now c.args.widths.now c.args.r (If c.args.a c.args.b c.args.c) = exp-children c.args.t.now c.args.widths.now c.args.r c.requires.0 (If c.args.a c.args.b c.args.c) c.requires.3 in (omega (arith, k.2.1), (k.2.0, c.requires.1, omega (arith, narrow c.args.t.now c.args.widths.now c.args.c k.2.0)))

pub ifs-width_at-requires : goal.ifs-width_at-requires
ifs-width_at-requires t c = let k : ExpChildren c.args.t.now c.args.widths.now c.args.r (If c.args.a c.args.b c.args.c) = exp-children c.args.t.now c.args.widths.now c.args.r c.requires.0 (If c.args.a c.args.b c.args.c) c.requires.3 in (k.1.0.low, omega (arith, k.1.0.high, k.1.0.accepted.table))

pub ifs-width_at-requires-2 : goal.ifs-width_at-requires-2
ifs-width_at-requires-2 t c = let k : ExpChildren c.args.t.now c.args.widths.now c.args.r (If c.args.a c.args.b c.args.c) = exp-children c.args.t.now c.args.widths.now c.args.r c.requires.0 (If c.args.a c.args.b c.args.c) c.requires.3 in (k.2.0.low, omega (arith, k.2.0.high, k.2.0.accepted.table))

pub ifs-same_kinds-alike-requires : goal.ifs-same_kinds-alike-requires
ifs-same_kinds-alike-requires t c = let k : ExpChildren c.args.t.now c.args.widths.now c.args.r (If c.args.a c.args.b c.args.c) = exp-children c.args.t.now c.args.widths.now c.args.r c.requires.0 (If c.args.a c.args.b c.args.c) c.requires.3 in let f : ExpNeeds c.args.t.now c.args.widths.now c.args.r (If c.args.a c.args.b c.args.c) = exp-needs c.args.t.now c.args.widths.now c.args.r c.requires.0 (If c.args.a c.args.b c.args.c) c.requires.3 in (omega (arith, f.1, c.requires.2, c.width_at.ensures.0, c.exp_kinds-first.ensures.0.1), omega (arith, narrow c.args.t.now c.args.widths.now c.args.c k.2.0, c.width_at-2.ensures.0, c.exp_kinds-second.ensures.0.1))

pub ifs-all_kinds-requires : goal.ifs-all_kinds-requires
ifs-all_kinds-requires t c = omega (arith, c.exp_kinds-tested.ensures.0.1)

pub ifs-shape_of-out : goal.ifs-shape_of-out
ifs-shape_of-out t c = c.exp_kinds-first.ensures.0.1

pub ifs-returns : goal.ifs-returns
ifs-returns t c =
    let ok : c.if-all_kinds.ok ≡ (c.all_kinds.result && c.same_kinds-alike.result) = elim c.if-all_kinds.branch [ ifs-then-all_kinds w ↦ rw w.if-all_kinds.true w.ok-is | ifs-else-all_kinds w ↦ rw w.if-all_kinds.false (w.ok-is ∙ w.if-all_kinds.false) ] in
    let p : Told c.args.t.now c.args.r (kinds_in c.args.env.now) c.args.at c.args.out.now c.exp_kinds-first.new.out (lesser (own c.args.r c.if-all_kinds.ok) (lesser c.exp_kinds-tested.result (lesser c.exp_kinds-first.result c.exp_kinds-second.result))) = tell-if c.args.t.now c.args.widths.now c.args.r c.requires.0 (kinds_in c.args.env.now) c.args.at c.args.out.now c.exp_kinds-first.new.out c.args.a c.args.b c.args.c c.requires.3 (0 ∷ []) c.exp_kinds-tested.new.out (replicate 16 0) c.exp_kinds-second.new.out c.exp_kinds-tested.result c.exp_kinds-first.result c.exp_kinds-second.result c.all_kinds.result c.same_kinds-alike.result c.if-all_kinds.ok c.exp_kinds-tested.ensures c.exp_kinds-first.ensures c.exp_kinds-second.ensures c.all_kinds.ensures (c.same_kinds-alike.ensures ∙ (λ n. same_kinds (stretch (kinds_in c.exp_kinds-first.new.out) c.args.at (c.width_at.ensures.0 n)) (stretch (kinds_in c.exp_kinds-second.new.out) 0 (c.width_at-2.ensures.0 n)))) ok in (p.0, c.lower-3.ensures ∙ (λ j. lesser (c.own.ensures j) ((c.lower-2.ensures ∙ ap (lesser c.exp_kinds-tested.result) c.lower.ensures) j)) ∙ p.1)
