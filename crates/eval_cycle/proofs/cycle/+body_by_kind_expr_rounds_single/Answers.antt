use native.Mathlib.Omega.{arith}
use Prim.Native.Nat.{ℕ, ◌<◌}
use mathlib.Core.Path.{◌≡◌, refl, sym, ap, ◌∙◌, subst}
use mathlib.Core.List.{List, [], ◌∷◌}
use lib.ListN.{length, length-set}
use Rattle.std.specs.Prelude.{Some, None}
use lib.Seq.{paste}
use Rattle.formula.specs.declared.Shape.TheVariants.{Pair, Operator, Let, If, For, Iter}
use Rattle.formula.specs.declared.Way.TheVariants.{Iter as iter-way, Let as let-way, If as if-way, End}
use Rattle.formula.specs.Sheet.{shape_at}
use Rattle.formula.specs.Tree.{exp_of, body_of}
use Rattle.meaning.specs.Meaning.{eval_e}
use Rattle.meaning.specs.Rounds.{turns}
use Rattle.meaning.specs.Rows.{ExpRow, ExpChildren, BodyChildren}
use Rattle.meaning.proofs.Rows.{exp-children, body-children, ending-row}
use Rattle.eval_words.specs.Words.{env_of, zeros-err, put-binds}
use Rattle.eval_words.specs.Needs.{W, ExpNeeds, BodyNeeds, exp-needs, body-needs, narrow}
use Rattle.eval_words.specs.Parts.{PartOf, Operates, Pairs, wide-compound, one-row, two-rows}
use Rattle.eval_cycle.specs.Told.{Told, told-short, tell-pair, tell-let, tell-for, tell-first, tell-second, tell-neither, tell-untested, tell-stopped, single-one, single-one-short, single-two, single-two-short, single-second-short, single-wide, single-wide-short, single-told, tell-single}
use Rattle.eval_cycle.specs.ToldBody.{Turning, turning-none, round-short, round-back, round-again, shaped-as, tell-iter, tell-ending, tell-let-B, tell-let-B-short, tell-first-B, tell-second-B, tell-neither-B, tell-untested-B}
use Rattle.eval_cycle.proofs.cycle.+body_by_kind_expr_rounds_single.Goals as goal

pub body-expr-requires : goal.body-expr-requires
body-expr-requires t c = let k : BodyChildren c.args.t.now c.args.widths.now c.args.r (Iter c.in-Iter.a) = body-children c.args.t.now c.args.widths.now c.args.r c.requires.0 (Iter c.in-Iter.a) (shaped-as (shape_at c.args.t.now c.args.r) (iter-way c.in-Iter.a) (sym c.in-Iter.is ∙ c.way_at.ensures)) in let f : BodyNeeds c.args.t.now c.args.widths.now c.args.r (Iter c.in-Iter.a) = body-needs c.args.t.now c.args.widths.now c.args.r c.requires.0 (Iter c.in-Iter.a) (shaped-as (shape_at c.args.t.now c.args.r) (iter-way c.in-Iter.a) (sym c.in-Iter.is ∙ c.way_at.ensures)) in (omega (arith, k.1), (k.0, c.requires.3, omega (arith, f, c.requires.4)))

pub body-returns-in_err-expr-in-Iter : goal.body-returns-in_err-expr-in-Iter
body-returns-in_err-expr-in-Iter t c = (rw c.from_residual.ensures (tell-iter c.args.t.now c.args.widths.now c.args.r c.requires.0 c.args.w (env_of c.args.env.now) c.args.left c.args.out.now c.expr.new.out c.in-Iter.a (shaped-as (shape_at c.args.t.now c.args.r) (iter-way c.in-Iter.a) (sym c.in-Iter.is ∙ c.way_at.ensures)) None (rw c.in_err-expr-in-Iter.was at c.expr.ensures.0)), c.expr.ensures.1)

pub body-returns-in_ok-expr-in-Iter : goal.body-returns-in_ok-expr-in-Iter
body-returns-in_ok-expr-in-Iter t c = (tell-iter c.args.t.now c.args.widths.now c.args.r c.requires.0 c.args.w (env_of c.args.env.now) c.args.left c.args.out.now c.expr.new.out c.in-Iter.a (shaped-as (shape_at c.args.t.now c.args.r) (iter-way c.in-Iter.a) (sym c.in-Iter.is ∙ c.way_at.ensures)) (Some c.in_ok-expr-in-Iter.field-0) (rw c.in_ok-expr-in-Iter.was at c.expr.ensures.0), c.expr.ensures.1)

pub body-expr-requires-in-Let : goal.body-expr-requires-in-Let
body-expr-requires-in-Let t c = let k : BodyChildren c.args.t.now c.args.widths.now c.args.r (Let c.in-Let.a c.in-Let.field-1 c.in-Let.c c.in-Let.d) = body-children c.args.t.now c.args.widths.now c.args.r c.requires.0 (Let c.in-Let.a c.in-Let.field-1 c.in-Let.c c.in-Let.d) (shaped-as (shape_at c.args.t.now c.args.r) (let-way c.in-Let.a c.in-Let.field-1 c.in-Let.c c.in-Let.d) (sym c.in-Let.is ∙ c.way_at.ensures)) in let f : BodyNeeds c.args.t.now c.args.widths.now c.args.r (Let c.in-Let.a c.in-Let.field-1 c.in-Let.c c.in-Let.d) = body-needs c.args.t.now c.args.widths.now c.args.r c.requires.0 (Let c.in-Let.a c.in-Let.field-1 c.in-Let.c c.in-Let.d) (shaped-as (shape_at c.args.t.now c.args.r) (let-way c.in-Let.a c.in-Let.field-1 c.in-Let.c c.in-Let.d) (sym c.in-Let.is ∙ c.way_at.ensures)) in (omega (arith, k.0.1), (k.0.0, c.requires.3, omega (arith, f.0, f.1, c.requires.3)))

pub body-returns-in_err-left-in-Let : goal.body-returns-in_err-left-in-Let
body-returns-in_err-left-in-Let t c = (rw c.from_residual-in_err-left-in-Let.ensures (tell-let-B-short c.args.t.now c.args.widths.now c.args.r c.requires.0 c.args.w (env_of c.args.env.now) c.args.left c.args.out.now c.args.out.now c.in-Let.a c.in-Let.field-1 c.in-Let.c c.in-Let.d (shaped-as (shape_at c.args.t.now c.args.r) (let-way c.in-Let.a c.in-Let.field-1 c.in-Let.c c.in-Let.d) (sym c.in-Let.is ∙ c.way_at.ensures)) c.in-Let.a c.args.env.now c.expr-in-Let.new.out (rw c.in_err-left-in-Let.was at c.expr-in-Let.ensures.0)), refl)

pub body-body-requires : goal.body-body-requires
body-body-requires t c = let k : BodyChildren c.args.t.now c.args.widths.now c.args.r (Let c.in-Let.a c.in-Let.field-1 c.in-Let.c c.in-Let.d) = body-children c.args.t.now c.args.widths.now c.args.r c.requires.0 (Let c.in-Let.a c.in-Let.field-1 c.in-Let.c c.in-Let.d) (shaped-as (shape_at c.args.t.now c.args.r) (let-way c.in-Let.a c.in-Let.field-1 c.in-Let.c c.in-Let.d) (sym c.in-Let.is ∙ c.way_at.ensures)) in let f : BodyNeeds c.args.t.now c.args.widths.now c.args.r (Let c.in-Let.a c.in-Let.field-1 c.in-Let.c c.in-Let.d) = body-needs c.args.t.now c.args.widths.now c.args.r c.requires.0 (Let c.in-Let.a c.in-Let.field-1 c.in-Let.c c.in-Let.d) (shaped-as (shape_at c.args.t.now c.args.r) (let-way c.in-Let.a c.in-Let.field-1 c.in-Let.c c.in-Let.d) (sym c.in-Let.is ∙ c.way_at.ensures)) in (omega (arith, k.1.1), (k.1.0, rw f.2 c.requires.1, c.requires.2, c.expr-in-Let.ensures.1 ∙ c.requires.3, c.requires.4))

pub body-returns-in_ok-left-in-Let : goal.body-returns-in_ok-left-in-Let
body-returns-in_ok-left-in-Let t c = (tell-let-B c.args.t.now c.args.widths.now c.args.r c.requires.0 c.args.w (env_of c.args.env.now) c.args.left c.args.out.now c.body.new.out c.in-Let.a c.in-Let.field-1 c.in-Let.c c.in-Let.d (shaped-as (shape_at c.args.t.now c.args.r) (let-way c.in-Let.a c.in-Let.field-1 c.in-Let.c c.in-Let.d) (sym c.in-Let.is ∙ c.way_at.ensures)) c.args.env.now c.expr-in-Let.new.out c.in_ok-left-in-Let.left c.body.result refl (rw c.in_ok-left-in-Let.was at c.expr-in-Let.ensures.0) c.body.ensures.0, c.body.ensures.1)

pub body-single-requires : goal.body-single-requires
body-single-requires t c = let k : BodyChildren c.args.t.now c.args.widths.now c.args.r (If c.in-If.a c.in-If.b c.in-If.c) = body-children c.args.t.now c.args.widths.now c.args.r c.requires.0 (If c.in-If.a c.in-If.b c.in-If.c) (shaped-as (shape_at c.args.t.now c.args.r) (if-way c.in-If.a c.in-If.b c.in-If.c) (sym c.in-If.is ∙ c.way_at.ensures)) in let f : BodyNeeds c.args.t.now c.args.widths.now c.args.r (If c.in-If.a c.in-If.b c.in-If.c) = body-needs c.args.t.now c.args.widths.now c.args.r c.requires.0 (If c.in-If.a c.in-If.b c.in-If.c) (shaped-as (shape_at c.args.t.now c.args.r) (if-way c.in-If.a c.in-If.b c.in-If.c) (sym c.in-If.is ∙ c.way_at.ensures)) in (omega (arith, k.0.1), (k.0.0, c.requires.3, f.0))

pub body-returns-in_err-v-in-If : goal.body-returns-in_err-v-in-If
body-returns-in_err-v-in-If t c = (rw c.from_residual-in_err-v-in-If.ensures (tell-untested-B c.args.t.now c.args.widths.now c.args.r c.requires.0 c.args.w (env_of c.args.env.now) c.args.left c.args.out.now c.args.out.now c.in-If.a c.in-If.b c.in-If.c (shaped-as (shape_at c.args.t.now c.args.r) (if-way c.in-If.a c.in-If.b c.in-If.c) (sym c.in-If.is ∙ c.way_at.ensures)) c.single.result c.single.ensures c.in_err-v-in-If.was), refl)

pub body-body-requires-in-True : goal.body-body-requires-in-True
body-body-requires-in-True t c = let k : BodyChildren c.args.t.now c.args.widths.now c.args.r (If c.in-If.a c.in-If.b c.in-If.c) = body-children c.args.t.now c.args.widths.now c.args.r c.requires.0 (If c.in-If.a c.in-If.b c.in-If.c) (shaped-as (shape_at c.args.t.now c.args.r) (if-way c.in-If.a c.in-If.b c.in-If.c) (sym c.in-If.is ∙ c.way_at.ensures)) in let f : BodyNeeds c.args.t.now c.args.widths.now c.args.r (If c.in-If.a c.in-If.b c.in-If.c) = body-needs c.args.t.now c.args.widths.now c.args.r c.requires.0 (If c.in-If.a c.in-If.b c.in-If.c) (shaped-as (shape_at c.args.t.now c.args.r) (if-way c.in-If.a c.in-If.b c.in-If.c) (sym c.in-If.is ∙ c.way_at.ensures)) in (omega (arith, k.1.1), (k.1.0, (f.1 c.args.w c.requires.1).0, c.requires.2, c.requires.3, c.requires.4))

pub body-returns-in-True : goal.body-returns-in-True
body-returns-in-True t c = (tell-first-B c.args.t.now c.args.widths.now c.args.r c.requires.0 c.args.w (env_of c.args.env.now) c.args.left c.args.out.now c.body-in-True.new.out c.in-If.a c.in-If.b c.in-If.c (shaped-as (shape_at c.args.t.now c.args.r) (if-way c.in-If.a c.in-If.b c.in-If.c) (sym c.in-If.is ∙ c.way_at.ensures)) c.single.result c.single.ensures c.in_ok-v-in-If.v c.in_ok-v-in-If.left c.in_ok-v-in-If.was c.body-in-True.result (sym c.chosen.ensures ∙ c.in-True.is) c.body-in-True.ensures.0, c.body-in-True.ensures.1)

pub body-body-requires-in-False : goal.body-body-requires-in-False
body-body-requires-in-False t c = let k : BodyChildren c.args.t.now c.args.widths.now c.args.r (If c.in-If.a c.in-If.b c.in-If.c) = body-children c.args.t.now c.args.widths.now c.args.r c.requires.0 (If c.in-If.a c.in-If.b c.in-If.c) (shaped-as (shape_at c.args.t.now c.args.r) (if-way c.in-If.a c.in-If.b c.in-If.c) (sym c.in-If.is ∙ c.way_at.ensures)) in let f : BodyNeeds c.args.t.now c.args.widths.now c.args.r (If c.in-If.a c.in-If.b c.in-If.c) = body-needs c.args.t.now c.args.widths.now c.args.r c.requires.0 (If c.in-If.a c.in-If.b c.in-If.c) (shaped-as (shape_at c.args.t.now c.args.r) (if-way c.in-If.a c.in-If.b c.in-If.c) (sym c.in-If.is ∙ c.way_at.ensures)) in (omega (arith, k.2.1), (k.2.0, (f.1 c.args.w c.requires.1).1, c.requires.2, c.requires.3, c.requires.4))

pub body-returns-in-False : goal.body-returns-in-False
body-returns-in-False t c = (tell-second-B c.args.t.now c.args.widths.now c.args.r c.requires.0 c.args.w (env_of c.args.env.now) c.args.left c.args.out.now c.body-in-False.new.out c.in-If.a c.in-If.b c.in-If.c (shaped-as (shape_at c.args.t.now c.args.r) (if-way c.in-If.a c.in-If.b c.in-If.c) (sym c.in-If.is ∙ c.way_at.ensures)) c.single.result c.single.ensures c.in_ok-v-in-If.v c.in_ok-v-in-If.left c.in_ok-v-in-If.was c.body-in-False.result (sym c.chosen.ensures ∙ c.in-False.is) c.body-in-False.ensures.0, c.body-in-False.ensures.1)

pub body-returns-in-Neither : goal.body-returns-in-Neither
body-returns-in-Neither t c = (tell-neither-B c.args.t.now c.args.widths.now c.args.r c.requires.0 c.args.w (env_of c.args.env.now) c.args.left c.args.out.now c.put_errs.new.out c.in-If.a c.in-If.b c.in-If.c (shaped-as (shape_at c.args.t.now c.args.r) (if-way c.in-If.a c.in-If.b c.in-If.c) (sym c.in-If.is ∙ c.way_at.ensures)) c.single.result c.single.ensures c.in_ok-v-in-If.v c.in_ok-v-in-If.left c.in_ok-v-in-If.was (sym c.chosen.ensures ∙ c.in-Neither.is) c.put_errs.ensures.0, c.put_errs.ensures.1)

pub body-expr-requires-in-End : goal.body-expr-requires-in-End
body-expr-requires-in-End t c = (omega arith, (ending-row c.args.t.now c.args.widths.now c.args.r c.requires.0 (shaped-as (shape_at c.args.t.now c.args.r) End (sym c.in-End.is ∙ c.way_at.ensures)), c.requires.3, omega (arith, narrow c.args.t.now c.args.widths.now c.args.r (ending-row c.args.t.now c.args.widths.now c.args.r c.requires.0 (shaped-as (shape_at c.args.t.now c.args.r) End (sym c.in-End.is ∙ c.way_at.ensures))), c.requires.4)))

pub body-returns-in_err-expr-in-End : goal.body-returns-in_err-expr-in-End
body-returns-in_err-expr-in-End t c = (rw c.from_residual-in_err-expr-in-End.ensures (tell-ending c.args.t.now c.args.widths.now c.args.r c.requires.0 c.args.w (env_of c.args.env.now) c.args.left c.args.out.now c.expr-in-End.new.out (shaped-as (shape_at c.args.t.now c.args.r) End (sym c.in-End.is ∙ c.way_at.ensures)) None (rw c.in_err-expr-in-End.was at c.expr-in-End.ensures.0)), c.expr-in-End.ensures.1)

pub body-returns-in_ok-expr-in-End : goal.body-returns-in_ok-expr-in-End
body-returns-in_ok-expr-in-End t c = (tell-ending c.args.t.now c.args.widths.now c.args.r c.requires.0 c.args.w (env_of c.args.env.now) c.args.left c.args.out.now c.expr-in-End.new.out (shaped-as (shape_at c.args.t.now c.args.r) End (sym c.in-End.is ∙ c.way_at.ensures)) (Some c.in_ok-expr-in-End.field-0) (rw c.in_ok-expr-in-End.was at c.expr-in-End.ensures.0), c.expr-in-End.ensures.1)

pub by_kind-expr-requires : goal.by_kind-expr-requires
by_kind-expr-requires t c = let k : ExpChildren c.args.t.now c.args.widths.now c.args.r (Pair c.in-Pair.a c.in-Pair.b) = exp-children c.args.t.now c.args.widths.now c.args.r c.requires.0 (Pair c.in-Pair.a c.in-Pair.b) (sym c.shape_at.ensures ∙ c.in-Pair.is) in let f : ExpNeeds c.args.t.now c.args.widths.now c.args.r (Pair c.in-Pair.a c.in-Pair.b) = exp-needs c.args.t.now c.args.widths.now c.args.r c.requires.0 (Pair c.in-Pair.a c.in-Pair.b) (sym c.shape_at.ensures ∙ c.in-Pair.is) in (omega (arith, k.0.1), (k.0.0, c.requires.1, omega (arith, f, c.requires.2)))

pub by_kind-returns-in_err-left-in-Pair : goal.by_kind-returns-in_err-left-in-Pair
by_kind-returns-in_err-left-in-Pair t c = (rw c.from_residual.ensures (tell-stopped c.args.t.now c.args.widths.now c.args.r c.requires.0 (env_of c.args.env.now) c.args.left (Pair c.in-Pair.a c.in-Pair.b) (sym c.shape_at.ensures ∙ c.in-Pair.is) c.in-Pair.a refl c.args.at c.args.at c.args.out.now c.expr.new.out c.args.out.now c.expr.new.out (rw c.in_err-left-in-Pair.was at c.expr.ensures.0)), c.expr.ensures.1)

pub by_kind-width_at-requires : goal.by_kind-width_at-requires
by_kind-width_at-requires t c = let k : ExpChildren c.args.t.now c.args.widths.now c.args.r (Pair c.in-Pair.a c.in-Pair.b) = exp-children c.args.t.now c.args.widths.now c.args.r c.requires.0 (Pair c.in-Pair.a c.in-Pair.b) (sym c.shape_at.ensures ∙ c.in-Pair.is) in (k.0.0.low, omega (arith, k.0.0.high, k.0.0.accepted.table))

pub by_kind-expr-requires-in-Pair : goal.by_kind-expr-requires-in-Pair
by_kind-expr-requires-in-Pair t c = let k : ExpChildren c.args.t.now c.args.widths.now c.args.r (Pair c.in-Pair.a c.in-Pair.b) = exp-children c.args.t.now c.args.widths.now c.args.r c.requires.0 (Pair c.in-Pair.a c.in-Pair.b) (sym c.shape_at.ensures ∙ c.in-Pair.is) in let f : ExpNeeds c.args.t.now c.args.widths.now c.args.r (Pair c.in-Pair.a c.in-Pair.b) = exp-needs c.args.t.now c.args.widths.now c.args.r c.requires.0 (Pair c.in-Pair.a c.in-Pair.b) (sym c.shape_at.ensures ∙ c.in-Pair.is) in (omega (arith, k.1.1), (k.1.0, c.requires.1, omega (arith, f, c.requires.2, c.width_at.ensures.0, c.expr.ensures.1)))

pub by_kind-returns-in_ok-left-in-Pair : goal.by_kind-returns-in_ok-left-in-Pair
by_kind-returns-in_ok-left-in-Pair t c = (tell-pair c.args.t.now c.args.widths.now c.args.r c.requires.0 (env_of c.args.env.now) c.args.left c.args.at c.args.out.now c.expr-in-Pair.new.out c.in-Pair.a c.in-Pair.b (sym c.shape_at.ensures ∙ c.in-Pair.is) c.expr.new.out c.in_ok-left-in-Pair.left c.expr-in-Pair.result (rw c.in_ok-left-in-Pair.was at c.expr.ensures.0) (rw c.width_at.ensures.0 at c.expr-in-Pair.ensures.0), c.expr-in-Pair.ensures.1 ∙ c.expr.ensures.1)

pub by_kind-expr-requires-in-Let : goal.by_kind-expr-requires-in-Let
by_kind-expr-requires-in-Let t c = let k : ExpChildren c.args.t.now c.args.widths.now c.args.r (Let c.in-Let.a c.in-Let.field-1 c.in-Let.c c.in-Let.d) = exp-children c.args.t.now c.args.widths.now c.args.r c.requires.0 (Let c.in-Let.a c.in-Let.field-1 c.in-Let.c c.in-Let.d) (sym c.shape_at.ensures ∙ c.in-Let.is) in let f : ExpNeeds c.args.t.now c.args.widths.now c.args.r (Let c.in-Let.a c.in-Let.field-1 c.in-Let.c c.in-Let.d) = exp-needs c.args.t.now c.args.widths.now c.args.r c.requires.0 (Let c.in-Let.a c.in-Let.field-1 c.in-Let.c c.in-Let.d) (sym c.shape_at.ensures ∙ c.in-Let.is) in (omega (arith, k.0.1), (k.0.0, c.requires.1, omega (arith, f.0, f.1, c.requires.1)))

pub by_kind-returns-in_err-left-in-Let : goal.by_kind-returns-in_err-left-in-Let
by_kind-returns-in_err-left-in-Let t c = (rw c.from_residual-in_err-left-in-Let.ensures (tell-stopped c.args.t.now c.args.widths.now c.args.r c.requires.0 (env_of c.args.env.now) c.args.left (Let c.in-Let.a c.in-Let.field-1 c.in-Let.c c.in-Let.d) (sym c.shape_at.ensures ∙ c.in-Let.is) c.in-Let.c refl c.args.at c.in-Let.a c.args.out.now c.args.out.now c.args.env.now c.expr-in-Let.new.out (rw c.in_err-left-in-Let.was at c.expr-in-Let.ensures.0)), refl)

pub by_kind-expr-requires-in-Let-2 : goal.by_kind-expr-requires-in-Let-2
by_kind-expr-requires-in-Let-2 t c = let k : ExpChildren c.args.t.now c.args.widths.now c.args.r (Let c.in-Let.a c.in-Let.field-1 c.in-Let.c c.in-Let.d) = exp-children c.args.t.now c.args.widths.now c.args.r c.requires.0 (Let c.in-Let.a c.in-Let.field-1 c.in-Let.c c.in-Let.d) (sym c.shape_at.ensures ∙ c.in-Let.is) in let f : ExpNeeds c.args.t.now c.args.widths.now c.args.r (Let c.in-Let.a c.in-Let.field-1 c.in-Let.c c.in-Let.d) = exp-needs c.args.t.now c.args.widths.now c.args.r c.requires.0 (Let c.in-Let.a c.in-Let.field-1 c.in-Let.c c.in-Let.d) (sym c.shape_at.ensures ∙ c.in-Let.is) in (omega (arith, k.1.1), (k.1.0, c.expr-in-Let.ensures.1 ∙ c.requires.1, omega (arith, f.2, c.requires.2)))

pub by_kind-returns-in_ok-left-in-Let : goal.by_kind-returns-in_ok-left-in-Let
by_kind-returns-in_ok-left-in-Let t c = (tell-let c.args.t.now c.args.widths.now c.args.r c.requires.0 (env_of c.args.env.now) c.args.left c.args.at c.args.out.now c.expr-in-Let-2.new.out c.in-Let.a c.in-Let.field-1 c.in-Let.c c.in-Let.d (sym c.shape_at.ensures ∙ c.in-Let.is) c.args.env.now c.expr-in-Let.new.out c.in_ok-left-in-Let.left c.expr-in-Let-2.result refl (rw c.in_ok-left-in-Let.was at c.expr-in-Let.ensures.0) c.expr-in-Let-2.ensures.0, c.expr-in-Let-2.ensures.1)

pub by_kind-single-requires : goal.by_kind-single-requires
by_kind-single-requires t c = let k : ExpChildren c.args.t.now c.args.widths.now c.args.r (If c.in-If.a c.in-If.b c.in-If.c) = exp-children c.args.t.now c.args.widths.now c.args.r c.requires.0 (If c.in-If.a c.in-If.b c.in-If.c) (sym c.shape_at.ensures ∙ c.in-If.is) in let f : ExpNeeds c.args.t.now c.args.widths.now c.args.r (If c.in-If.a c.in-If.b c.in-If.c) = exp-needs c.args.t.now c.args.widths.now c.args.r c.requires.0 (If c.in-If.a c.in-If.b c.in-If.c) (sym c.shape_at.ensures ∙ c.in-If.is) in (omega (arith, k.0.1), (k.0.0, c.requires.1, f.0))

pub by_kind-expr-requires-in-True : goal.by_kind-expr-requires-in-True
by_kind-expr-requires-in-True t c = let k : ExpChildren c.args.t.now c.args.widths.now c.args.r (If c.in-If.a c.in-If.b c.in-If.c) = exp-children c.args.t.now c.args.widths.now c.args.r c.requires.0 (If c.in-If.a c.in-If.b c.in-If.c) (sym c.shape_at.ensures ∙ c.in-If.is) in let f : ExpNeeds c.args.t.now c.args.widths.now c.args.r (If c.in-If.a c.in-If.b c.in-If.c) = exp-needs c.args.t.now c.args.widths.now c.args.r c.requires.0 (If c.in-If.a c.in-If.b c.in-If.c) (sym c.shape_at.ensures ∙ c.in-If.is) in (omega (arith, k.1.1), (k.1.0, c.requires.1, omega (arith, f.1, c.requires.2)))

pub by_kind-expr-requires-in-False : goal.by_kind-expr-requires-in-False
by_kind-expr-requires-in-False t c = let k : ExpChildren c.args.t.now c.args.widths.now c.args.r (If c.in-If.a c.in-If.b c.in-If.c) = exp-children c.args.t.now c.args.widths.now c.args.r c.requires.0 (If c.in-If.a c.in-If.b c.in-If.c) (sym c.shape_at.ensures ∙ c.in-If.is) in let f : ExpNeeds c.args.t.now c.args.widths.now c.args.r (If c.in-If.a c.in-If.b c.in-If.c) = exp-needs c.args.t.now c.args.widths.now c.args.r c.requires.0 (If c.in-If.a c.in-If.b c.in-If.c) (sym c.shape_at.ensures ∙ c.in-If.is) in (omega (arith, k.2.1), (k.2.0, c.requires.1, omega (arith, f.2, c.requires.2)))

pub by_kind-width_at-requires-in-Neither : goal.by_kind-width_at-requires-in-Neither
by_kind-width_at-requires-in-Neither t c = let k : ExpChildren c.args.t.now c.args.widths.now c.args.r (If c.in-If.a c.in-If.b c.in-If.c) = exp-children c.args.t.now c.args.widths.now c.args.r c.requires.0 (If c.in-If.a c.in-If.b c.in-If.c) (sym c.shape_at.ensures ∙ c.in-If.is) in (k.1.0.low, omega (arith, k.1.0.high, k.1.0.accepted.table))

pub by_kind-put_errs-requires : goal.by_kind-put_errs-requires
by_kind-put_errs-requires t c = let k : ExpChildren c.args.t.now c.args.widths.now c.args.r (If c.in-If.a c.in-If.b c.in-If.c) = exp-children c.args.t.now c.args.widths.now c.args.r c.requires.0 (If c.in-If.a c.in-If.b c.in-If.c) (sym c.shape_at.ensures ∙ c.in-If.is) in let f : ExpNeeds c.args.t.now c.args.widths.now c.args.r (If c.in-If.a c.in-If.b c.in-If.c) = exp-needs c.args.t.now c.args.widths.now c.args.r c.requires.0 (If c.in-If.a c.in-If.b c.in-If.c) (sym c.shape_at.ensures ∙ c.in-If.is) in omega (arith, f.1, c.requires.2, c.width_at-in-Neither.ensures.0)

pub by_kind-returns-in_err-w-in-If : goal.by_kind-returns-in_err-w-in-If
by_kind-returns-in_err-w-in-If t c = (rw c.from_residual-in_err-w-in-If.ensures (tell-untested c.args.t.now c.args.widths.now c.args.r c.requires.0 (env_of c.args.env.now) c.args.left c.args.at c.args.out.now c.args.out.now c.in-If.a c.in-If.b c.in-If.c (sym c.shape_at.ensures ∙ c.in-If.is) c.single.result c.single.ensures c.in_err-w-in-If.was), refl)

pub by_kind-returns-in-True : goal.by_kind-returns-in-True
by_kind-returns-in-True t c = (tell-first c.args.t.now c.args.widths.now c.args.r c.requires.0 (env_of c.args.env.now) c.args.left c.args.at c.args.out.now c.expr-in-True.new.out c.in-If.a c.in-If.b c.in-If.c (sym c.shape_at.ensures ∙ c.in-If.is) c.single.result c.single.ensures c.in_ok-w-in-If.w c.in_ok-w-in-If.left c.in_ok-w-in-If.was c.expr-in-True.result (sym c.chosen.ensures ∙ c.in-True.is) c.expr-in-True.ensures.0, c.expr-in-True.ensures.1)

pub by_kind-returns-in-False : goal.by_kind-returns-in-False
by_kind-returns-in-False t c = (tell-second c.args.t.now c.args.widths.now c.args.r c.requires.0 (env_of c.args.env.now) c.args.left c.args.at c.args.out.now c.expr-in-False.new.out c.in-If.a c.in-If.b c.in-If.c (sym c.shape_at.ensures ∙ c.in-If.is) c.single.result c.single.ensures c.in_ok-w-in-If.w c.in_ok-w-in-If.left c.in_ok-w-in-If.was c.expr-in-False.result (sym c.chosen.ensures ∙ c.in-False.is) c.expr-in-False.ensures.0, c.expr-in-False.ensures.1)

pub by_kind-returns-in-Neither : goal.by_kind-returns-in-Neither
by_kind-returns-in-Neither t c = (tell-neither c.args.t.now c.args.widths.now c.args.r c.requires.0 (env_of c.args.env.now) c.args.left c.args.at c.args.out.now c.put_errs.new.out c.in-If.a c.in-If.b c.in-If.c (sym c.shape_at.ensures ∙ c.in-If.is) c.single.result c.single.ensures c.in_ok-w-in-If.w c.in_ok-w-in-If.left c.in_ok-w-in-If.was (sym c.chosen.ensures ∙ c.in-Neither.is) (rw c.width_at-in-Neither.ensures.0 at c.put_errs.ensures.0), c.put_errs.ensures.1)

pub by_kind-expr-requires-in-For : goal.by_kind-expr-requires-in-For
by_kind-expr-requires-in-For t c = let k : ExpChildren c.args.t.now c.args.widths.now c.args.r (For c.in-For.a c.in-For.b c.in-For.c c.in-For.d) = exp-children c.args.t.now c.args.widths.now c.args.r c.requires.0 (For c.in-For.a c.in-For.b c.in-For.c c.in-For.d) (sym c.shape_at.ensures ∙ c.in-For.is) in let f : ExpNeeds c.args.t.now c.args.widths.now c.args.r (For c.in-For.a c.in-For.b c.in-For.c c.in-For.d) = exp-needs c.args.t.now c.args.widths.now c.args.r c.requires.0 (For c.in-For.a c.in-For.b c.in-For.c c.in-For.d) (sym c.shape_at.ensures ∙ c.in-For.is) in (omega (arith, k.0.1), (k.0.0, c.requires.1, omega (arith, f.0, f.1, c.requires.1)))

pub by_kind-returns-in_err-left-in-For : goal.by_kind-returns-in_err-left-in-For
by_kind-returns-in_err-left-in-For t c = (rw c.from_residual-in_err-left-in-For.ensures (tell-stopped c.args.t.now c.args.widths.now c.args.r c.requires.0 (env_of c.args.env.now) c.args.left (For c.in-For.a c.in-For.b c.in-For.c c.in-For.d) (sym c.shape_at.ensures ∙ c.in-For.is) c.in-For.c refl c.args.at c.in-For.a c.args.out.now c.args.out.now c.args.env.now c.expr-in-For.new.out (rw c.in_err-left-in-For.was at c.expr-in-For.ensures.0)), refl)

pub by_kind-rounds-requires : goal.by_kind-rounds-requires
by_kind-rounds-requires t c = let k : ExpChildren c.args.t.now c.args.widths.now c.args.r (For c.in-For.a c.in-For.b c.in-For.c c.in-For.d) = exp-children c.args.t.now c.args.widths.now c.args.r c.requires.0 (For c.in-For.a c.in-For.b c.in-For.c c.in-For.d) (sym c.shape_at.ensures ∙ c.in-For.is) in let f : ExpNeeds c.args.t.now c.args.widths.now c.args.r (For c.in-For.a c.in-For.b c.in-For.c c.in-For.d) = exp-needs c.args.t.now c.args.widths.now c.args.r c.requires.0 (For c.in-For.a c.in-For.b c.in-For.c c.in-For.d) (sym c.shape_at.ensures ∙ c.in-For.is) in (omega (arith, k.1.1), (k.1.0, f.3 ∙ sym c.width_at-w.ensures.0, f.4, omega (arith, narrow c.args.t.now c.args.widths.now c.args.r c.requires.0, c.width_at-w.ensures.0), f.2, f.1, c.expr-in-For.ensures.1 ∙ c.requires.1, omega (arith, c.requires.2, c.width_at-w.ensures.0)))

pub by_kind-returns-in_ok-left-in-For : goal.by_kind-returns-in_ok-left-in-For
by_kind-returns-in_ok-left-in-For t c = (tell-for c.args.t.now c.args.widths.now c.args.r c.requires.0 (env_of c.args.env.now) c.args.left c.args.at c.args.out.now c.rounds.new.out c.in-For.a c.in-For.b c.in-For.c c.in-For.d (sym c.shape_at.ensures ∙ c.in-For.is) c.args.env.now c.expr-in-For.new.out c.in_ok-left-in-For.left c.rounds.result refl (rw c.in_ok-left-in-For.was at c.expr-in-For.ensures.0) c.rounds.ensures.0, c.rounds.ensures.1)

pub expr-by_kind-requires : goal.expr-by_kind-requires
expr-by_kind-requires t c = (omega arith, (c.requires.0, c.requires.1, c.requires.2, wide-compound c.args.t.now c.args.widths.now c.args.r c.requires.0 (λ e. c.if-width_at-ne1.true (c.width_at.ensures.0 ∙ e))))

pub expr-returns : goal.expr-returns
expr-returns t c = (tell-single (eval_e (exp_of c.args.t.now c.args.r) (env_of c.args.env.now) c.args.left) c.single.result c.in_ok-w.w c.in_ok-w.left c.args.at c.args.out.now _ c.single.ensures c.in_ok-w.was (put-binds c.args.out.now c.args.at c.in_ok-w.w (omega arith)), length-set c.args.out.now c.args.at c.in_ok-w.w)

pub rounds-returns-in_err-left : goal.rounds-returns-in_err-left
rounds-returns-in_err-left t c = (rw c.from_residual.ensures (round-short c.args.t.now c.args.widths.now c.args.d c.requires.0 c.args.a c.args.b c.args.w c.requires.1 c.requires.2 c.args.inner.now c.loop-l.inner c.args.left c.loop-l.l c.loop-l.invariant.0 c.loop-l-test.true c.loop-l.values c.body.new.out (rw c.in_err-left.was at c.body.ensures.0) c.args.at c.args.out.now c.loop-l.out), ap length c.loop-l.invariant.3)

pub rounds-returns-in-Back : goal.rounds-returns-in-Back
rounds-returns-in-Back t c = (subst (λ (z : List ℕ). Told (turns (body_of c.args.t.now c.args.d) c.args.a c.args.b (env_of c.args.inner.now) (env_of c.args.inner.now) c.args.left) (Some c.in-Back.left) c.args.at c.args.out.now z) (sym (c.copy.ensures.0 ∙ ap (λ (z : List ℕ). paste z c.args.at c.body.new.out c.args.w) c.loop-l.invariant.3)) (round-back c.args.t.now c.args.widths.now c.args.d c.requires.0 c.args.a c.args.b c.args.w c.requires.1 c.requires.2 c.args.inner.now c.loop-l.inner c.args.left c.loop-l.l c.loop-l.invariant.0 c.loop-l-test.true c.loop-l.values c.body.new.out c.in-Back.left (rw c.in-Back.is at (rw c.in_ok-left.was at c.body.ensures.0)) c.args.at c.args.out.now c.requires.7 (omega (arith, c.body.ensures.1, c.loop-l.invariant.2, c.requires.3))), c.copy.ensures.1 ∙ ap length c.loop-l.invariant.3)

pub rounds-loop-l-smaller : goal.rounds-loop-l-smaller
rounds-loop-l-smaller t c = (round-again c.args.t.now c.args.widths.now c.args.d c.requires.0 c.args.a c.args.b c.args.w c.requires.1 c.requires.2 c.args.inner.now c.loop-l.inner c.args.left c.loop-l.l c.loop-l.invariant.0 c.loop-l-test.true c.loop-l.values c.body.new.out c.in-Again.left (rw c.in-Again.is at (rw c.in_ok-left.was at c.body.ensures.0)) (omega (arith, c.loop-l.invariant.1, c.requires.5)) (omega (arith, c.body.ensures.1, c.loop-l.invariant.2, c.requires.4))).1

pub rounds-loop-l-preserved : goal.rounds-loop-l-preserved
rounds-loop-l-preserved t c = (subst (λ (z : List ℕ). Turning (body_of c.args.t.now c.args.d) c.args.a c.args.b c.args.inner.now z c.args.left c.in-Again.left) (sym c.copy-in-Again.ensures.0) (round-again c.args.t.now c.args.widths.now c.args.d c.requires.0 c.args.a c.args.b c.args.w c.requires.1 c.requires.2 c.args.inner.now c.loop-l.inner c.args.left c.loop-l.l c.loop-l.invariant.0 c.loop-l-test.true c.loop-l.values c.body.new.out c.in-Again.left (rw c.in-Again.is at (rw c.in_ok-left.was at c.body.ensures.0)) (omega (arith, c.loop-l.invariant.1, c.requires.5)) (omega (arith, c.body.ensures.1, c.loop-l.invariant.2, c.requires.4))).0, c.copy-in-Again.ensures.1 ∙ c.loop-l.invariant.1, c.body.ensures.1 ∙ c.loop-l.invariant.2, c.loop-l.invariant.3)

pub rounds-returns : goal.rounds-returns
rounds-returns t c = (turning-none (body_of c.args.t.now c.args.d) c.args.a c.args.b c.args.inner.now c.loop-l.inner c.args.left c.loop-l.l c.loop-l.invariant.0 c.loop-l-test.false c.args.at c.args.out.now c.loop-l.out, ap length c.loop-l.invariant.3)

pub single-single-requires : goal.single-single-requires
single-single-requires t c = let p : Operates c.args.t.now c.args.widths.now c.args.r c.in-One.code c.in-One.b × (W c.args.widths.now c.in-One.b ≡ 1) = subst (PartOf c.args.t.now c.args.widths.now c.args.r (env_of c.args.env.now)) c.in-One.is c.part_at.ensures in let q : ExpRow c.args.t.now c.args.widths.now c.in-One.b × (c.in-One.b < c.args.r) × (c.in-One.code < 256) = one-row c.args.t.now c.args.widths.now c.args.r c.in-One.code c.in-One.b p.0 in (omega (arith, q.1), (q.0, c.requires.1, p.1))

pub single-returns-in_err-a-in-One : goal.single-returns-in_err-a-in-One
single-returns-in_err-a-in-One t c = let p : Operates c.args.t.now c.args.widths.now c.args.r c.in-One.code c.in-One.b × (W c.args.widths.now c.in-One.b ≡ 1) = subst (PartOf c.args.t.now c.args.widths.now c.args.r (env_of c.args.env.now)) c.in-One.is c.part_at.ensures in rw c.from_residual.ensures (single-one-short c.args.t.now c.args.widths.now (env_of c.args.env.now) c.args.left c.args.r c.in-One.code c.in-One.b p.0 c.single.result c.single.ensures c.in_err-a-in-One.was)

pub single-operated-requires : goal.single-operated-requires
single-operated-requires t c = let p : Operates c.args.t.now c.args.widths.now c.args.r c.in-One.code c.in-One.b × (W c.args.widths.now c.in-One.b ≡ 1) = subst (PartOf c.args.t.now c.args.widths.now c.args.r (env_of c.args.env.now)) c.in-One.is c.part_at.ensures in let q : ExpRow c.args.t.now c.args.widths.now c.in-One.b × (c.in-One.b < c.args.r) × (c.in-One.code < 256) = one-row c.args.t.now c.args.widths.now c.args.r c.in-One.code c.in-One.b p.0 in q.2

pub single-returns-in_ok-a-in-One : goal.single-returns-in_ok-a-in-One
single-returns-in_ok-a-in-One t c = let p : Operates c.args.t.now c.args.widths.now c.args.r c.in-One.code c.in-One.b × (W c.args.widths.now c.in-One.b ≡ 1) = subst (PartOf c.args.t.now c.args.widths.now c.args.r (env_of c.args.env.now)) c.in-One.is c.part_at.ensures in single-one c.args.t.now c.args.widths.now (env_of c.args.env.now) c.args.left c.args.r c.in-One.code c.in-One.b p.0 c.single.result c.in_ok-a-in-One.a c.operated.result c.in_ok-a-in-One.left c.single.ensures c.in_ok-a-in-One.was c.operated.ensures

pub single-single-requires-in-Two : goal.single-single-requires-in-Two
single-single-requires-in-Two t c = let p : Pairs c.args.t.now c.args.widths.now c.args.r c.in-Two.code c.in-Two.x c.in-Two.y = subst (PartOf c.args.t.now c.args.widths.now c.args.r (env_of c.args.env.now)) c.in-Two.is c.part_at.ensures in let q : ExpRow c.args.t.now c.args.widths.now c.in-Two.x × ExpRow c.args.t.now c.args.widths.now c.in-Two.y × (c.in-Two.x < c.args.r) × (c.in-Two.y < c.args.r) × (c.in-Two.code < 256) = two-rows c.args.t.now c.args.widths.now c.args.r c.in-Two.code c.in-Two.x c.in-Two.y p in (omega (arith, q.2), (q.0, c.requires.1, p.paired.first))

pub single-returns-in_err-a-in-Two : goal.single-returns-in_err-a-in-Two
single-returns-in_err-a-in-Two t c = let p : Pairs c.args.t.now c.args.widths.now c.args.r c.in-Two.code c.in-Two.x c.in-Two.y = subst (PartOf c.args.t.now c.args.widths.now c.args.r (env_of c.args.env.now)) c.in-Two.is c.part_at.ensures in rw c.from_residual-in_err-a-in-Two.ensures (single-two-short c.args.t.now c.args.widths.now (env_of c.args.env.now) c.args.left c.args.r c.in-Two.code c.in-Two.x c.in-Two.y p c.single-in-Two.result c.single-in-Two.ensures c.in_err-a-in-Two.was)

pub single-single-requires-in-Two-2 : goal.single-single-requires-in-Two-2
single-single-requires-in-Two-2 t c = let p : Pairs c.args.t.now c.args.widths.now c.args.r c.in-Two.code c.in-Two.x c.in-Two.y = subst (PartOf c.args.t.now c.args.widths.now c.args.r (env_of c.args.env.now)) c.in-Two.is c.part_at.ensures in let q : ExpRow c.args.t.now c.args.widths.now c.in-Two.x × ExpRow c.args.t.now c.args.widths.now c.in-Two.y × (c.in-Two.x < c.args.r) × (c.in-Two.y < c.args.r) × (c.in-Two.code < 256) = two-rows c.args.t.now c.args.widths.now c.args.r c.in-Two.code c.in-Two.x c.in-Two.y p in (omega (arith, q.3), (q.1, c.requires.1, p.paired.second))

pub single-returns-in_err-b-in-Two : goal.single-returns-in_err-b-in-Two
single-returns-in_err-b-in-Two t c = let p : Pairs c.args.t.now c.args.widths.now c.args.r c.in-Two.code c.in-Two.x c.in-Two.y = subst (PartOf c.args.t.now c.args.widths.now c.args.r (env_of c.args.env.now)) c.in-Two.is c.part_at.ensures in rw c.from_residual-in_err-b-in-Two.ensures (single-second-short c.args.t.now c.args.widths.now (env_of c.args.env.now) c.args.left c.args.r c.in-Two.code c.in-Two.x c.in-Two.y p c.single-in-Two.result c.single-in-Two.ensures c.in_ok-a-in-Two.a c.in_ok-a-in-Two.left c.in_ok-a-in-Two.was c.single-in-Two-2.result c.single-in-Two-2.ensures c.in_err-b-in-Two.was)

pub single-operated-requires-in-Two : goal.single-operated-requires-in-Two
single-operated-requires-in-Two t c = let p : Pairs c.args.t.now c.args.widths.now c.args.r c.in-Two.code c.in-Two.x c.in-Two.y = subst (PartOf c.args.t.now c.args.widths.now c.args.r (env_of c.args.env.now)) c.in-Two.is c.part_at.ensures in let q : ExpRow c.args.t.now c.args.widths.now c.in-Two.x × ExpRow c.args.t.now c.args.widths.now c.in-Two.y × (c.in-Two.x < c.args.r) × (c.in-Two.y < c.args.r) × (c.in-Two.code < 256) = two-rows c.args.t.now c.args.widths.now c.args.r c.in-Two.code c.in-Two.x c.in-Two.y p in q.4

pub single-returns-in_ok-b-in-Two : goal.single-returns-in_ok-b-in-Two
single-returns-in_ok-b-in-Two t c = let p : Pairs c.args.t.now c.args.widths.now c.args.r c.in-Two.code c.in-Two.x c.in-Two.y = subst (PartOf c.args.t.now c.args.widths.now c.args.r (env_of c.args.env.now)) c.in-Two.is c.part_at.ensures in single-two c.args.t.now c.args.widths.now (env_of c.args.env.now) c.args.left c.args.r c.in-Two.code c.in-Two.x c.in-Two.y p c.single-in-Two.result c.single-in-Two.ensures c.in_ok-a-in-Two.a c.in_ok-a-in-Two.left c.in_ok-a-in-Two.was c.single-in-Two-2.result c.single-in-Two-2.ensures c.in_ok-b-in-Two.b c.operated-in-Two.result c.in_ok-b-in-Two.left c.in_ok-b-in-Two.was c.operated-in-Two.ensures

pub single-expr-requires : goal.single-expr-requires
single-expr-requires t c = let p : Operates c.args.t.now c.args.widths.now c.args.r c.in-Wide.code c.in-Wide.b = subst (PartOf c.args.t.now c.args.widths.now c.args.r (env_of c.args.env.now)) c.in-Wide.is c.part_at.ensures in let q : ExpRow c.args.t.now c.args.widths.now c.in-Wide.b × (c.in-Wide.b < c.args.r) × (c.in-Wide.code < 256) = one-row c.args.t.now c.args.widths.now c.args.r c.in-Wide.code c.in-Wide.b p in let f : ExpNeeds c.args.t.now c.args.widths.now c.args.r (Operator c.in-Wide.code c.in-Wide.b) = exp-needs c.args.t.now c.args.widths.now c.args.r p.row (Operator c.in-Wide.code c.in-Wide.b) p.shape in (omega (arith, q.1), (q.0, c.requires.1, omega (arith, f.1)))

pub single-returns-in_err-left-in-Wide : goal.single-returns-in_err-left-in-Wide
single-returns-in_err-left-in-Wide t c = let p : Operates c.args.t.now c.args.widths.now c.args.r c.in-Wide.code c.in-Wide.b = subst (PartOf c.args.t.now c.args.widths.now c.args.r (env_of c.args.env.now)) c.in-Wide.is c.part_at.ensures in rw c.from_residual-in_err-left-in-Wide.ensures (single-wide-short c.args.t.now c.args.widths.now (env_of c.args.env.now) c.args.left c.args.r c.in-Wide.code c.in-Wide.b p (0 ∷ 0 ∷ []) c.expr.new.out (rw c.in_err-left-in-Wide.was at c.expr.ensures.0))

pub single-operated-requires-in-Wide : goal.single-operated-requires-in-Wide
single-operated-requires-in-Wide t c = let p : Operates c.args.t.now c.args.widths.now c.args.r c.in-Wide.code c.in-Wide.b = subst (PartOf c.args.t.now c.args.widths.now c.args.r (env_of c.args.env.now)) c.in-Wide.is c.part_at.ensures in let q : ExpRow c.args.t.now c.args.widths.now c.in-Wide.b × (c.in-Wide.b < c.args.r) × (c.in-Wide.code < 256) = one-row c.args.t.now c.args.widths.now c.args.r c.in-Wide.code c.in-Wide.b p in q.2

pub single-returns-in_ok-left-in-Wide : goal.single-returns-in_ok-left-in-Wide
single-returns-in_ok-left-in-Wide t c = let p : Operates c.args.t.now c.args.widths.now c.args.r c.in-Wide.code c.in-Wide.b = subst (PartOf c.args.t.now c.args.widths.now c.args.r (env_of c.args.env.now)) c.in-Wide.is c.part_at.ensures in single-wide c.args.t.now c.args.widths.now (env_of c.args.env.now) c.args.left c.args.r c.in-Wide.code c.in-Wide.b p (0 ∷ 0 ∷ []) c.expr.new.out c.operated-in-Wide.result c.in_ok-left-in-Wide.left (zeros-err 2) (rw c.in_ok-left-in-Wide.was at c.expr.ensures.0) c.operated-in-Wide.ensures

pub single-by_kind-requires : goal.single-by_kind-requires
single-by_kind-requires t c = (omega arith, (c.requires.0, c.requires.1, omega (arith, c.requires.2), subst (PartOf c.args.t.now c.args.widths.now c.args.r (env_of c.args.env.now)) c.in-Other.is c.part_at.ensures))

pub single-returns-in-Value : goal.single-returns-in-Value
single-returns-in-Value t c = subst (PartOf c.args.t.now c.args.widths.now c.args.r (env_of c.args.env.now)) c.in-Value.is c.part_at.ensures c.args.left

pub single-returns-in_err-left-in-Other : goal.single-returns-in_err-left-in-Other
single-returns-in_err-left-in-Other t c = rw c.from_residual-in_err-left-in-Other.ensures (told-short (eval_e (exp_of c.args.t.now c.args.r) (env_of c.args.env.now) c.args.left) 0 (0 ∷ []) c.by_kind.new.out (rw c.in_err-left-in-Other.was at c.by_kind.ensures.0))

pub single-returns-in_ok-left-in-Other : goal.single-returns-in_ok-left-in-Other
single-returns-in_ok-left-in-Other t c = single-told c.args.t.now c.args.widths.now (env_of c.args.env.now) c.args.left c.args.r c.requires.0 c.requires.2 (0 ∷ []) c.by_kind.new.out c.in_ok-left-in-Other.left (zeros-err 1) (rw c.in_ok-left-in-Other.was at c.by_kind.ensures.0)
