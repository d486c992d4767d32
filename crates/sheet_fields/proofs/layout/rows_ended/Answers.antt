use mathlib.Core.Path.{sym, ◌∙◌, ap, ◌≡◌}
use mathlib.Core.Bool.{true, false}
use native.Mathlib.Omega.{arith}
use Prim.Native.Nat.{◌+◌, ◌*◌}
use lib.ListN.{get_or}
use borrow.Author.Tests.{eq-eqb, ne_eqb}
use Rattle.formula.specs.Tests.{ended_at, is-passed}
use Rattle.formula.proofs.TestLaws.{starts, goes_on, stops, ends}
use lib.Dec.{eqb}
use Rattle.formula.specs.Sheet.{lines_of}
use Rattle.formula.proofs.SheetLaws.{line-feed}
use Rattle.sheet_fields.proofs.layout.rows_ended.Goals as goal

pub loop-i-init : goal.loop-i-init
loop-i-init c = (omega arith, starts c.args.n 0 (ended_at (lines_of c.args.s.now)))

pub overflow_mul-i : goal.overflow_mul-i
overflow_mul-i c = omega arith

pub overflow_add-i : goal.overflow_add-i
overflow_add-i c = omega arith

pub bounds-s-i : goal.bounds-s-i
bounds-s-i c = omega arith

pub returns-then-s-i-ne-LINE_FEED : goal.returns-then-s-i-ne-LINE_FEED
returns-then-s-i-ne-LINE_FEED c =
    let w = ended_at (lines_of c.args.s.now) in
    let e : w (c.loop-i.i + 1) ≡ false = ap (λ b. eqb b 10) (line-feed c.args.s.now c.loop-i.i (omega arith)) ∙ ne_eqb (get_or c.args.s.now (31 * c.loop-i.i + 30) 0) 10 c.if-s-i-ne-LINE_FEED.true in
    ap is-passed (sym (stops c.args.n c.loop-i.i w c.loop-i-test.true e) ∙ c.loop-i.invariant.1)

pub loop-i-preserved : goal.loop-i-preserved
loop-i-preserved c =
    let w = ended_at (lines_of c.args.s.now) in
    let e : w (c.loop-i.i + 1) ≡ true = ap (λ b. eqb b 10) (line-feed c.args.s.now c.loop-i.i (omega arith)) ∙ eq-eqb (get_or c.args.s.now (31 * c.loop-i.i + 30) 0) 10 c.if-s-i-ne-LINE_FEED.false in
    (omega arith, goes_on c.args.n c.loop-i.i w c.loop-i-test.true e ∙ c.loop-i.invariant.1)

pub returns : goal.returns
returns c = ap is-passed (sym (ends c.args.n c.loop-i.i (ended_at (lines_of c.args.s.now)) (omega arith)) ∙ c.loop-i.invariant.1)
