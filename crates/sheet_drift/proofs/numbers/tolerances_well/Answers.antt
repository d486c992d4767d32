use native.Mathlib.Omega.{arith}
use Prim.Native.Nat.{◌+◌, ◌*◌, ◌-◌}
use mathlib.Core.Path.{◌≡◌, sym, ◌∙◌, ap}
use mathlib.Core.Bool.{Bool, true, false, ◌&&◌}
use lib.Dec.{leb}
use borrow.Author.Tests.{le-leb, lt-leb}
use Rattle.sheet_movement.specs.Moves.{number_at}
use Rattle.sheet_drift.specs.Numbers.{within_from, other-count, well-start, well-step, well-end}
use Rattle.sheet_drift.proofs.numbers.tolerances_well.Goals as goal

pub returns-then-s-inputs : goal.returns-then-s-inputs
returns-then-s-inputs c = sym (other-count c.args.inputs c.args.s.now c.if-s-inputs.true)

pub loop-i-init : goal.loop-i-init
loop-i-init c = (omega arith, well-start c.args.inputs c.args.s.now c.if-s-inputs.false)

pub returns-then-from-gt-MOST : goal.returns-then-from-gt-MOST
returns-then-from-gt-MOST c =
    let e : leb (number_at c.args.s.now (4 * c.loop-i.i)) 2147483647 ≡ false = lt-leb (number_at c.args.s.now (4 * c.loop-i.i)) 2147483647 (omega (arith, c.if-from-gt-MOST.true, c.number_at.ensures, c.from.ensures)) in
    sym (c.loop-i.invariant.1 ∙ well-step c.args.inputs c.args.s.now c.loop-i.i c.loop-i-test.true ∙ ap (λ (x : Bool). x && within_from c.args.inputs c.args.s.now (c.loop-i.i + 1)) e)

pub loop-i-preserved : goal.loop-i-preserved
loop-i-preserved c =
    let e : leb (number_at c.args.s.now (4 * c.loop-i.i)) 2147483647 ≡ true = le-leb (number_at c.args.s.now (4 * c.loop-i.i)) 2147483647 (omega (arith, c.if-from-gt-MOST.false, c.number_at.ensures, c.from.ensures)) in
    (omega arith, c.loop-i.invariant.1 ∙ well-step c.args.inputs c.args.s.now c.loop-i.i c.loop-i-test.true ∙ ap (λ (x : Bool). x && within_from c.args.inputs c.args.s.now (c.loop-i.i + 1)) e)

pub returns : goal.returns
returns c = sym (c.loop-i.invariant.1 ∙ well-end c.args.inputs c.args.s.now c.loop-i.i c.loop-i-test.false)
