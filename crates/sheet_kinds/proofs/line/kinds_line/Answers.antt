use native.Mathlib.Omega.{arith}
use Prim.Native.Nat.{◌+◌}
use mathlib.Core.Path.{◌≡◌, sym, ◌∙◌, ap}
use mathlib.Core.Bool.{Bool, true, false, ◌&&◌}
use Rattle.sheet_kinds.specs.Line.{other_length, well_from, well-start, well-step, well-last}
use Rattle.sheet_kinds.proofs.line.kinds_line.Goals as goal

pub returns-then-line-inputs : goal.returns-then-line-inputs
returns-then-line-inputs c = sym (other_length c.args.inputs c.args.line.now (λ e. omega (arith, c.if-line-inputs.true)))

pub returns-then-line-inputs-ne1 : goal.returns-then-line-inputs-ne1
returns-then-line-inputs-ne1 c = sym (other_length c.args.inputs c.args.line.now (λ e. c.if-line-inputs-ne1.true (omega arith)))

pub loop-i-init : goal.loop-i-init
loop-i-init c = (omega arith, well-start c.args.inputs c.args.line.now)

pub returns-then-not-is_letter : goal.returns-then-not-is_letter
returns-then-not-is_letter c = let e : c.is_letter.result ≡ false = c.if-not-is_letter.true in sym (c.loop-i.invariant.1 ∙ well-step c.args.inputs c.args.line.now c.loop-i.i c.loop-i-test.true c.if-line-inputs.false c.is_letter.result c.is_letter.ensures ∙ ap (λ (x : Bool). x && well_from c.args.inputs c.args.line.now (c.loop-i.i + 1)) e)

pub loop-i-preserved : goal.loop-i-preserved
loop-i-preserved c = let e : c.is_letter.result ≡ true = c.if-not-is_letter.false in (omega arith, c.loop-i.invariant.1 ∙ well-step c.args.inputs c.args.line.now c.loop-i.i c.loop-i-test.true c.if-line-inputs.false c.is_letter.result c.is_letter.ensures ∙ ap (λ (x : Bool). x && well_from c.args.inputs c.args.line.now (c.loop-i.i + 1)) e)

pub returns : goal.returns
returns c = let e : c.loop-i.i ≡ c.args.inputs = omega arith in sym (c.loop-i.invariant.1 ∙ well-last c.args.inputs c.args.line.now c.loop-i.i e c.if-line-inputs-ne1.false)
