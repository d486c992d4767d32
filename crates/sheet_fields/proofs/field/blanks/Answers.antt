use native.Mathlib.Omega.{arith}
use Prim.Native.Nat.{◌+◌}
use mathlib.Core.Path.{◌≡◌, sym, ◌∙◌, refl}
use Rattle.sheet_fields.proofs.FieldLaws.{field-space}
use Rattle.sheet_fields.proofs.field.blanks.Goals as goal

pub loop-k-init : goal.loop-k-init
loop-k-init c = let e : c.args.at + 0 ≡ c.args.at = omega arith in (omega arith, rw e refl)

pub returns-then-s-at-ne32 : goal.returns-then-s-at-ne32
returns-then-s-at-ne32 c = (omega arith, c.loop-k.invariant.1, λ h. c.if-s-at-ne32.true)

pub loop-k-preserved : goal.loop-k-preserved
loop-k-preserved c =
    let e : c.args.at + (c.loop-k.k + 1) ≡ c.args.at + c.loop-k.k + 1 = omega arith in
    (omega arith, rw e (sym (field-space c.args.s.now (c.args.at + c.loop-k.k) (c.args.at + 6) (omega arith) (omega arith) c.if-s-at-ne32.false) ∙ c.loop-k.invariant.1))

pub returns : goal.returns
returns c =
    let e : c.loop-k.k ≡ 5 = omega arith in
    (omega arith, rw e at c.loop-k.invariant.1, λ h. absurd (omega (arith, h)))
