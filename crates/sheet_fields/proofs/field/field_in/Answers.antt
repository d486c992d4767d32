use native.Mathlib.Omega.{arith}
use Prim.Native.Nat.{◌+◌}
use mathlib.Core.Path.{◌≡◌, sym, ◌∙◌, ap}
use Rattle.std.specs.Prelude.{Some}
use Rattle.sheet_fields.proofs.FieldLaws.{field-not-digit, field-last, field-zero, field-digit, zero_more}
use Rattle.sheet_fields.proofs.field.field_in.Goals as goal

pub overflow_add-i : goal.overflow_add-i
overflow_add-i c = omega (arith, c.blanks-k.ensures.0)

pub bounds-s-i : goal.bounds-s-i
bounds-s-i c = omega (arith, c.blanks-k.ensures.0)

pub returns-then-k-eq-LAST : goal.returns-then-k-eq-LAST
returns-then-k-eq-LAST c = let f = c.blanks-k.ensures in let e : c.blanks-k.result ≡ 5 = c.if-k-eq-LAST.true in ap Some c.digit.ensures ∙ field-last c.args.s.now (c.args.at + c.blanks-k.result) (c.args.at + 6) (omega (arith, e)) (omega arith) (grind arith) (grind arith) ∙ f.1

pub returns-then-b-eq48 : goal.returns-then-b-eq48
returns-then-b-eq48 c = let f = c.blanks-k.ensures in let k = f.0 in sym (sym f.1 ∙ field-zero c.args.s.now (c.args.at + c.blanks-k.result) (c.args.at + 6) (omega (arith, k)) (omega arith) c.if-b-eq48.true ∙ zero_more c.args.s.now (c.args.at + c.blanks-k.result + 1) (c.args.at + 6) (omega (arith, k, c.if-k-eq-LAST.false)) (omega arith))

pub overflow_add-i-2 : goal.overflow_add-i-2
overflow_add-i-2 c = omega (arith, c.blanks-k.ensures.0)

pub digits-requires : goal.digits-requires
digits-requires c = (omega (arith, c.blanks-k.ensures.0), omega arith, omega (arith, c.blanks-k.ensures.0), grind arith)

pub returns : goal.returns
returns c = let f = c.blanks-k.ensures in let k = f.0 in c.digits.ensures ∙ (rw c.digit-2.ensures (sym (field-digit c.args.s.now (c.args.at + c.blanks-k.result) (c.args.at + 6) (omega (arith, k)) (omega arith) c.if-b-eq48.false (grind arith) (grind arith)) ∙ f.1))

pub returns-then-not-is_ascii_digit : goal.returns-then-not-is_ascii_digit
returns-then-not-is_ascii_digit c = let f = c.blanks-k.ensures in let k = f.0 in field-not-digit c.args.s.now (c.args.at + c.blanks-k.result) (c.args.at + 6) (omega (arith, k)) (omega arith) (λ h. f.2 (omega (arith, h))) (sym c.is_ascii_digit.ensures.value ∙ c.if-not-is_ascii_digit.true) ∙ f.1
