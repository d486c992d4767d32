use native.Mathlib.Omega.{arith}
use Rattle.sheet_fields.proofs.FieldLaws.{one-digit, two_digits}
use Rattle.sheet_fields.proofs.field.two.Goals as goal

pub returns-then-c-eq32 : goal.returns-then-c-eq32
returns-then-c-eq32 c = λ h. rw c.digit.ensures (one-digit c.args.s.now c.args.at (omega arith) c.if-c-eq32.true (grind arith) (grind arith))

pub returns : goal.returns
returns c = λ h. rw (c.digit-3.ensures, c.digit-2.ensures) (two_digits c.args.s.now c.args.at (omega arith) (grind arith) (grind arith) (grind arith) (grind arith))
