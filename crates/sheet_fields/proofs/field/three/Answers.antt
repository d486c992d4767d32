use native.Mathlib.Omega.{arith}
use Rattle.sheet_fields.proofs.FieldLaws.{three-digits}
use Rattle.sheet_fields.proofs.field.three.Goals as goal

pub returns : goal.returns
returns c = λ h. rw (c.digit-3.ensures, c.digit-2.ensures, c.digit.ensures) (three-digits c.args.s.now c.args.at (omega arith) (grind arith) (grind arith) (grind arith) (grind arith) (grind arith) (grind arith))
