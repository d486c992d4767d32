use mathlib.Core.Path.{sym}
use Rattle.text.proofs.FieldLaws.{positive-word, positive-large, positive-malformed}
use Rattle.text_read.proofs.values.positive.Goals as goal

pub returns-in-Some : goal.returns-in-Some
returns-in-Some c = rw c.in-Some.is (sym (positive-word c.in-Some.n c.if-n-le-GREATEST.true))

pub returns-in_default : goal.returns-in_default
returns-in_default c = rw c.in-Some.is (sym (positive-large c.in-Some.n c.if-n-le-GREATEST.false))

pub returns-in_default-2 : goal.returns-in_default-2
returns-in_default-2 c = rw c.in_default.is (sym positive-malformed)
