use mathlib.Core.Path.{sym}
use Rattle.text.proofs.FieldLaws.{negative-word, negative-large, negative-zero, negative-malformed}
use Rattle.text_read.proofs.values.negative.Goals as goal

pub returns-in-Some : goal.returns-in-Some
returns-in-Some c = rw c.in-Some.is (sym (negative-word c.in-Some.n c.if-n-ne0.true c.if-n-le-LEAST.true))

pub returns-in_default : goal.returns-in_default
returns-in_default c = rw c.in-Some.is (sym (negative-large c.in-Some.n c.if-n-le-LEAST.false))

pub returns-in_default-2 : goal.returns-in_default-2
returns-in_default-2 c = rw c.in-Some.is (sym (rw c.if-n-ne0.false negative-zero))

pub returns-in_default-3 : goal.returns-in_default-3
returns-in_default-3 c = rw c.in_default.is (sym negative-malformed)
