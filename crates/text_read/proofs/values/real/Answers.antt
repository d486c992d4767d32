use mathlib.Core.Path.{sym, ◌∙◌}
use Rattle.text.proofs.FieldLaws.{patterned-word, patterned-large, patterned-malformed}
use Rattle.text_read.proofs.values.real.Goals as goal

pub returns-in-Some : goal.returns-in-Some
returns-in-Some c = rw c.in-Some.is (c.token_word.ensures ∙ patterned-word c.in-Some.n)

pub returns-in_default : goal.returns-in_default
returns-in_default c = rw c.in-Some.is (sym (patterned-large c.in-Some.n c.if-n-lt-PATTERNS.false))

pub returns-in_default-2 : goal.returns-in_default-2
returns-in_default-2 c = rw c.in_default.is (sym patterned-malformed)
