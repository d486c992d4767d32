use borrow.Author.Tests.{ne_eqb}
use mathlib.Core.Path.{◌∙◌}
use Rattle.value.proofs.Words.{real-of-kind, real-of-none}
use Rattle.value.proofs.bytes.real_in.Goals as goal

pub returns-then-letter-eq-REAL_LETTER : goal.returns-then-letter-eq-REAL_LETTER
returns-then-letter-eq-REAL_LETTER c = c.is_pattern.ensures ∙ real-of-kind c.args.letter c.args.bits c.if-letter-eq-REAL_LETTER.true

pub returns-else-letter-eq-REAL_LETTER : goal.returns-else-letter-eq-REAL_LETTER
returns-else-letter-eq-REAL_LETTER c = rw (ne_eqb c.args.letter 82 c.if-letter-eq-REAL_LETTER.false) (real-of-none c.args.letter c.args.bits c.if-letter-eq-REAL_LETTER.false)
