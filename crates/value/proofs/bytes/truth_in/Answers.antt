use borrow.Author.Tests.{ne_eqb}
use Rattle.value.proofs.Words.{truth-of-kind, truth-not-whole}
use Rattle.value.proofs.bytes.truth_in.Goals as goal

pub returns-then-letter-eq-TRUTH_LETTER : goal.returns-then-letter-eq-TRUTH_LETTER
returns-then-letter-eq-TRUTH_LETTER c = truth-of-kind c.args.letter c.args.bits c.if-letter-eq-TRUTH_LETTER.true

pub returns-else-letter-eq-TRUTH_LETTER : goal.returns-else-letter-eq-TRUTH_LETTER
returns-else-letter-eq-TRUTH_LETTER c = rw (ne_eqb c.args.letter 84 c.if-letter-eq-TRUTH_LETTER.false) (truth-not-whole c.args.letter c.args.bits c.if-letter-eq-TRUTH_LETTER.false)
