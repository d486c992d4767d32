use mathlib.Core.Path.{refl}
use borrow.Author.Tests.{lt-ltb, le-ltb}
use Rattle.sheet_listed.specs.Search.{content_at}
use Rattle.sheet_stands.proofs.contents.content.Goals as goal

pub returns-then-k-lt-WHOLES : goal.returns-then-k-lt-WHOLES
unfolding content_at
returns-then-k-lt-WHOLES c = rw (lt-ltb c.args.k 2 c.if-k-lt-WHOLES.true, c.row.ensures) refl

pub returns-then-k-lt-TRUTHS : goal.returns-then-k-lt-TRUTHS
unfolding content_at
returns-then-k-lt-TRUTHS c = rw (le-ltb c.args.k 2 c.if-k-lt-WHOLES.false, lt-ltb c.args.k 4 c.if-k-lt-TRUTHS.true, c.row-then-k-lt-TRUTHS.ensures) refl

pub returns-then-k-lt-PAIRS : goal.returns-then-k-lt-PAIRS
unfolding content_at
returns-then-k-lt-PAIRS c = rw (le-ltb c.args.k 2 c.if-k-lt-WHOLES.false, le-ltb c.args.k 4 c.if-k-lt-TRUTHS.false, lt-ltb c.args.k 6 c.if-k-lt-PAIRS.true, c.row-then-k-lt-PAIRS.ensures) refl

pub returns-then-k-lt-OPERATORS : goal.returns-then-k-lt-OPERATORS
unfolding content_at
returns-then-k-lt-OPERATORS c = rw (le-ltb c.args.k 2 c.if-k-lt-WHOLES.false, le-ltb c.args.k 4 c.if-k-lt-TRUTHS.false, le-ltb c.args.k 6 c.if-k-lt-PAIRS.false, lt-ltb c.args.k 22 c.if-k-lt-OPERATORS.true, c.two_fields.ensures) refl

pub returns-then-k-lt-LETS_OF_0 : goal.returns-then-k-lt-LETS_OF_0
unfolding content_at
returns-then-k-lt-LETS_OF_0 c = rw (le-ltb c.args.k 2 c.if-k-lt-WHOLES.false, le-ltb c.args.k 4 c.if-k-lt-TRUTHS.false, le-ltb c.args.k 6 c.if-k-lt-PAIRS.false, le-ltb c.args.k 22 c.if-k-lt-OPERATORS.false, lt-ltb c.args.k 66 c.if-k-lt-LETS_OF_0.true, c.two_fields-then-k-lt-LETS_OF_0.ensures) refl

pub returns-then-k-lt-LETS_OF_BOTH : goal.returns-then-k-lt-LETS_OF_BOTH
unfolding content_at
returns-then-k-lt-LETS_OF_BOTH c = rw (le-ltb c.args.k 2 c.if-k-lt-WHOLES.false, le-ltb c.args.k 4 c.if-k-lt-TRUTHS.false, le-ltb c.args.k 6 c.if-k-lt-PAIRS.false, le-ltb c.args.k 22 c.if-k-lt-OPERATORS.false, le-ltb c.args.k 66 c.if-k-lt-LETS_OF_0.false, lt-ltb c.args.k 82 c.if-k-lt-LETS_OF_BOTH.true, c.let_row.ensures) refl

pub returns-then-k-lt-LETS_OF_1 : goal.returns-then-k-lt-LETS_OF_1
unfolding content_at
returns-then-k-lt-LETS_OF_1 c = rw (le-ltb c.args.k 2 c.if-k-lt-WHOLES.false, le-ltb c.args.k 4 c.if-k-lt-TRUTHS.false, le-ltb c.args.k 6 c.if-k-lt-PAIRS.false, le-ltb c.args.k 22 c.if-k-lt-OPERATORS.false, le-ltb c.args.k 66 c.if-k-lt-LETS_OF_0.false, le-ltb c.args.k 82 c.if-k-lt-LETS_OF_BOTH.false, lt-ltb c.args.k 98 c.if-k-lt-LETS_OF_1.true, c.let_row-then-k-lt-LETS_OF_1.ensures) refl

pub returns-then-k-lt-IFS : goal.returns-then-k-lt-IFS
unfolding content_at
returns-then-k-lt-IFS c = rw (le-ltb c.args.k 2 c.if-k-lt-WHOLES.false, le-ltb c.args.k 4 c.if-k-lt-TRUTHS.false, le-ltb c.args.k 6 c.if-k-lt-PAIRS.false, le-ltb c.args.k 22 c.if-k-lt-OPERATORS.false, le-ltb c.args.k 66 c.if-k-lt-LETS_OF_0.false, le-ltb c.args.k 82 c.if-k-lt-LETS_OF_BOTH.false, le-ltb c.args.k 98 c.if-k-lt-LETS_OF_1.false, lt-ltb c.args.k 114 c.if-k-lt-IFS.true, c.let_row-then-k-lt-IFS.ensures) refl

pub returns : goal.returns
unfolding content_at
returns c = rw (le-ltb c.args.k 2 c.if-k-lt-WHOLES.false, le-ltb c.args.k 4 c.if-k-lt-TRUTHS.false, le-ltb c.args.k 6 c.if-k-lt-PAIRS.false, le-ltb c.args.k 22 c.if-k-lt-OPERATORS.false, le-ltb c.args.k 66 c.if-k-lt-LETS_OF_0.false, le-ltb c.args.k 82 c.if-k-lt-LETS_OF_BOTH.false, le-ltb c.args.k 98 c.if-k-lt-LETS_OF_1.false, le-ltb c.args.k 114 c.if-k-lt-IFS.false, c.row-2.ensures, c.number.ensures, c.number-2.ensures, c.number-3.ensures) refl
