use mathlib.Core.Path.{sym}
use borrow.Author.Tests.{lt-ltb, le-ltb}
use Rattle.value.specs.Senses.{word-of-err}
use Rattle.machine_calls.specs.Calls.{result_word_from}
use Rattle.machine_layout.specs.Layout.{result_link}
use Rattle.machine_calls.proofs.result_word.Goals as goal

pub returns-then-j-k : goal.returns-then-j-k
unfolding result_word_from
returns-then-j-k c = simp (lt-ltb c.args.j c.args.k c.if-j-k.true) (rw c.result_link.ensures.0 at c.head_of.ensures.0)

pub returns : goal.returns
unfolding result_word_from
returns c = simp (le-ltb c.args.j c.args.k c.if-j-k.false) (sym word-of-err)
