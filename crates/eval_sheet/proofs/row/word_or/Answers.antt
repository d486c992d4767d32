use mathlib.Core.Path.{refl}
use borrow.Author.Tests.{lt-ltb, le-ltb}
use Rattle.eval_sheet.proofs.row.word_or.Goals as goal

pub returns-then-i-n : goal.returns-then-i-n
returns-then-i-n c = rw (lt-ltb _ _ c.if-i-n.true) c.load.ensures.0

pub returns-else-i-n : goal.returns-else-i-n
returns-else-i-n c = rw (le-ltb _ _ c.if-i-n.false) refl
