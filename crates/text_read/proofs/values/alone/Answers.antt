use mathlib.Core.Path.{refl}
use borrow.Author.Tests.{eq-eqb, ne_eqb}
use Rattle.text_read.proofs.values.alone.Goals as goal

pub returns-then-i-end : goal.returns-then-i-end
returns-then-i-end c = rw (eq-eqb c.args.i c.args.end c.if-i-end.true) refl

pub returns-else-i-end : goal.returns-else-i-end
returns-else-i-end c = rw (ne_eqb c.args.i c.args.end c.if-i-end.false) refl
