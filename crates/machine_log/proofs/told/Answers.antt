use mathlib.Core.Path.{refl}
use borrow.Author.Tests.{ne_eqb}
use Rattle.machine_log.proofs.told.Goals as goal

pub returns-then-progress-eq0 : goal.returns-then-progress-eq0
returns-then-progress-eq0 c = rw (c.width_of.ensures, c.if-progress-eq0.true) refl

pub returns : goal.returns
returns c = rw (c.width_of-2.ensures, c.from.ensures, ne_eqb c.args.progress.line 0 c.if-progress-eq0.false) refl
