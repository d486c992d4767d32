use mathlib.Core.Path.{sym, refl}
use mathlib.Core.Bool.{false≢true}
use borrow.Author.Tests.{le-leb, lt-leb}
use Rattle.sheet_drift.proofs.moves.put_within.Goals as goal

pub returns-then-number-gt-MOST : goal.returns-then-number-gt-MOST
returns-then-number-gt-MOST c = (sym (lt-leb c.args.number 2147483647 c.if-number-gt-MOST.true), λ e. absurd (false≢true e))

pub returns : goal.returns
returns c = (sym (le-leb c.args.number 2147483647 c.if-number-gt-MOST.false), λ e. refl)
