use native.Mathlib.Omega.{arith}
use mathlib.Core.Path.{sym, ◌∙◌}
use mathlib.Core.Bool.{true, false, false≢true}
use borrow.Author.Tests.{leb-true}
use Rattle.machine_marks.specs.Users.{noted-none, noted-set}
use Rattle.machine_marks.proofs.note.Goals as goal

pub returns-then-users-at : goal.returns-then-users-at
returns-then-users-at c = noted-none c.args.users.now c.args.l c.args.side c.args.j _ (λ e. leb-true 3105 c.args.l e)

pub returns-then-users-at-2 : goal.returns-then-users-at-2
returns-then-users-at-2 c = noted-set c.args.users.now c.args.l c.args.side c.args.j (c.if-users-at-2.true) (omega arith)

pub returns : goal.returns
returns c = noted-none c.args.users.now c.args.l c.args.side c.args.j false (λ e. absurd (false≢true e))
