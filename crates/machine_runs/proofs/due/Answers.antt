use native.Mathlib.Omega.{arith}
use Prim.Native.Nat.{◌+◌, ◌*◌}
use mathlib.Core.Path.{◌∙◌}
use borrow.Author.Tests.{ltb-false, eqb-false}
use Rattle.machine_runs.proofs.due.Goals as goal

pub returns-then-side-eq-PUTTER : goal.returns-then-side-eq-PUTTER
returns-then-side-eq-PUTTER c = λ e lt. record { putter = λ s. omega (arith, ltb-false c.args.links.size (5 * c.waiting_on-count.result + 11) e, c.waiting_on-count.ensures.0); taker = λ s. absurd (omega arith) }

pub returns : goal.returns
returns c = λ e lt. record { putter = λ s. absurd (c.if-side-eq-PUTTER.false s); taker = λ s q. eqb-false c.waiting_on-count.result 1 e (c.waiting_on-count.ensures.0 ∙ q) }
