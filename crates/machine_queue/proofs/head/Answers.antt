use native.Mathlib.Omega.{arith}
use borrow.Author.Tests.{eq-eqb, ne_eqb}
use Rattle.machine_queue.specs.Stretch.{waiting, head_of}
use Rattle.machine_queue.proofs.head.Goals as goal

pub returns-then-q-eq0 : goal.returns-then-q-eq0
unfolding head_of
returns-then-q-eq0 c = (simp (eq-eqb (waiting c.args.q.now) 0 c.if-q-eq0.true), omega arith)

pub returns-else-q-eq0 : goal.returns-else-q-eq0
unfolding head_of
returns-else-q-eq0 c = (simp (ne_eqb (waiting c.args.q.now) 0 c.if-q-eq0.false) c.load.ensures.0, c.load.ensures.1)
