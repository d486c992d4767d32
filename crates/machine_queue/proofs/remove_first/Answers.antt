use native.Mathlib.Omega.{arith}
use Prim.Native.Nat.{◌+◌, ◌-◌, ◌*◌}
use mathlib.Core.Path.{◌≡◌, refl, sym, ◌∙◌}
use borrow.Author.Tests.{eq-eqb, ne_eqb, le-leb, lt-leb}
use lib.ListN.{length}
use Rattle.machine_queue.specs.Stretch.{waiting, removed}
use Rattle.machine_queue.proofs.remove_first.Goals as goal

pub returns-then-n-eq0 : goal.returns-then-n-eq0
unfolding removed
returns-then-n-eq0 c = simp (eq-eqb (waiting c.args.q.now) 0 (sym c.from-n.ensures ∙ c.if-n-eq0.true))

pub returns-then-q-end : goal.returns-then-q-end
unfolding removed
returns-then-q-end c = simp (ne_eqb (waiting c.args.q.now) 0 (omega (arith, c.from-n.ensures, c.if-n-eq0.false)), lt-leb (5 * waiting c.args.q.now + 1) (length c.args.q.now) (omega (arith, c.from-n.ensures, c.if-q-end.true)))

pub returns : goal.returns
unfolding removed
returns c =
    let n : 5 * c.from-n.result + 1 - 6 ≡ 5 * (c.from-n.result - 1) = omega arith in
    simp (ne_eqb (waiting c.args.q.now) 0 (omega (arith, c.from-n.ensures, c.if-n-eq0.false)), le-leb (5 * waiting c.args.q.now + 1) (length c.args.q.now) (omega (arith, c.from-n.ensures, c.if-q-end.false)))
    (rw (c.copy_within.ensures.after, n, c.from-n.ensures) refl)
