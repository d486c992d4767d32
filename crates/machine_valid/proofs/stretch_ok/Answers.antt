use Rattle.std.proofs.Common.{◌≡◌, sym, ◌∙◌, refl, arith, length}
use borrow.Author.Tests.{le-leb}
use Rattle.machine_valid.specs.Below.{all_below}
use Rattle.machine_valid.specs.Valid.{stretch_ok}
use Rattle.machine_queue.specs.Stretch.{waiting}
use Rattle.machine_valid.proofs.stretch_ok.Goals as goal

pub returns-then-waiting-eq0 : goal.returns-then-waiting-eq0
unfolding stretch_ok all_below
returns-then-waiting-eq0 c =
    let none : waiting c.args.q.now ≡ 0 = sym c.waiting.ensures.0 ∙ c.if-waiting-eq0.true in
    rw (c.if-waiting-eq0.true, none, le-leb 1 (length c.args.q.now) (omega (arith, c.requires.0))) refl
