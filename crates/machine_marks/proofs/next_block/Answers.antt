use native.Mathlib.Omega.{arith}
use mathlib.Core.Path.{◌≡◌}
use Rattle.machine_marks.specs.Held.{blank-more}
use Rattle.machine_marks.proofs.next_block.Goals as goal

pub loop-b-init : goal.loop-b-init
loop-b-init c = (omega arith, omega arith, λ x p q. absurd (omega arith))

pub offset_bounds-awake-b : goal.offset_bounds-awake-b
offset_bounds-awake-b c = omega arith

pub bounds-awake-b : goal.bounds-awake-b
bounds-awake-b c = omega arith

pub returns-then-awake-b-ne0 : goal.returns-then-awake-b-ne0
returns-then-awake-b-ne0 c = (omega arith, omega arith, c.loop-b.invariant.2, λ h. c.if-awake-b-ne0.true)

pub loop-b-preserved : goal.loop-b-preserved
loop-b-preserved c = (omega arith, omega arith, blank-more c.args.awake.now c.args.from c.loop-b.b c.loop-b.invariant.2 (omega arith))

pub returns : goal.returns
returns c = let e : c.loop-b.b ≡ 16 = omega arith in (omega arith, omega arith, rw e at c.loop-b.invariant.2, λ h. absurd (omega arith))
