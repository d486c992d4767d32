use Prim.Native.Nat.{◌-◌}
use native.Mathlib.Omega.{arith}
use mathlib.Core.Path.{◌≡◌, ◌∙◌, sym}
use Rattle.machine_tag_marks.specs.FirstInputs.{resting-more}
use Rattle.machine_tag_marks.proofs.mark_plane.Goals as goal

pub loop-j-init : goal.loop-j-init
loop-j-init c = (omega arith, record { len = c.requires.3; inside = omega arith; below = omega arith; blank = λ x p q. absurd (omega arith) }, λ x h z. absurd (omega arith))

pub wake_waiting-m-requires : goal.wake_waiting-m-requires
wake_waiting-m-requires c = (omega arith, omega arith, c.requires.2 c.loop-j.j (omega arith), c.loop-j.invariant.1)

pub loop-j-preserved : goal.loop-j-preserved
loop-j-preserved c = (omega arith, c.wake_waiting-m.ensures.0.stands, resting-more c.args.mem.now c.args.base c.loop-j.j c.loop-j.awake c.loop-j.m c.loop-j.invariant.2 c.wake_waiting-m.new.awake c.wake_waiting-m.result c.wake_waiting-m.ensures.0 c.wake_waiting-m.ensures.1)

pub backward-least-requires : goal.backward-least-requires
backward-least-requires c = c.loop-j.invariant.1

pub settle-requires : goal.settle-requires
settle-requires c = (c.backward-least.ensures.stands, c.backward-least.ensures.level)

pub shape_of-awake : goal.shape_of-awake
shape_of-awake c = omega arith

pub returns : goal.returns
returns c =
    let e : c.loop-j.j ≡ c.args.n = omega arith in
    let same = c.settle.ensures.0 ∙ c.backward-least.ensures.same in
    (omega (arith, c.settle.auto.awake, c.backward-least.ensures.stands.len), c.settle.ensures.1, rw (same, sym e) c.loop-j.invariant.2)
