use native.Mathlib.Omega.{arith}
use Rattle.machine_marks.specs.Held.{woke-none}
use Rattle.machine_tag_marks.specs.FirstInputs.{idle-without}
use Rattle.machine_tag_marks.proofs.wake_waiting.Goals as goal

pub waits-requires : goal.waits-requires
waits-requires c = omega arith

pub wake-requires : goal.wake-requires
wake-requires c = c.requires.3

pub shape_of-awake-then-waits : goal.shape_of-awake-then-waits
shape_of-awake-then-waits c = omega arith

pub returns-then-waits : goal.returns-then-waits
returns-then-waits c = (c.wake.ensures.0, λ z. absurd (omega (arith, c.wake.ensures.1 c.requires.1)))

pub returns : goal.returns
returns c = (woke-none c.args.awake.now c.args.m c.requires.3, λ z. idle-without c.args.mem.now c.args.base c.args.j c.requires.2 (c.waits.ensures c.if-waits.false))
