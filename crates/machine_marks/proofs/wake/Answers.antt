use native.Mathlib.Omega.{arith}
use Prim.Native.Nat.{◌/◌, ◌%◌}
use Rattle.machine_marks.specs.Words.{shifted_one}
use Rattle.machine_marks.specs.Held.{woke-none, woke-here, woke-far}
use Rattle.machine_marks.proofs.wake.Goals as goal

pub returns-then-u-ge-OPERATORS : goal.returns-then-u-ge-OPERATORS
returns-then-u-ge-OPERATORS c = (woke-none c.args.awake.now c.args.m c.requires, λ h. absurd (omega arith))

pub returns-then-at-m : goal.returns-then-at-m
returns-then-at-m c = rw (shifted_one (c.args.u % 64) (omega arith)) (woke-here c.args.awake.now c.args.m c.requires c.args.u (omega arith) (omega arith))

pub returns-then-at-m-2 : goal.returns-then-at-m-2
returns-then-at-m-2 c = rw (shifted_one (c.args.u % 64) (omega arith)) (woke-far c.args.awake.now c.args.m c.requires c.args.u (omega arith) (omega arith) (c.args.u / 64) (omega arith) (omega arith))

pub returns : goal.returns
returns c = rw (shifted_one (c.args.u % 64) (omega arith)) (woke-far c.args.awake.now c.args.m c.requires c.args.u (omega arith) (omega arith) c.args.m.low (omega arith) (omega arith))
