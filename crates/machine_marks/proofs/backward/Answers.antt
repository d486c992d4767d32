use native.Mathlib.Omega.{arith}
use lib.ListN.{length-set}
use Rattle.machine_marks.specs.Held.{moved_none, moved_back}
use Rattle.machine_marks.proofs.backward.Goals as goal

-- LOST slice-read-t9 : tie.Need-slice-read-t9
-- slice-read-t9 c = omega (arith, length-set c.before.before.args.awake.now c.before.before.args.m.block c.before.before.args.m.here, c.before.before.requires.len, c.before.before.requires.inside)

pub returns-then-low-block : goal.returns-then-low-block
returns-then-low-block c = moved_back c.args.awake.now c.args.m c.requires (omega arith)

pub returns : goal.returns
returns c = moved_none c.args.awake.now c.args.m c.requires (omega arith)
