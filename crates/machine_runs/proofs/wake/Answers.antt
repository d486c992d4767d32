use native.Mathlib.Omega.{arith}
use mathlib.Core.Path.{sym, ◌∙◌}
use Rattle.machine_runs.specs.Marks.{rests-stands, woken-all}
use Rattle.machine_runs.proofs.wake.Goals as goal

pub rest-own-requires : goal.rest-own-requires
rest-own-requires c = (omega arith, omega arith, c.requires.4.block)

pub wake_users-all-requires : goal.wake_users-all-requires
wake_users-all-requires c = (omega arith, omega arith, rests-stands c.args.mem.now c.args.links.base c.args.links.size c.args.i c.args.awake.now c.args.m c.rest-own.result c.requires.2 c.requires.4 c.rest-own.ensures)

pub backward-requires : goal.backward-requires
backward-requires c = c.wake_users-all.ensures.0.stands

pub shape_of-awake : goal.shape_of-awake
shape_of-awake c = c.backward.ensures.stands.len ∙ sym c.requires.2.len

pub returns : goal.returns
returns c = woken-all c.args.users.now c.args.mem.now c.args.links.base c.args.links.size c.args.i c.args.awake.now c.args.m c.requires.2 c.requires.3 c.requires.4 c.rest-own.result c.rest-own.ensures c.wake_users-all.new.awake c.wake_users-all.result c.backward.new.awake c.backward.result c.wake_users-all.ensures.0 c.wake_users-all.ensures.1 c.backward.ensures
