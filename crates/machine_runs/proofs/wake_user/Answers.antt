use Rattle.machine_marks.specs.Held.{held, woke-none}
use Rattle.machine_runs.specs.Marks.{hit-marked, hit-calm}
use Rattle.machine_runs.proofs.wake_user.Goals as goal

pub returns-then-due : goal.returns-then-due
returns-then-due c = (c.wake.ensures.0, hit-marked c.args.users.now c.args.mem.now c.args.links.base c.args.links.size c.args.l c.args.side (held c.wake.new.awake c.wake.result) c.user_of-u.result c.user_of-u.ensures.1 c.wake.ensures.1)

pub returns : goal.returns
returns c = (woke-none c.args.awake.now c.args.m c.requires.3, hit-calm c.args.users.now c.args.mem.now c.args.links.base c.args.links.size c.args.l c.args.side (held c.args.awake.now c.args.m) (c.due.ensures c.if-due.false))
