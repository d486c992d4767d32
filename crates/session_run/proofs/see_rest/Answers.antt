use Rattle.session.proofs.Reading.{nothing-more, seen-on}
use Rattle.session_run.proofs.see_rest.Goals as goal

pub loop-init : goal.loop-init
loop-init g c = nothing-more c.args.x

pub loop-preserved : goal.loop-preserved
loop-preserved g c = seen-on c.args.x c.loop.y c.in-Some.more c.loop.invariant c.in-Some.ensures
