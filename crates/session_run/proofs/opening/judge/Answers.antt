use native.Mathlib.Omega.{arith}
use mathlib.Core.Path.{sym, ◌∙◌}
use lib.ListN.{length}
use Rattle.session.proofs.OpeningLaws.{bad-few, count-few, judged-bad, judged-sets, head-behind}
use Rattle.session_run.proofs.opening.judge.Goals as goal

pub overflow_cast-line : goal.overflow_cast-line
overflow_cast-line c = record { fits = omega (arith, bad-few c.args.kinds.now c.args.results c.args.sets.now c.in-Err.line (sym c.in-Err.is ∙ c.count_sets.ensures), c.requires.2) }

pub overflow_cast-count : goal.overflow_cast-count
overflow_cast-count c = record { fits = omega (arith, count-few c.args.kinds.now c.args.results c.args.sets.now c.in-Ok.n (sym c.in-Ok.is ∙ c.count_sets.ensures), c.requires.2) }

pub returns-in-Err : goal.returns-in-Err
returns-in-Err c = record { judges = judged-bad c.args.kinds.now c.args.results c.args.sets.now c.in-Err.line c.refused.result c.refused.new.out (sym c.in-Err.is ∙ c.count_sets.ensures) (rw c.from.ensures at c.refused.ensures.refuses); out_unchanged = c.refused.ensures.out_unchanged }

pub returns-in-Ok : goal.returns-in-Ok
returns-in-Ok c = record { judges = judged-sets c.args.kinds.now c.args.results c.args.sets.now c.in-Ok.n c.args.out.now c.put_head.new.out (sym c.in-Ok.is ∙ c.count_sets.ensures) c.requires.1 c.put_head.ensures; out_unchanged = head-behind (length c.args.kinds.now) c.args.results c.in-Ok.n c.args.out.now c.put_head.new.out c.requires.1 c.put_head.ensures }
