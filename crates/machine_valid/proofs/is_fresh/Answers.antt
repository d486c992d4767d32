use Rattle.std.proofs.Common.{rules, tests}
use Rattle.machine_valid.specs.Valid.{unlike_at, fresh_at}
use Rattle.machine_valid.proofs.Ranges.{below_from_all}
use Rattle.machine_valid.proofs.is_fresh.Goals as goal

pub returns : goal.returns
unfolding unlike_at fresh_at
returns c = below_from_all c.args.p (unlike_at c.args.mem.now c.args.at c.args.p) _ _ _ c.all.ensures.ran (cc) (λ x b q k. search (rules, tests))
