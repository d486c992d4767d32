use Rattle.std.proofs.Common.{rules, tests}
use Rattle.machine_valid.specs.Valid.{result_ok}
use Rattle.machine_valid.proofs.Ranges.{below_from_all}
use Rattle.machine_valid.proofs.results_ok.Goals as goal

pub returns : goal.returns
returns c = below_from_all c.args.k (result_ok c.args.mem.now 74) _ _ _ c.all.ensures.ran (cc) (λ x b q k. search (rules, tests))
