use Rattle.std.proofs.Common.{rules, tests}
use Rattle.machine_valid.specs.Valid.{link_ok_from}
use Rattle.machine_valid.proofs.Ranges.{below_from_all}
use Rattle.machine_valid.proofs.links_ok.Goals as goal

pub returns : goal.returns
returns c = below_from_all c.args.k (link_ok_from c.args.mem.now c.args.links.base c.args.links.size) _ _ _ c.all.ensures.ran (cc) (λ x b q k. search (rules, tests))
