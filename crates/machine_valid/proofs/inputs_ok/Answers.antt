use Rattle.std.proofs.Common.{rules, tests}
use Rattle.machine_valid.specs.Valid.{input_ok}
use Rattle.machine_valid.proofs.Ranges.{below_from_all}
use Rattle.machine_valid.proofs.inputs_ok.Goals as goal

pub returns : goal.returns
returns c = below_from_all c.args.k (input_ok c.args.mem.now) _ _ _ c.all.ensures.ran (cc) (λ x b q k. search (rules, tests))
