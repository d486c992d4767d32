use Rattle.std.proofs.Common.{rules}
use Rattle.formula.specs.Tests.{after_check}
use Rattle.formula.proofs.at_row.Goals as goal

pub returns : goal.returns
unfolding after_check
returns c = search rules
