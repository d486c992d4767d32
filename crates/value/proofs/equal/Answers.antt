use mathlib.Core.Path.{ap}
use Rattle.value.specs.declared.Value.TheVariants.{Truth}
use Rattle.value.proofs.Whole.{eq-bits}
use Rattle.value.specs.Operators.{equal_of}
use Rattle.value.proofs.equal.Goals as goal

pub returns : goal.returns
unfolding equal_of
returns c = ap Truth (eq-bits c.args.a c.args.b c.ranges.a c.ranges.b)
