use Rattle.value.proofs.Whole.{back}
use Rattle.value.specs.Operators.{less_of}
use Rattle.value.proofs.less.Goals as goal

pub returns : goal.returns
unfolding less_of
returns c = simp (back c.ranges.a, back c.ranges.b)
