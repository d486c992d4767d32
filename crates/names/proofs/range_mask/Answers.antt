use native.Mathlib.Omega.{arith}
use Rattle.names.proofs.Masks.{shifted-one-pos, shifted-range}
use Rattle.names.proofs.range_mask.Goals as goal

pub overflow_sub-result : goal.overflow_sub-result
overflow_sub-result c = shifted-one-pos c.args.b (omega arith)

pub returns : goal.returns
returns c = shifted-range c.args.a c.args.b c.requires
