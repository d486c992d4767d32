use Rattle.names.proofs.Masks.{shifted_one}
use native.Mathlib.Omega.{arith}
use Rattle.names.proofs.single.Goals as goal

pub returns : goal.returns
returns c = shifted_one c.args.i (omega arith)
