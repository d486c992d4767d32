use native.Mathlib.Omega.{arith}
use mathlib.Core.Path.{refl}
use Rattle.maker_joins.proofs.gates.Goals as goal

pub returns : goal.returns
returns c = (c.gate_row-outs.ensures.0, c.gate_row-outs.ensures.1, refl, refl, omega arith, omega arith)
