use native.Mathlib.Omega.{arith}
use Rattle.machine_layout.proofs.port_of.Goals as goal

pub name_at-requires : goal.name_at-requires
name_at-requires c = (omega (arith, c.operator_at.ensures), omega (arith, c.operator_at.ensures), omega arith)

pub returns : goal.returns
returns c = rw c.operator_at.ensures at c.name_at.ensures
