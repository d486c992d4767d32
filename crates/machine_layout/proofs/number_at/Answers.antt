use Rattle.machine_layout.specs.Layout.{number16}
use native.Mathlib.Omega.{arith}
use Rattle.machine_layout.proofs.number_at.Goals as goal

pub returns : goal.returns
unfolding number16
returns c = (cc, omega arith)
