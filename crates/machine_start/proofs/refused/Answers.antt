use mathlib.Core.Path.{refl}
use Rattle.machine_start.proofs.refused.Goals as goal

pub returns : goal.returns
returns c = rw c.from.ensures refl
