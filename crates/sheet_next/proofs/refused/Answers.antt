use mathlib.Core.Path.{refl}
use Rattle.sheet_next.proofs.refused.Goals as goal

pub returns : goal.returns
returns c = rw c.from.ensures refl
