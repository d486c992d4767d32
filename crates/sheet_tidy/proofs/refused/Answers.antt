use mathlib.Core.Path.{refl}
use Rattle.sheet_tidy.proofs.refused.Goals as goal

pub returns : goal.returns
returns c = rw c.from.ensures refl
