use mathlib.Core.Path.{refl}
use Rattle.sheet_read.proofs.read.figures.Goals as goal

pub returns : goal.returns
returns c = (refl, refl, c.inputs_in.ensures.0, refl)
