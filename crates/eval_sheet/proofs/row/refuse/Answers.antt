use mathlib.Core.Path.{refl}
use Rattle.eval_sheet.proofs.row.refuse.Goals as goal

pub returns : goal.returns
returns c = rw c.err.ensures refl
