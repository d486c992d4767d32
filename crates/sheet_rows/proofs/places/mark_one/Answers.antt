use Rattle.formula.specs.Places.{mark}
use mathlib.Core.Path.{refl}
use Rattle.sheet_rows.proofs.places.mark_one.Goals as goal

pub returns : goal.returns
unfolding mark
returns c = refl
