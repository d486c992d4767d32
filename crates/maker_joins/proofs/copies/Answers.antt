use mathlib.Core.Path.{refl}
use Rattle.maker_joins.proofs.copies.Goals as goal

pub returns : goal.returns
returns c = (c.spread-outs.ensures.0, c.spread-outs.ensures.1, refl, refl, refl)
