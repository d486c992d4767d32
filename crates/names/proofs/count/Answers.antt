use mathlib.Core.Path.{refl}
use lib.Count.{ones-le}
use Rattle.names.proofs.count.Goals as goal

pub returns : goal.returns
returns c = (refl, ones-le 64 c.args.m c.ranges.m.fits)
