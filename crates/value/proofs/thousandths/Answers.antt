use mathlib.Core.Path.{◌∙◌}
use Rattle.value.proofs.Floats.{constant-is}
use Rattle.value.proofs.thousandths.Goals as goal

pub returns : goal.returns
returns c = c.fit_real.ensures ∙ constant-is c.args.a c.requires
