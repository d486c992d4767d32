use mathlib.Core.Path.{ap, ◌∙◌}
use mir.Facts.{to_z-of_z}
use Rattle.value.proofs.Whole.{there, product-fits}
use Rattle.value.specs.Operators.{fit_of, multiply_of}
use Rattle.value.proofs.multiply.Goals as goal

pub returns : goal.returns
unfolding multiply_of
returns c = c.fit.ensures ∙ ap fit_of (simp (c.from.ensures, c.from-2.ensures, there c.ranges.a, there c.ranges.b, to_z-of_z (product-fits c.args.a c.args.b c.ranges.a.sfits c.ranges.b.sfits)))
