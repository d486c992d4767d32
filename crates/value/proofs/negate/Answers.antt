use lib.IntN.{+ℤ_idl}
use mathlib.Core.Path.{ap, ◌∙◌}
use mir.Facts.{to_z-of_z}
use Rattle.value.proofs.Whole.{there, neg-fits}
use Rattle.value.specs.Operators.{fit_of, negate_of}
use Rattle.value.proofs.negate.Goals as goal

pub returns : goal.returns
unfolding negate_of
returns c = c.fit.ensures ∙ ap fit_of (simp (c.from.ensures, there c.ranges.a, +ℤ_idl, to_z-of_z (neg-fits c.ranges.a)))
