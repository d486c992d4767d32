use mathlib.Core.Path.{ap, ◌∙◌}
use mir.Facts.{to_z-of_z}
use Rattle.value.proofs.Whole.{there, quotient_fits, zero_bits, nonzero-bits}
use Rattle.value.specs.Operators.{fit_of, divide_of, divided_by}
use Rattle.value.proofs.divide.Goals as goal

pub returns-then-b-eq0 : goal.returns-then-b-eq0
unfolding divide_of divided_by
returns-then-b-eq0 c = simp (zero_bits c.args.b c.ranges.b c.if-b-eq0.true)

pub returns : goal.returns
unfolding divide_of divided_by
returns c = simp (nonzero-bits c.args.b c.if-b-eq0.false) (c.fit.ensures ∙ ap fit_of (simp (c.from.ensures, c.from-2.ensures, there c.ranges.a, there c.ranges.b, to_z-of_z (quotient_fits c.args.a c.args.b c.ranges.a.sfits))))
