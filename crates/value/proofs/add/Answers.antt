use native.Mathlib.Nat.{le_of_lt}
use mathlib.Core.Path.{ap, ◌∙◌}
use mir.Facts.{to_z-of_z}
use Rattle.value.proofs.Whole.{there, sum_fits}
use Rattle.value.specs.Operators.{fit_of, add_of}
use Rattle.value.proofs.add.Goals as goal

pub returns : goal.returns
unfolding add_of
returns c = c.fit.ensures ∙ ap fit_of (simp (c.from.ensures, c.from-2.ensures, there c.ranges.a, there c.ranges.b, to_z-of_z (sum_fits c.args.a c.args.b c.ranges.a.sfits (le_of_lt c.ranges.b.sfits))))
