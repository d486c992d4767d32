use mathlib.Core.Path.{sym, ◌∙◌}
use Rattle.value.specs.Operators.{number, negate_real}
use Rattle.value.proofs.Codes.{negate-no-number}
use Rattle.value.proofs.negate_other.Goals as goal

pub returns-in_default : goal.returns-in_default
returns-in_default c = c.hand_on_one.ensures ∙ sym (negate-no-number c.args.a c.requires c.in_default.not-Real)

pub returns : goal.returns
unfolding number negate_real
returns c = rw c.in-Real.is c.fit_real.ensures
