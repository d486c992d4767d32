use mathlib.Core.Path.{◌∙◌, refl}
use Rattle.machine_calls.proofs.refused.Goals as goal

pub returns : goal.returns
returns c = c.reply.ensures ∙ rw c.from.ensures refl
