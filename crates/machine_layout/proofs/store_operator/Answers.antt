use mathlib.Core.Path.{◌∙◌, refl}
use Rattle.machine_layout.specs.Record.{placed}
use Rattle.machine_layout.proofs.store_operator.Goals as goal

pub returns : goal.returns
unfolding placed
returns c = c.store.ensures ∙ rw (c.register_at-register.ensures, c.store_links.ensures, c.operator_at-at.ensures) refl
