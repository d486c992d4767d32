use Rattle.machine_layout.specs.Layout.{name_at}
use Rattle.machine_layout.proofs.name_at.Goals as goal

pub returns : goal.returns
unfolding name_at
returns c = c.number_at.ensures
