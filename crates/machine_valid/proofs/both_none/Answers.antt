use mathlib.Core.Path.{sym}
use Rattle.machine_valid.specs.Ports.{two-names}
use Rattle.machine_valid.proofs.both_none.Goals as goal

pub returns : goal.returns
returns c = rw (sym c.name_at-low.ensures.0, sym c.name_at-high.ensures.0) (two-names c.name_at-low.result c.name_at-high.result c.name_at-low.ensures.1 c.name_at-high.ensures.1)
