use mathlib.Core.Path.{◌≡◌}
use lib.ListN.{length}
use Rattle.machine_start.specs.Start.{cleared_from}
use Rattle.machine_start.proofs.empty_links.Given as goal

abbrev pub invariant-loop-l : goal.invariant-loop-l
invariant-loop-l l = (l.mem ≡ cleared_from l.l l.base l.size l.initial.mem) × (length l.mem ≡ length l.initial.mem)
