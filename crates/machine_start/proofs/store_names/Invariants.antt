use mathlib.Core.Path.{◌≡◌}
use lib.ListN.{length}
use Rattle.machine_start.specs.Start.{named}
use Rattle.machine_start.proofs.store_names.Given as goal

abbrev pub invariant-loop-j : goal.invariant-loop-j
invariant-loop-j l = (l.mem ≡ named l.j l.initial.mem l.at l.links) × (length l.mem ≡ length l.initial.mem)
