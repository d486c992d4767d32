use mathlib.Core.Path.{◌≡◌}
use mathlib.Core.List.{◌++◌}
use lib.ListN.{length, drop}
use Rattle.text.specs.Printed.{shown}
use Rattle.text_print.proofs.show.Given as goal

abbrev pub invariant-loop-i : goal.invariant-loop-i
invariant-loop-i l = (length l.field ≡ length l.initial.field) × (shown l.before l.i l.rest ++ drop l.i l.field ≡ shown l.before (length l.initial.field) l.n)
