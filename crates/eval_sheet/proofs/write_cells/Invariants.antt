use mathlib.Core.Path.{◌≡◌}
use lib.ListN.{length}
use Rattle.eval_sheet.specs.Handed.{written}
use Rattle.eval_sheet.proofs.write_cells.Given as goal

abbrev pub invariant-loop-j : goal.invariant-loop-j
invariant-loop-j l = (l.out ≡ written l.j l.fn.cells l.initial.out) × (length l.out ≡ length l.initial.out)
