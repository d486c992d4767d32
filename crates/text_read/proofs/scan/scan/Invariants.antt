use mathlib.Core.Path.{◌≡◌}
use lib.ListN.{drop}
use Rattle.text.specs.Scan.{scanned}
use Rattle.text_read.proofs.scan.scan.Given as goal

abbrev pub invariant-loop-b : goal.invariant-loop-b
invariant-loop-b l = (scanned l.y (drop l.b-index l.part) ≡ scanned l.initial.y l.part)
