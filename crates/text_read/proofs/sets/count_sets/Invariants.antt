use Prim.Native.Nat.{◌+◌, ◌-◌, ◌≤◌}
use mathlib.Core.Path.{◌≡◌}
use lib.ListN.{length, drop}
use Rattle.text.specs.SetLines.{lines_of, sets_from, sets_of, count_of}
use Rattle.text.specs.SetLineLaws.{more_than}
use Rattle.text_read.proofs.sets.count_sets.Given as goal

abbrev pub invariant-loop-at : goal.invariant-loop-at
invariant-loop-at l = (length l.scratch ≡ 160) × (l.at ≤ length l.s) × (l.n ≤ l.at) × (more_than l.n (sets_from l.kinds (l.n + 1) (lines_of (drop l.at l.s))) ≡ count_of (sets_of l.kinds l.s))

abbrev pub decreases-loop-at : goal.decreases-loop-at
decreases-loop-at l = length l.s - l.at
