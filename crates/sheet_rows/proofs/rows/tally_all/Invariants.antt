use mathlib.Core.Path.{◌≡◌}
use Prim.Native.Nat.{◌+◌, ◌-◌, ◌≤◌}
use lib.ListN.{length}
use Rattle.sheet_rows.specs.Tallies.{tallied}
use Rattle.sheet_rows.proofs.rows.tally_all.Given as goal

abbrev pub invariant-loop-r : goal.invariant-loop-r
invariant-loop-r l = (l.times ≡ tallied l.fields (l.r - 1) l.initial.times) × (length l.times ≡ l.n) × (l.r ≤ l.n + 1)
