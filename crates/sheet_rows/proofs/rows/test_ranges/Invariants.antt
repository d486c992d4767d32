use mathlib.Core.Path.{◌≡◌}
use Prim.Native.Nat.{◌+◌, ◌-◌}
use Rattle.formula.specs.Tests.{lowest_from, lowest, ranges_well}
use Rattle.sheet_rows.proofs.rows.test_ranges.Given as goal

abbrev pub invariant-loop-r : goal.invariant-loop-r
invariant-loop-r l = lowest_from l.r (l.n + 1 - l.r) (ranges_well l.fields) ≡ lowest l.n (ranges_well l.fields)
