use mathlib.Core.Path.{◌≡◌}
use Prim.Native.Nat.{◌+◌, ◌-◌}
use Rattle.formula.specs.Tests.{lowest_from, lowest, placed_well}
use Rattle.sheet_rows.proofs.places.test_places.Given as goal

abbrev pub invariant-loop-r : goal.invariant-loop-r
invariant-loop-r l = lowest_from l.r (l.n + 1 - l.r) (placed_well l.fields l.places) ≡ lowest l.n (placed_well l.fields l.places)
