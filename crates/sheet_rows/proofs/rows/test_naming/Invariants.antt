use mathlib.Core.Path.{◌≡◌}
use Prim.Native.Nat.{◌+◌, ◌-◌}
use Rattle.formula.specs.Tests.{lowest_from, lowest, names_well}
use Rattle.sheet_rows.proofs.rows.test_naming.Given as goal

abbrev pub invariant-loop-r : goal.invariant-loop-r
invariant-loop-r l = lowest_from l.r (l.n + 1 - l.r) (names_well l.fields) ≡ lowest l.n (names_well l.fields)
