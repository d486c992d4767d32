use mathlib.Core.Path.{◌≡◌}
use Prim.Native.Nat.{◌+◌, ◌-◌}
use lib.Dec.{eqb}
use lib.ListN.{get_or}
use Rattle.formula.specs.Tests.{lowest_from, lowest}
use Rattle.sheet_rows.proofs.rows.first_unnamed.Given as goal

abbrev pub invariant-loop-r : goal.invariant-loop-r
invariant-loop-r l = lowest_from l.r (l.n + 1 - l.r) (λ k. eqb (get_or l.times (k - 1) 0) 1) ≡ lowest l.n (λ k. eqb (get_or l.times (k - 1) 0) 1)
