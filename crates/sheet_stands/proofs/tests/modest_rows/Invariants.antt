use mathlib.Core.Path.{◌≡◌}
use Prim.Native.Nat.{◌+◌, ◌-◌, ◌≤◌}
use Rattle.formula.specs.Tests.{lowest_from, lowest}
use Rattle.sheet_listed.specs.Small.{modest_row}
use Rattle.sheet_stands.proofs.tests.modest_rows.Given as goal

abbrev pub invariant-loop-i : goal.invariant-loop-i
invariant-loop-i l = (l.i ≤ l.n) × (lowest_from (l.i + 1) (l.n - l.i) (modest_row l.t) ≡ lowest l.n (modest_row l.t))
