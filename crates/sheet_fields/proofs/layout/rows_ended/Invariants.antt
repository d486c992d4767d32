use mathlib.Core.Path.{◌≡◌}
use Prim.Native.Nat.{◌+◌, ◌-◌, ◌≤◌}
use Rattle.formula.specs.Tests.{lowest_from, lowest, ended_at}
use Rattle.formula.specs.Sheet.{lines_of}
use Rattle.sheet_fields.proofs.layout.rows_ended.Given as goal

abbrev pub invariant-loop-i : goal.invariant-loop-i
invariant-loop-i l = (l.i ≤ l.n) × (lowest_from (l.i + 1) (l.n - l.i) (ended_at (lines_of l.s)) ≡ lowest l.n (ended_at (lines_of l.s)))
