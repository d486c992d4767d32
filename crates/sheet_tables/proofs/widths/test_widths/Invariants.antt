use mathlib.Core.Path.{◌≡◌}
use Prim.Native.Nat.{◌+◌, ◌-◌, ◌≤◌}
use lib.ListN.{length}
use Rattle.formula.specs.Tests.{lowest_from, lowest, widths_well}
use Rattle.sheet_tables.specs.Nodes.{node_at, returned_in, iterated_in, Holds}
use Rattle.sheet_tables.proofs.widths.test_widths.Given as goal

abbrev pub invariant-loop-i : goal.invariant-loop-i
invariant-loop-i l = (l.i ≤ l.n) × (lowest_from (l.i + 1) (l.n - l.i) (widths_well l.fields l.places) ≡ lowest l.n (widths_well l.fields l.places)) × (Holds 0 l.returned l.i (λ k. returned_in (node_at l.fields l.places k))) × (Holds 0 l.iterated l.i (λ k. iterated_in (node_at l.fields l.places k))) × (length l.returned ≡ l.n) × (length l.iterated ≡ l.n)
