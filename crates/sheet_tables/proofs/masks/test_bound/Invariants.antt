use mathlib.Core.Path.{◌≡◌}
use Prim.Native.Nat.{◌+◌, ◌-◌, ◌≤◌}
use lib.ListN.{length}
use Rattle.names.specs.Names.{mask}
use Rattle.formula.specs.Tests.{lowest_from, lowest, bound_well}
use Rattle.sheet_tables.specs.Nodes.{node_at, free_in, Holds}
use Rattle.sheet_tables.proofs.masks.test_bound.Given as goal

abbrev pub invariant-loop-i : goal.invariant-loop-i
invariant-loop-i l = (l.i ≤ l.n) × (lowest_from (l.i + 1) (l.n - l.i) (bound_well l.fields l.places) ≡ lowest l.n (bound_well l.fields l.places)) × (Holds 0 l.masks l.i (λ k. mask (free_in (node_at l.fields l.places k)))) × (length l.masks ≡ l.n)
