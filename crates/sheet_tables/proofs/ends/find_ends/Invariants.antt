use mathlib.Core.Path.{◌≡◌}
use Prim.Native.Nat.{◌≤◌}
use lib.ListN.{length}
use Rattle.formula.specs.Places.{places_of}
use Rattle.sheet_tables.specs.Ends.{ends_in}
use Rattle.sheet_tables.specs.Nodes.{node_at, Holds}
use Rattle.sheet_tables.proofs.ends.find_ends.Given as goal

abbrev pub invariant-loop-i : goal.invariant-loop-i
invariant-loop-i l = (l.i ≤ l.n) × (Holds 0 l.ends l.i (λ k. ends_in (node_at l.fields (places_of l.fields l.n) k))) × (length l.ends ≡ l.n)
