use mathlib.Core.Path.{◌≡◌}
use Prim.Native.Nat.{ℕ, ◌≤◌}
use lib.ListN.{length, get_or}
use Rattle.sheet_tables.specs.Nodes.{Holds}
use Rattle.sheet_count.specs.Counts.{count_at}
use Rattle.sheet_count.proofs.count.count_rows.Given as goal

abbrev pub invariant-loop-i : goal.invariant-loop-i
invariant-loop-i l = (l.i ≤ l.n) × (Holds 0 l.operators l.i (λ k. (count_at l.fields l.places l.n k).operators)) × ((k : ℕ) → get_or l.operators k 0 ≤ 1024) × (length l.operators ≡ 200)
