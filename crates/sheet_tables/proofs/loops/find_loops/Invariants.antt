use mathlib.Core.Path.{◌≡◌}
use Prim.Native.Nat.{◌-◌, ◌≤◌}
use lib.ListN.{length, get_or}
use Rattle.sheet_tables.specs.Loops.{loops_down, loops_of}
use Rattle.sheet_tables.proofs.loops.find_loops.Given as goal

abbrev pub invariant-loop-r : goal.invariant-loop-r
invariant-loop-r l = (l.r ≤ l.n) × (loops_down l.fields l.places (λ k. get_or l.returned (k - 1) 0) l.r l.loops ≡ loops_of l.fields l.places (λ k. get_or l.returned (k - 1) 0) l.n) × (length l.loops ≡ l.n)
