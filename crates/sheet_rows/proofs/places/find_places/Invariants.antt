use mathlib.Core.Path.{◌≡◌}
use Prim.Native.Nat.{◌≤◌}
use lib.ListN.{length}
use Rattle.formula.specs.Places.{places_of, mark_down}
use Rattle.sheet_rows.proofs.places.find_places.Given as goal

abbrev pub invariant-loop-r : goal.invariant-loop-r
invariant-loop-r l = (l.r ≤ l.n) × (mark_down l.fields l.r l.places ≡ places_of l.fields l.n) × (length l.places ≡ l.n)
