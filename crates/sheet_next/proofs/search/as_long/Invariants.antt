use Prim.Native.Nat.{◌-◌, ◌≤◌}
use mathlib.Core.Path.{◌≡◌}
use lib.ListN.{length}
use Rattle.sheet_listed.specs.Search.{down_from}
use Rattle.sheet_listed.specs.Standing.{Agree}
use Rattle.sheet_stands.specs.Fronts.{rows_to, Front}
use Rattle.sheet_next.proofs.search.as_long.Given as goal

abbrev pub invariant-loop-r : goal.invariant-loop-r
invariant-loop-r l = (l.r ≤ l.n) × (length l.t ≡ 25) × Agree l.r l.t l.initial.t × Front l.t l.widths l.masks l.r × (down_from l.r (rows_to l.n l.initial.t) ≡ down_from l.n (rows_to l.n l.initial.t))
