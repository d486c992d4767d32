use Prim.Native.Nat.{◌+◌, ◌*◌, ◌-◌, ◌≤◌}
use mathlib.Core.Path.{◌≡◌}
use lib.ListN.{length}
use Rattle.sheet_listed.specs.Search.{searched}
use Rattle.sheet_listed.specs.Standing.{Agree}
use Rattle.sheet_stands.specs.Fronts.{rows_to, Front}
use Rattle.sheet_next.proofs.search.+completes_first_from.Given as goal

abbrev pub decreases-completes : goal.decreases-completes
decreases-completes l = 2 * (l.n - l.r)

abbrev pub decreases-first_from : goal.decreases-first_from
decreases-first_from l = 2 * (l.n - l.r) + 1

abbrev pub invariant-first_from-loop-k : goal.invariant-first_from-loop-k
invariant-first_from-loop-k l = (l.k ≤ 178) × (length l.t ≡ 25) × Agree (l.r - 1) l.t l.initial.t × Front l.t l.widths l.masks (l.r - 1) × (searched (rows_to (l.r - 1) l.initial.t) l.k (l.n - l.r) ≡ searched (rows_to (l.r - 1) l.initial.t) l.start (l.n - l.r))
