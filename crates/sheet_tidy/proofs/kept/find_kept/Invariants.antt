use mathlib.Core.Path.{◌≡◌}
use Prim.Native.Nat.{◌-◌, ◌≤◌}
use lib.ListN.{length}
use Rattle.sheet_tidied.specs.Tidy.{keep_down, kept_of}
use Rattle.sheet_tidy.proofs.kept.find_kept.Given as goal

abbrev pub invariant-loop-r : goal.invariant-loop-r
invariant-loop-r l = (l.r ≤ l.n) × (keep_down l.fields l.r l.kept ≡ kept_of l.fields l.n) × (length l.kept ≡ l.n)
