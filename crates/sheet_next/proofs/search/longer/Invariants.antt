use Prim.Native.Nat.{suc, ◌-◌, ◌≤◌}
use mathlib.Core.Path.{◌≡◌}
use lib.ListN.{length}
use Rattle.sheet_listed.specs.Search.{up_from}
use Rattle.sheet_next.proofs.search.longer.Given as goal

abbrev pub invariant-loop-i : goal.invariant-loop-i
invariant-loop-i l = (l.i ≤ 5) × (length l.t ≡ 25) × (length l.widths ≡ 5) × (length l.masks ≡ 5) × (up_from (suc l.i) (5 - l.i) ≡ up_from (suc l.n) (5 - l.n))
