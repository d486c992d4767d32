use mathlib.Core.Path.{◌≡◌}
use Prim.Native.Nat.{◌+◌, ◌≤◌}
use lib.ListN.{length}
use Rattle.names.specs.Names.{size_from, names_in}
use Rattle.maker_parts.proofs.Numbering.{NumberedTo}
use Rattle.maker_parts.proofs.numbered.Given as goal

abbrev pub invariant-loop-i : goal.invariant-loop-i
invariant-loop-i l =
    record { size : length l.link-items ≡ 33; count : l.l ≡ l.n + size_from l.i (names_in l.mask); fits : l.l ≤ l.n + l.i; links : NumberedTo l.i l.mask l.n l.link-items }
