use mathlib.Core.Path.{◌≡◌}
use Prim.Native.Nat.{◌-◌, ◌≤◌}
use lib.ListN.{length}
use Rattle.sheet_tables.specs.Nodes.{Holds}
use Rattle.sheet_tidied.specs.Tidy.{new_number}
use Rattle.sheet_tidy.proofs.kept.number_rows.Given as goal

abbrev pub invariant-loop-i : goal.invariant-loop-i
invariant-loop-i l = (l.i ≤ length l.kept) × (l.count ≡ new_number l.kept l.i) × (Holds 0 l.numbers l.i (new_number l.kept)) × (length l.numbers ≡ length l.kept)
