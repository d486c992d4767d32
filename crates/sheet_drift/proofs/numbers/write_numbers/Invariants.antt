use Prim.Native.Nat.{◌≤◌, ◌-◌}
use mathlib.Core.Path.{◌≡◌}
use lib.ListN.{length, take}
use lib.Seq.{sets}
use Rattle.sheet_movement.specs.Moves.{number_bytes}
use Rattle.sheet_drift.proofs.numbers.write_numbers.Given as goal

abbrev pub invariant-loop-i : goal.invariant-loop-i
invariant-loop-i l = (l.i ≤ l.n) × (l.out ≡ sets l.initial.out 0 (number_bytes (take l.i l.numbers))) × (length l.out ≡ length l.initial.out)
