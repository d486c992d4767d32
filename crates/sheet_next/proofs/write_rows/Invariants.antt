use Prim.Native.Nat.{◌-◌, ◌≤◌}
use mathlib.Core.Path.{◌≡◌}
use lib.ListN.{length}
use lib.Seq.{sets}
use Rattle.sheet_tidied.specs.Text.{sheet_text}
use Rattle.sheet_stands.specs.Fronts.{rows_to}
use Rattle.sheet_next.proofs.write_rows.Given as goal

abbrev pub invariant-loop-i : goal.invariant-loop-i
invariant-loop-i l = (l.i ≤ l.n) × (length l.out ≡ length l.initial.out) × (l.out ≡ sets l.initial.out 0 (sheet_text (rows_to l.i l.fields)))
