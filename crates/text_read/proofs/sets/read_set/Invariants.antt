use Prim.Native.Nat.{◌*◌}
use mathlib.Core.Path.{◌≡◌}
use mathlib.Core.List.{◌++◌}
use mathlib.Core.Bool.{true}
use lib.ListN.{length, drop}
use Rattle.text.specs.SetLines.{line_at, fields_well, field_bytes}
use Rattle.text_read.proofs.sets.read_set.Given as goal

abbrev pub invariant-loop-j : goal.invariant-loop-j
invariant-loop-j l = (length l.out ≡ length l.initial.out) × (fields_well l.fn.kinds l.j (line_at l.fn.kinds l.s l.at) ≡ true) × (l.out ≡ field_bytes l.j (line_at l.fn.kinds l.s l.at) ++ drop (5 * l.j) l.initial.out)
