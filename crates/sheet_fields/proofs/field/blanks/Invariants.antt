use Prim.Native.Nat.{◌+◌, ◌≤◌}
use mathlib.Core.Path.{◌≡◌}
use lib.Seq.{slice}
use Rattle.formula.specs.Sheet.{field_of}
use Rattle.sheet_fields.proofs.field.blanks.Given as goal

abbrev pub invariant-loop-k : goal.invariant-loop-k
invariant-loop-k l = (l.k ≤ 5) × (field_of (slice (l.at + l.k) (l.at + 6) l.s) ≡ field_of (slice l.at (l.at + 6) l.s))
