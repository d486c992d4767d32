use mathlib.Core.Path.{◌≡◌}
use Prim.Native.Nat.{◌+◌, ◌-◌, ◌*◌, ◌≤◌}
use lib.ListN.{length}
use Rattle.formula.specs.Tests.{lowest_from, lowest, fields_well}
use lib.Seq.{paste}
use Rattle.formula.specs.Sheet.{lines_of, fields_of}
use Rattle.sheet_fields.proofs.decode.decode.Given as goal

abbrev pub invariant-loop-i : goal.invariant-loop-i
invariant-loop-i l = (l.i ≤ l.n) × (lowest_from (l.i + 1) (l.n - l.i) (fields_well (lines_of l.s)) ≡ lowest l.n (fields_well (lines_of l.s))) × (l.fields ≡ paste l.initial.fields 0 (fields_of l.s) (5 * l.i)) × (length l.fields ≡ length l.initial.fields)
