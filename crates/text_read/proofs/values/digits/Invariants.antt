use Prim.Native.Nat.{◌+◌, ◌^◌, ◌<◌}
use mathlib.Core.Path.{◌≡◌}
use lib.Seq.{slice}
use Rattle.formula.specs.Sheet.{digits_of}
use Rattle.text_read.proofs.values.digits.Given as goal

abbrev pub invariant-loop-b : goal.invariant-loop-b
invariant-loop-b l = (l.v < 10 ^ (l.b-index + 1)) × (digits_of l.v (slice (l.from + l.b-index) l.end l.s) ≡ digits_of l.first (slice l.from l.end l.s))
