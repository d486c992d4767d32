use Prim.Native.Nat.{◌+◌, ◌≤◌}
use mathlib.Core.Path.{◌≡◌}
use lib.ListN.{length}
use Rattle.session.specs.Ending.{Proceeds, ComesTo}
use Rattle.session_run.proofs.repeat.Given as goal

abbrev pub invariant-loop-stage : goal.invariant-loop-stage
invariant-loop-stage g l = (length l.mem ≡ length l.initial.mem) × (length l.out ≡ length l.initial.out) × (l.stage.at ≤ length l.sets) × Proceeds l.kinds l.sets l.stage l.mem × ComesTo l.kinds l.sets l.initial.stage l.initial.mem l.stage l.mem

abbrev pub decreases-loop-stage : goal.decreases-loop-stage
decreases-loop-stage g l = l.stage.remaining + l.stage.firings
