use Prim.Native.Nat.{ℕ, ◌-◌, ◌≤◌, ◌<◌}
use mathlib.Core.Path.{◌≡◌}
use lib.ListN.{length}
use Rattle.machine_tag_runs.specs.TagMarks.{Marked}
use Rattle.machine_tag_runs.proofs.mark_planes.Given as goal

abbrev pub invariant-loop-t : goal.invariant-loop-t
invariant-loop-t l = (l.t ≤ 16) × (length l.awake ≡ 256) × (length l.firsts ≡ 16) × ((o : ℕ) → o < l.t → Marked l.mem l.n l.awake l.firsts o)
