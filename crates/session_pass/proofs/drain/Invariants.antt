use Prim.Native.Nat.{◌+◌, ◌≤◌}
use mathlib.Core.Path.{◌≡◌}
use lib.ListN.{length, drop}
use Rattle.machine_layout.specs.Layout.{untaken_of}
use Rattle.session.proofs.PassLaws.{DrainedTo}
use Rattle.session_pass.proofs.drain.Given as goal

abbrev pub invariant-loop-line : goal.invariant-loop-line
invariant-loop-line l = (length l.out ≡ length l.initial.out) × (length l.mem ≡ length l.initial.mem) × (DrainedTo l.initial.mem l.mem l.count l.at l.out) × (l.count + untaken_of l.mem ≤ 255) × (drop l.at l.out ≡ drop l.at l.initial.out)

abbrev pub decreases-loop-line : goal.decreases-loop-line
decreases-loop-line l = untaken_of l.mem
