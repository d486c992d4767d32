use Prim.Native.Nat.{◌-◌, ◌≤◌}
use mathlib.Core.Path.{◌≡◌}
use lib.ListN.{length}
use Rattle.session.specs.FeedLaws.{FedOn}
use Rattle.session_pass.proofs.feed.Given as goal

abbrev pub invariant-loop-next : goal.invariant-loop-next
invariant-loop-next l = (length l.mem ≡ length l.initial.mem) × (length l.set ≡ 160) × (l.next ≤ length l.sets) × (FedOn l.kinds l.sets l.at l.initial.mem l.next l.mem)

abbrev pub decreases-loop-next : goal.decreases-loop-next
decreases-loop-next l = length l.sets - l.next
