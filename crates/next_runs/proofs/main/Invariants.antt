use Rattle.std.proofs.Common.{◌≡◌, ◌<◌, length}
use Rattle.next_runs.proofs.main.Given as goal

abbrev pub invariant-loop-listed : goal.invariant-loop-listed
invariant-loop-listed l = (length l.sheet ≡ 155) × (l.alike < l.listed)
