use Rattle.std.proofs.Common.{◌≡◌, ◌≤◌, length}
use Rattle.case_files.proofs.read_sets.Given as goal

abbrev pub invariant-loop-line : goal.invariant-loop-line
invariant-loop-line l =
    (goal.iterator-loop-line).can_next l.line-iterator
    × (goal.iterator-loop-line).is_finite l.line-iterator
    × (length l.sets ≡ length l.initial.sets) × (l.end ≤ length l.sets)
