use Prim.Native.Nat.{◌+◌, ◌-◌, ◌≤◌}
use mathlib.Core.Path.{◌≡◌}
use Rattle.formula.specs.Tests.{lowest_from}
use Rattle.machine_log.specs.Lines.{most_lines, line_count, line_well, log_check}
use Rattle.machine_log.proofs.lines.bad_line.Given as goal

abbrev pub invariant-loop-j : goal.invariant-loop-j
invariant-loop-j l = (l.j ≤ most_lines) × (lowest_from (l.j + 1) (line_count l.log - l.j) (line_well l.number l.log) ≡ log_check l.number l.log)
