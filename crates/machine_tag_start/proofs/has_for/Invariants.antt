use mathlib.Core.Path.{◌≡◌}
use Prim.Native.Nat.{◌+◌, ◌-◌}
use Rattle.formula.specs.Sheet.{row_count, fields_of}
use Rattle.formula.specs.Tests.{lowest_from, lowest}
use Rattle.machine_tag_start.specs.TagStart.{not_for}
use Rattle.machine_tag_start.proofs.has_for.Given as goal

abbrev pub invariant-loop-i : goal.invariant-loop-i
invariant-loop-i l = lowest_from (l.i + 1) (row_count l.sheet - l.i) (not_for (fields_of l.sheet)) ≡ lowest (row_count l.sheet) (not_for (fields_of l.sheet))
