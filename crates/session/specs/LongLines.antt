-- A kinds line has one letter an input, of which there are at most 33, and a line feed. So what stands behind as many bytes makes no difference: the line has
-- another length, and 17 or an earlier refusal comes. Assumes nothing.
use Rattle.std.specs.Prelude.{ℕ, suc, ◌≤◌, ◌<◌, ◌≡◌, Bool, true, false, List, ◌++◌, length}
use Rattle.names.specs.Names.{without, one, trigger}
use Rattle.formula.specs.declared.Refusal.TheVariants.{KindsLine}
use Rattle.formula.specs.Sheet.{row_count, fields_of}
use Rattle.formula.specs.Tree.{Exp, exp_of}
use Rattle.formula.specs.Free.{free_e, inputs_of}
use Rattle.formula.specs.Tests.{line_fits, after_check, verdict_by, verdict_of, tests, row_tests, formula_tests, kind_tests, graph_tests, sheet_of}
use Rattle.formula.specs.Verdicts.{then}
use Rattle.sheet_kinds.specs.Line.{well-length}

-- The bytes of the longest kinds line.
abbrev pub longest_kinds : ℕ
longest_kinds = 34
