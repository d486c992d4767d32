-- Test 6 of a sheet that passes tests 1 to 5: it is then the first refusal, whatever the kinds line.
use Rattle.std.specs.Prelude.{ℕ, ◌-◌, ◌↔◌, List, ◌++◌, drop}
use Rattle.formula.specs.Results.{Check}
use Rattle.formula.specs.declared.Refusal.TheVariants.{Named}
use Rattle.formula.specs.declared.Figures.{Figures}
use Rattle.formula.specs.Refusals.{number_of}
use Rattle.formula.specs.Sheet.{row_count, fields_of}
use Rattle.formula.specs.Tests.{Test, lowest, named_once, occurrences, all_named, after_check, verdict_by, verdict_of, tests, row_tests, formula_tests, kind_tests, graph_tests, sheet_of, reading_of}
use Rattle.formula.specs.Verdicts.{◌also◌, then}
use Rattle.formula.specs.PlaceLaws.{Sound}
use Rattle.sheet_read.specs.Reading.{row_verdict}

-- 6 "Every row but the last is named once, by one field."
unfoldable pub sixth_of : List ℕ → Check
sixth_of s = lowest (row_count s - 1) (λ r. named_once (all_named (fields_of s) (row_count s)) r)

-- The tests behind it.
abbrev pub behind : List ℕ → List Test
behind line = drop 1 (formula_tests ++ (kind_tests line ++ graph_tests))
