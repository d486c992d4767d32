-- "In a passed sheet, given inputs of their kinds or errs, no err comes from a wrong kind or a test that is neither truth nor err": document 02,
-- Job 6, for the machine of a sheet. Rests on MadeClaims and Runs. Assumes an admissible sheet that passes 18 with a kinds line.
use Rattle.std.specs.Prelude.{ℕ, ◌≤◌, ◌≡◌}
use mathlib.Core.List.{List, [], ◌∷◌}
use Rattle.value.specs.declared.Value.{Value}
use Rattle.names.specs.Names.{below}
use Rattle.formula.specs.Sheet.{row_count, fields_of}
use Rattle.formula.specs.Tree.{Exp, formula_of}
use Rattle.formula.specs.Free.{free_e}
use Rattle.formula.specs.Acceptance.{Admissible}
use Rattle.formula.specs.Kinds.{Kinds, kinds_e, kinded}
use Rattle.formula.specs.Faults.{input_kinds, kind_check}
use Rattle.graph.specs.Assembly.{Operator}
use Rattle.graph.specs.Translation.{port_of, made_of}
use Rattle.theory_kinds.specs.Inputs.{Set-suits}
use Rattle.theory_reference.specs.Plugged.{nowhere, Each}
use Rattle.theory_verdicts.specs.Running.{Call, pushed, taken}

-- "inputs of their kinds or errs": the values of each set, by the letters of the line (theory_kinds/specs/Inputs).
abbrev pub All-suit : List ℕ → List (List Value) → Type 0
All-suit line [] = Unit {0}
All-suit line (v ∷ vs) = Set-suits line v × All-suit line vs
