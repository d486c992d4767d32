-- "In a passed sheet, given inputs of their kinds or errs, no err comes from a wrong kind or a test that is neither truth nor err":
-- document 02, Job 6, for direct evaluation of a sheet on a set. Rests on KindsHold. Assumes an admissible sheet that passes 18 with a
-- kinds line, and a set whose values are of the line's kinds or errs; at the end an accepted sheet and any set that passes 12.
use Rattle.std.specs.Prelude.{ℕ, zero, suc, ◌≤◌, ◌<◌, ◌≡◌, refl, ◌↔◌, true, List, [], ◌∷◌, length, get_or, take}
use Rattle.value.specs.declared.Value.{Value}
use Rattle.value.specs.declared.ValueKind.{ValueKind}
use Rattle.value.specs.declared.ValueKind.TheVariants.{Whole as whole-kind, Truth as truth-kind, Real as real-kind}
use Rattle.value.specs.Senses.{err}
use Rattle.value.specs.Kinds.{suits, kind_of_letter}
use Rattle.value_sets.specs.Sets.{set_values, IsSet}
use Rattle.names.specs.Names.{Names, below}
use Rattle.formula.specs.Sheet.{row_count, fields_of}
use Rattle.formula.specs.Tree.{Exp, formula_of}
use Rattle.formula.specs.Free.{free_e, inputs_of}
use Rattle.formula.specs.Tests.{verdict_of, kinds_kept}
use Rattle.formula.specs.Acceptance.{Admissible, Kinded}
use Rattle.formula.specs.Kinds.{Kinds, kinds_e, kinded}
use Rattle.formula.specs.Faults.{input_kinds, kind_check, letters_of}
use Rattle.meaning.specs.Meaning.{Env, inputs_hold, eval_e}

-- "inputs of their kinds or errs": each value of a set, by its letter of the line.
abbrev pub Set-suits : List ℕ → List Value → Type 0
Set-suits line vs = (i : ℕ) → suits (kind_of_letter (get_or line i 0)) (get_or vs i err) ≡ true
