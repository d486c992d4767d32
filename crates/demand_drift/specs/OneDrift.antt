-- What the theorems assume can be met, and of this sheet no number told could be less, by computation: x / 3 and x - y, with x told to 1 and y to 2. Drift tells 1 and 3; the
-- sets 2, 5 and 3, 3 are within tolerance, and their results, 0, -3 and 1, 0, lie 1 and 3 apart. Were the divide's movement not rounded up, it would be 0.
use Rattle.std.specs.Prelude.{ℕ, zero, suc, ◌≡◌, refl, List, [], ◌∷◌, pos, negsuc, nat_abs, ◌-ℤ◌, get_or}
use Rattle.std.proofs.Math.Option.{Option}
use Rattle.value.specs.declared.Value.{Value}
use Rattle.value.specs.declared.Value.TheVariants.{Whole}
use Rattle.value.specs.Bytes.{value_of, word_at}
use Rattle.examples.specs.Sheets.{bytes}
use Rattle.eval_sheet.specs.Handed as Evaluation
use Rattle.eval_sheet.specs.Handed.{handed_out}
use Rattle.sheet_drift.specs.Drifting.{Handed, drifted_into}
use Rattle.sheet_movement.specs.Moves.{number_at}
use Rattle.sheet_movement.specs.Near.{both}
use Rattle.formula.specs.Tests.{verdict_of}
use Rattle.machine_layout.specs.Layout.{capacity_in}
use Rattle.machine_start.specs.Start.{started}
use Rattle.demand.specs.LesserStarts.{zeros}

unfoldable pub third_and_difference : List ℕ
unfolding bytes
third_and_difference =
    bytes "     1     0     0     0     0\n     2     3     0     0     0\n     4     1     2     0     0\n     5     4     3     0     0\n     1     0     0     0     0\n     1     1     0     0     0\n     4     5     6     0     0\n     5     2     7     0     0\n     4     4     8     0     0\n"

abbrev pub tolerances : List ℕ
tolerances = 1 ∷ 0 ∷ 0 ∷ 0 ∷ 2 ∷ 0 ∷ 0 ∷ 0 ∷ []

-- 2, 5
abbrev pub first : List ℕ
first = 1 ∷ 2 ∷ 0 ∷ 0 ∷ 0 ∷ 1 ∷ 5 ∷ 0 ∷ 0 ∷ 0 ∷ []

-- 3, 3
abbrev pub second : List ℕ
second = 1 ∷ 3 ∷ 0 ∷ 0 ∷ 0 ∷ 1 ∷ 3 ∷ 0 ∷ 0 ∷ 0 ∷ []

abbrev pub drift : Handed
drift = drifted_into third_and_difference (bytes "WW\n") tolerances (zeros 64)

abbrev pub evaluation : List ℕ → Evaluation.Handed
evaluation set = handed_out third_and_difference (bytes "WW\n") set 0 (zeros 80)

-- The refusal and the width told, and the two values.
abbrev pub told : Evaluation.Handed → List ℕ
told e = e.answer.refusal ∷ e.answer.width ∷ []

abbrev pub values : Evaluation.Handed → List (Option Value)
values e = value_of (word_at e.out 0) ∷ value_of (word_at e.out 5) ∷ []
