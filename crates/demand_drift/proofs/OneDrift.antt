-- Laws of specs/OneDrift.antt, and what only they need.
use Rattle.std.specs.Prelude.{ℕ, zero, suc, ◌≡◌, refl, List, [], ◌∷◌, pos, negsuc, nat_abs, ◌-ℤ◌, get_or}
use Rattle.std.proofs.Common.{sym, ap, arith}
use Rattle.std.proofs.Math.Option.{some}
use Rattle.value.specs.declared.Value.TheVariants.{Whole}
use Rattle.value.specs.Bytes.{value_of, word_at}
use Rattle.examples.specs.Sheets.{bytes}
use Rattle.eval_sheet.specs.Handed.{handed_out}
use Rattle.sheet_drift.specs.Drifting.{drifted_into}
use Rattle.sheet_movement.specs.Moves.{number_at}
use Rattle.sheet_movement.proofs.Within.{difference-within}
use Rattle.sheet_movement.specs.Near.{both}
use Rattle.formula.specs.Tests.{verdict_of}
use Rattle.machine_layout.specs.Layout.{capacity_in}
use Rattle.machine_start.specs.Start.{started}
use Rattle.demand.specs.LesserStarts.{zeros}
use Rattle.demand_drift.specs.Fields.{NearFields, WithinTolerance}
use Rattle.demand_drift.proofs.EvaluatedNear.{evaluated-near}
use Rattle.demand_drift.specs.OneDrift.{third_and_difference, tolerances, first, second, drift, evaluation, told, values}

pub drift-tells : (drift.answer.refusal ∷ drift.answer.row ∷ drift.answer.results ∷ number_at drift.out 0 ∷ number_at drift.out 4 ∷ []) ≡ 0 ∷ 0 ∷ 2 ∷ 1 ∷ 3 ∷ []
unfolding drifted_into bytes zeros third_and_difference number_at
drift-tells = refl

pub both-yield : (told (evaluation first) ≡ 0 ∷ 2 ∷ []) × (told (evaluation second) ≡ 0 ∷ 2 ∷ [])
unfolding handed_out bytes zeros third_and_difference
both-yield = (refl, refl)

pub first-yields : values (evaluation first) ≡ some (Whole (pos 0)) ∷ some (Whole (negsuc 2)) ∷ []
unfolding handed_out bytes zeros third_and_difference value_of word_at
first-yields = refl

pub second-yields : values (evaluation second) ≡ some (Whole (pos 1)) ∷ some (Whole (pos 0)) ∷ []
unfolding handed_out bytes zeros third_and_difference value_of word_at
second-yields = refl

-- Each moves just as far as its number.
pub moves-as-told : (nat_abs (pos 0 -ℤ pos 1) ≡ number_at drift.out 0) × (nat_abs (negsuc 2 -ℤ pos 0) ≡ number_at drift.out 4)
moves-as-told = (ap (λ (l : List ℕ). get_or l 3 0) (sym drift-tells), ap (λ (l : List ℕ). get_or l 4 0) (sym drift-tells))

-- The sets are within tolerance, and the theorem holds of them.
pub within-tolerance : WithinTolerance tolerances first second
unfolding number_at value_of word_at
within-tolerance zero l = both (difference-within 1 (pos 2) (pos 3) (omega arith))
within-tolerance (suc zero) l = both (difference-within 2 (pos 5) (pos 3) (omega arith))
within-tolerance (suc (suc i)) l = absurd (omega arith)

pub no-further : NearFields drift.answer.results drift.out (evaluation first).out (evaluation second).out
no-further =
    evaluated-near third_and_difference (bytes "WW\n") tolerances (zeros 64) (ap (λ (l : List ℕ). get_or l 0 0) drift-tells) first second within-tolerance 0 0 (zeros 80) (zeros 80)
    (ap (λ (l : List ℕ). get_or l 0 0) both-yield.0) (ap (λ (l : List ℕ). get_or l 0 0) both-yield.1)

-- A machine of it starts, as the theorem about verdicts taken asks.
pub starts : (started third_and_difference (bytes "WW\n") 1 (zeros 40390)).answer.refusal ≡ 0
unfolding started zeros capacity_in verdict_of bytes third_and_difference
starts = refl
