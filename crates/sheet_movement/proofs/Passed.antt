-- What 20 and 21 say of a sheet that passes them, with its kinds line and tolerances. Assumes nothing.
use Rattle.std.specs.Prelude.{ℕ, ◌*◌, ◌≡◌, refl, true, List, eqb, Ok, Err}
use Rattle.std.proofs.Common.{sym, ◌∙◌, arith}
use Rattle.std.proofs.Math.ListN.{length}
use borrow.Author.Tests.{eqb-true}
use Rattle.formula.specs.Results.{Verdict}
use Rattle.formula.specs.Sheet.{row_count, fields_of}
use Rattle.formula.specs.Tree.{formula_of}
use Rattle.formula.proofs.TreeLaws.{and-true}
use Rattle.formula.specs.Free.{free_e, inputs_of}
use Rattle.formula.specs.Tests.{tests, sheet_of, verdict_by, verdict_of}
use Rattle.formula.proofs.TestLaws.{whole-true}
use Rattle.formula.specs.Verdicts.{then}
use Rattle.formula.proofs.Verdicts.{then-behind, all_pass}
use Rattle.formula.specs.Acceptance.{Admissible}
use Rattle.formula.proofs.Acceptance.{passed-admissible}
use Rattle.meaning.proofs.Accepted.{names-earlier, has-rows}
use Rattle.sheet_movement.specs.Sorts.{sorts_kept}
use Rattle.sheet_movement.specs.Moves.{all_within, numbers_from, tolerances_well, fits_e, input_moves, movements_fit, drift_tests, drift_verdict, result_moves}
use Rattle.sheet_movement.specs.Drifts.{Drifts}
use Rattle.sheet_movement.proofs.Drifts.{sorts-drift}
use Rattle.sheet_movement.proofs.Numbers.{fits-within}

then-passed : (v w : Verdict) → then v w ≡ Ok tt → (v ≡ Ok tt) × (w ≡ Ok tt)
then-passed (Ok _) w h = (refl, h)
then-passed (Err why) w h = absurd (let z : ◌≡◌ {A = ℕ} 0 1 = cc h in omega arith)

module _ (s line tolerances : List ℕ) (h : drift_verdict s line tolerances ≡ Ok tt) where
  both-passed : (verdict_of s line ≡ Ok tt) × (verdict_by (drift_tests line tolerances) (sheet_of s) ≡ Ok tt)
  unfolding drift_verdict verdict_of
  both-passed = then-passed _ _ (sym (then-behind (sheet_of s) (tests line) (drift_tests line tolerances)) ∙ h)

  -- 1 to 10, 17 and 18
  pub drift-reads : verdict_of s line ≡ Ok tt
  drift-reads = both-passed.0

  pub drift-admissible : Admissible s
  drift-admissible = passed-admissible s line drift-reads

  sorts-and-fits : (sorts_kept (fields_of s) (row_count s) line ≡ Ok tt) × (movements_fit (fields_of s) (row_count s) tolerances ≡ true)
  unfolding drift_tests sheet_of
  sorts-and-fits =
      let e = (all_pass (sheet_of s) (drift_tests line tolerances)).0 both-passed.1 in
      (e.0, whole-true _ e.1.0)

  -- 20
  pub drift-formula : Drifts (formula_of s)
  unfolding formula_of
  drift-formula = sorts-drift (fields_of s) (row_count s) (names-earlier s drift-admissible) (has-rows s drift-admissible) line sorts-and-fits.0

  fitting : (tolerances_well (length (inputs_of (formula_of s))) tolerances ≡ true) × (fits_e (formula_of s) (input_moves (free_e (formula_of s)) tolerances) ≡ true)
  unfolding movements_fit formula_of
  fitting = and-true _ _ sorts-and-fits.1

  -- 21: a tolerance an input, and every result's number in range
  pub drift-tolerances : length tolerances ≡ 4 * length (inputs_of (formula_of s))
  unfolding tolerances_well
  drift-tolerances =
      eqb-true (length tolerances) (4 * length (inputs_of (formula_of s)))
      (and-true (eqb (length tolerances) (4 * length (inputs_of (formula_of s)))) (all_within (numbers_from (length (inputs_of (formula_of s))) 0 tolerances)) fitting.0).0

  pub drift-numbers : all_within (result_moves s tolerances) ≡ true
  unfolding result_moves
  drift-numbers = fits-within (formula_of s) (input_moves (free_e (formula_of s)) tolerances) fitting.1
