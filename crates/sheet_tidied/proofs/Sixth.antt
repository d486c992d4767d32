-- Laws of specs/Sixth.antt, and what only they need.
use Rattle.std.specs.Prelude.{ℕ, ◌-◌, ◌↔◌, List, ◌++◌, Ok, Err}
use Rattle.std.proofs.Math.Path.{◌≡◌, refl, ap}
use Rattle.std.proofs.Common.{sym, ◌∙◌, eqb-true, arith}
use Rattle.formula.specs.Results.{Check, Verdict, refused}
use Rattle.formula.proofs.Results.{same-row}
use Rattle.formula.specs.declared.Refusal.TheVariants.{Named}
use Rattle.formula.specs.declared.Figures.{Figures}
use Rattle.formula.specs.Refusals.{number_of}
use Rattle.formula.specs.Sheet.{row_count, fields_of}
use Rattle.formula.specs.Tests.{named_once, occurrences, all_named, after_check, verdict_by, verdict_of, tests, row_tests, formula_tests, kind_tests, graph_tests, sheet_of, reading_of}
use Rattle.formula.proofs.TestLaws.{passed-each, each-passed}
use Rattle.formula.specs.Verdicts.{◌also◌, then}
use Rattle.formula.proofs.Verdicts.{then-behind, refusal-says}
use Rattle.formula.proofs.Acceptance.{passed-admissible, reading-refused, rejected-refused, accepted-passed}
use Rattle.formula.specs.PlaceLaws.{Sound}
use Rattle.sheet_read.specs.Reading.{row_verdict}
use Rattle.sheet_tidied.specs.Rowwise.{Rowwise}
use Rattle.sheet_tidied.proofs.Rowwise.{naming}
use Rattle.sheet_tidied.specs.Sixth.{sixth_of, behind}

module _ (s line : List ℕ) where
  -- None of them gives 6.
  later : (row : ℕ) → verdict_by (behind line) (sheet_of s) ≡ refused Named row → ⊥
  unfolding formula_tests kind_tests graph_tests
  later row h =
      refusal-says (sheet_of s) (λ r x. number_of r ≡ 6 → ⊥) (behind line)
      ((λ x e p. omega arith) also (λ x e p. omega arith) also (λ x e p. omega arith) also (λ x e p. omega arith) also (λ x e p. omega arith) also (λ x e p. omega arith) also tt)
      Named row h refl

  first-five : verdict_of s line ≡ Ok tt → row_verdict s ≡ Ok tt
  unfolding verdict_of tests row_verdict
  first-five h = go (verdict_by row_tests (sheet_of s)) refl (sym (then-behind (sheet_of s) row_tests (formula_tests ++ (kind_tests line ++ graph_tests))) ∙ h)
    where
      go : (v : Verdict) → verdict_by row_tests (sheet_of s) ≡ v → then v (verdict_by (formula_tests ++ (kind_tests line ++ graph_tests)) (sheet_of s)) ≡ Ok tt → v ≡ Ok tt
      go (Ok _) e i = refl
      go (Err why) e i = absurd (let z : ◌≡◌ {A = ℕ} 0 1 = cc i in omega arith)

  -- Tests 1 to 5 of an accepted sheet,
  pub accepted-five : (g : Figures) → reading_of s line ≡ Ok g → row_verdict s ≡ Ok tt
  accepted-five g h = first-five (accepted-passed s line g h)

  -- and its test 6
  pub accepted-sixth : (g : Figures) → reading_of s line ≡ Ok g → sixth_of s ≡ Ok tt
  unfolding sixth_of
  accepted-sixth g h = each-passed (row_count s - 1) (λ r. named_once (all_named (fields_of s) (row_count s)) r) (passed-admissible s line (accepted-passed s line g h)).named

  module _ (h : row_verdict s ≡ Ok tt) where
    verdict-is : verdict_of s line ≡ after_check Named (sixth_of s) (verdict_by (behind line) (sheet_of s))
    unfolding verdict_of tests row_verdict verdict_by formula_tests sixth_of sheet_of
    verdict-is =
        then-behind (sheet_of s) row_tests (formula_tests ++ (kind_tests line ++ graph_tests))
        ∙ ap (λ (v : Verdict). then v (verdict_by (formula_tests ++ (kind_tests line ++ graph_tests)) (sheet_of s))) h

    fault-refused : (row : ℕ) → sixth_of s ≡ Err row → verdict_of s line ≡ refused Named row
    unfolding after_check
    fault-refused row e = verdict-is ∙ ap (λ (c : Check). after_check Named c (verdict_by (behind line) (sheet_of s))) e

    refused-fault : (row : ℕ) → verdict_of s line ≡ refused Named row → sixth_of s ≡ Err row
    unfolding after_check
    refused-fault row e = go (sixth_of s) (sym verdict-is ∙ e)
      where
        go : (c : Check) → after_check Named c (verdict_by (behind line) (sheet_of s)) ≡ refused Named row → c ≡ Err row
        go (Ok _) i = absurd (later row i)
        go (Err x) i = ap Err (same-row _ _ _ _ i)

    -- 6 comes exactly where the test finds a row at fault.
    pub sixth-reading : (row : ℕ) → (reading_of s line ≡ refused Named row) ↔ (sixth_of s ≡ Err row)
    sixth-reading row = (λ e. refused-fault row (rejected-refused s line Named row e), λ e. reading-refused s line Named row (fault-refused row e))

-- What tests 5 and 6 say together.
pub sixth-sound : (s : List ℕ) → Rowwise s → sixth_of s ≡ Ok tt → Sound (fields_of s) (row_count s)
unfolding sixth_of
sixth-sound s ok h =
    record {
      named = naming s ok;
      once = λ x l u. eqb-true (occurrences x (all_named (fields_of s) (row_count s))) 1
          (passed-each (row_count s - 1) (λ r. named_once (all_named (fields_of s) (row_count s)) r) h x l (omega arith));
    }
