-- Laws of specs/Rowwise.antt, and what only they need.
use Rattle.std.specs.Prelude.{ℕ, ◌*◌, ◌%◌, ◌≤◌, ◌≡◌, ◌↔◌, not, ◌&&◌, List, Ok, Err}
use Rattle.std.proofs.Math.Path.{refl, ap}
use Rattle.std.proofs.Math.Bool.{true, false}
use Rattle.std.proofs.lemmas.Bool.{false≢true}
use Rattle.std.proofs.Math.Dec.{eqb}
use Rattle.std.proofs.Math.ListN.{length}
use borrow.Author.Tests.{leb-true, le-leb, eqb-true, eqb-false, eq-eqb, ne_eqb, not-true}
use native.Mathlib.Omega.{arith}
use Rattle.formula.specs.Results.{Check}
use Rattle.formula.specs.Sheet.{row_count, lines_of, fields_of, shape_at, named_in}
use Rattle.formula.specs.Tests.{ended_at, lowest, whole, is-passed, laid_out, few_rows, fields_well, ranges_well, names_well, row_tests, sheet_of}
use Rattle.formula.proofs.TestLaws.{passed-each, each-passed, whole-true}
use Rattle.formula.specs.Verdicts.{Each, ◌also◌, Passes}
use Rattle.formula.proofs.Verdicts.{all_pass}
use Rattle.formula.specs.TreeLaws.{Named}
use Rattle.formula.proofs.TreeLaws.{and-true, all-between}
use Rattle.sheet_tidied.specs.Tidy.{is_kept, kept_of}
use Rattle.sheet_read.specs.Reading.{row_verdict}
use Rattle.sheet_tidied.specs.Reach.{Reachable}
use Rattle.sheet_tidied.proofs.KeptLaws.{kept-reach}
use Rattle.sheet_tidied.specs.Rowwise.{Rowwise}

is-well : (c : Check) → is-passed c ≡ true → c ≡ Ok tt
is-well (Ok _) h = refl
is-well (Err r) h = absurd (false≢true h)

module _ (s : List ℕ) where
  -- Test 1: whole rows, at least one, each with its line feed.
  laid-rows : laid_out s (lines_of s) ≡ true → (1 ≤ row_count s) × (length s ≡ 31 * row_count s) × ((r : ℕ) → 1 ≤ r → r ≤ row_count s → ended_at (lines_of s) r ≡ true)
  unfolding laid_out
  laid-rows h =
      let both = and-true (not (eqb (length s) 0) && eqb (length s % 31) 0) (is-passed (lowest (row_count s) (ended_at (lines_of s)))) h in
      let each = and-true (not (eqb (length s) 0)) (eqb (length s % 31) 0) both.0 in
      let full : length s ≡ 0 → ⊥ = eqb-false (length s) 0 (not-true (eqb (length s) 0) each.0) in
      let even : length s % 31 ≡ 0 = eqb-true (length s % 31) 0 each.1 in
      (omega arith, omega arith, passed-each (row_count s) (ended_at (lines_of s)) (is-well (lowest (row_count s) (ended_at (lines_of s))) both.1))

  rows-laid : 1 ≤ row_count s → length s ≡ 31 * row_count s → ((r : ℕ) → 1 ≤ r → r ≤ row_count s → ended_at (lines_of s) r ≡ true) → laid_out s (lines_of s) ≡ true
  unfolding laid_out
  rows-laid h e f =
      let full : eqb (length s) 0 ≡ false = ne_eqb (length s) 0 (λ (z : length s ≡ 0). omega arith) in
      let even : eqb (length s % 31) 0 ≡ true = eq-eqb (length s % 31) 0 (omega arith) in
      rw (full, even, each-passed (row_count s) (ended_at (lines_of s)) f) refl

  each-rowwise : Each (Passes (sheet_of s)) row_tests → Rowwise s
  unfolding row_tests sheet_of
  each-rowwise (first, (second, (third, (fourth, (fifth, end))))) =
      let laid = laid-rows (whole-true (laid_out s (lines_of s)) first) in
      record {
        some = laid.0;
        bytes = laid.1;
        ended = laid.2;
        few = leb-true (row_count s) 200 (whole-true (few_rows s) second);
        formed = passed-each (row_count s) (fields_well (lines_of s)) third;
        ranged = passed-each (row_count s) (ranges_well (fields_of s)) fourth;
        names = passed-each (row_count s) (names_well (fields_of s)) fifth;
      }

  rowwise-each : Rowwise s → Each (Passes (sheet_of s)) row_tests
  unfolding row_tests sheet_of
  rowwise-each h =
      ap whole (rows-laid h.some h.bytes h.ended)
      also ap whole (le-leb (row_count s) 200 h.few)
      also each-passed (row_count s) (fields_well (lines_of s)) h.formed
      also each-passed (row_count s) (ranges_well (fields_of s)) h.ranged
      also each-passed (row_count s) (names_well (fields_of s)) h.names
      also tt

  pub passes-rowwise : row_verdict s ≡ Ok tt → Rowwise s
  unfolding row_verdict
  passes-rowwise h = each-rowwise ((all_pass (sheet_of s) row_tests).0 h)

  pub rowwise-passes : Rowwise s → row_verdict s ≡ Ok tt
  unfolding row_verdict
  rowwise-passes h = (all_pass (sheet_of s) row_tests).1 (rowwise-each h)

  -- Test 5 by the rows that a row names.
  pub naming : Rowwise s → Named (fields_of s) (row_count s)
  unfolding names_well
  naming h = record { names = λ r a b. all-between r (named_in (shape_at (fields_of s) r)) (h.names r a b) }

-- "drops every row not reachable from the last": a row is kept if and only if it is reachable from the last.
pub kept-iff : (s : List ℕ) → row_verdict s ≡ Ok tt → (r : ℕ) → 1 ≤ r → r ≤ row_count s
    → (is_kept (kept_of (fields_of s) (row_count s)) r ≡ true) ↔ Reachable (fields_of s) (row_count s) r
kept-iff s h r l u = let ok = passes-rowwise s h in kept-reach (fields_of s) (row_count s) (naming s ok) ok.some r l
