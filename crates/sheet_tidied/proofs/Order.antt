-- Document 02, Job 8: "renumbers the rest in their old order". The reachable rows are the new sheet's rows, in the same order, each with new numbers for
-- the rows that it names; this fixes the new sheet, since no other numbers rise and are all of 1 to its last. Assumes that tests 1 to 5 pass.
use Rattle.std.specs.Prelude.{ℕ, ◌≤◌, ◌<◌, ◌≡◌, true, List, Ok}
use Rattle.std.proofs.Common.{arith}
use Rattle.formula.specs.Sheet.{row_count, fields_of, shape_at}
use Rattle.sheet_tidied.specs.Tidy.{is_kept, new_number, tidied}
use Rattle.sheet_read.specs.Reading.{row_verdict}
use Rattle.sheet_tidied.specs.Reach.{Reachable}
use Rattle.sheet_tidied.proofs.KeptLaws.{reachable-row, reachable-kept, kept-reachable}
use Rattle.sheet_tidied.proofs.NumberLaws.{number-first, number-less, number-rises}
use Rattle.sheet_tidied.specs.ShapeLaws.{renumbered}
use Rattle.sheet_tidied.proofs.Rowwise.{passes-rowwise, naming}
use Rattle.sheet_tidied.specs.Tidied.{kept_in}
use Rattle.sheet_tidied.proofs.Tidied.{new-count, new-shape, new-from}

module _ (s : List ℕ) where
  abbrev Reached : ℕ → Type 0
  Reached r = Reachable (fields_of s) (row_count s) r

  -- A row's number in the new sheet.
  abbrev pub number_in : ℕ → ℕ
  number_in r = new_number (kept_in s) r

  pub record InOrder : Type 0 where
    -- Every reachable row has a place in the new sheet,
    pub within : (r : ℕ) → Reached r → (1 ≤ number_in r) × (number_in r ≤ row_count (tidied s))
    -- "in their old order",
    pub rises : (q r : ℕ) → Reached q → Reached r → q < r → number_in q < number_in r
    -- every place has one,
    pub onto : (j : ℕ) → 1 ≤ j → j ≤ row_count (tidied s) → (r : ℕ) × Reached r × (number_in r ≡ j)
    -- and there it is the same row, but for the numbers of the rows that it names.
    pub same : (r : ℕ) → Reached r → shape_at (fields_of (tidied s)) (number_in r) ≡ renumbered number_in (shape_at (fields_of s) r)

  module _ (h : row_verdict s ≡ Ok tt) where
    abbrev kept : (r : ℕ) → Reached r → is_kept (kept_in s) r ≡ true
    kept r w = let ok = passes-rowwise s h in reachable-kept (fields_of s) (row_count s) (naming s ok) ok.some r w

    abbrev bounds : (r : ℕ) → Reached r → (1 ≤ r) × (r ≤ row_count s)
    bounds r w = let ok = passes-rowwise s h in reachable-row (fields_of s) (row_count s) (naming s ok) ok.some r w

    pub in_order : InOrder
    in_order =
        let ok = passes-rowwise s h in
        record {
          within = λ r w. (number-first (kept_in s) r (bounds r w).0 (kept r w), omega (arith, new-count s ok, number-rises (kept_in s) r (row_count s) (bounds r w).1));
          rises = λ q r v w l. number-less (kept_in s) q r l (kept r w);
          onto = λ j l u.
              let w = new-from s ok j l u in
              (w.row, kept-reachable (fields_of s) (row_count s) (naming s ok) ok.some w.row w.low w.kept, w.number);
          same = λ r w. new-shape s ok r (bounds r w).0 (bounds r w).1 (kept r w);
        }
