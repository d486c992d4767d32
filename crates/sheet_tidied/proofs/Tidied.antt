-- Laws of specs/Tidied.antt, and what only they need.
use Prim.Native.Nat.{ℕ, zero, suc, ◌*◌, ◌-◌, ◌≤◌}
use Rattle.std.specs.Prelude.{◌≡◌, Bool, cond, get_or, Ok}
use Rattle.std.proofs.Math.Path.{refl, ap}
use Rattle.std.proofs.Common.{subst, ◌∙◌, inl, inr, arith}
use Rattle.std.proofs.Math.Bool.{true, false}
use mathlib.Core.List.{List, [], ◌∷◌, map}
use Rattle.std.proofs.Math.ListN.{length}
use borrow.Author.Tests.{le-leb, lt-ltb}
use Rattle.formula.specs.declared.Shape.{Shape}
use Rattle.formula.specs.Sheet.{row_count, lines_of, fields_of, field, shape_at, named_in}
use Rattle.formula.specs.Tests.{ended_at, fields_well, ranges_well, all_between, names_well}
use Rattle.formula.specs.FaultRows.{Among}
use Rattle.formula.specs.TreeLaws.{AllBetween}
use Rattle.sheet_tidied.specs.Text.{sheet_text}
use Rattle.sheet_tidied.specs.Tidy.{is_kept, new_number, new_row, kept_rows, new_rows, tidied}
use Rattle.sheet_read.specs.Reading.{row_verdict}
use Rattle.sheet_tidied.proofs.KeptLaws.{last-kept, kept-names}
use Rattle.sheet_tidied.proofs.NumberLaws.{number-most, number-rises, number-less, number-first, Numbered, numbered, rows-length, row_at}
use Rattle.sheet_tidied.specs.TextLaws.{Row, Rows, row_shape, row_in_range}
use Rattle.sheet_tidied.proofs.TextLaws.{rows_append, text-length, text-rows, text-fields, text-ended, text-formed, text-shape, text-range}
use Rattle.sheet_tidied.specs.ShapeLaws.{renumbered}
use Rattle.sheet_tidied.proofs.ShapeLaws.{names-renumbered, range-renamed, shape-renamed, row-renamed, Listed, listed}
use Rattle.sheet_tidied.specs.Rowwise.{Rowwise}
use Rattle.sheet_tidied.proofs.Rowwise.{passes-rowwise, rowwise-passes, naming}
use Rattle.sheet_tidied.specs.Tidied.{kept_in, Holding}

-- ---- the new rows, whichever are kept
module _ (s : List ℕ) (ok : Rowwise s) where
  -- Test 4 of row r.
  pub listed_at : (r : ℕ) → 1 ≤ r → r ≤ row_count s
      → Listed (field (fields_of s) r 0) (field (fields_of s) r 1) (field (fields_of s) r 2) (field (fields_of s) r 3) (field (fields_of s) r 4) (shape_at (fields_of s) r)
  unfolding ranges_well shape_at
  listed_at r l u = listed (field (fields_of s) r 0) (field (fields_of s) r 1) (field (fields_of s) r 2) (field (fields_of s) r 3) (field (fields_of s) r 4) (ok.ranged r l u)

  -- Every new field fits six characters.
  pub new-row-fits : (k : List Bool) (r : ℕ) → 1 ≤ r → r ≤ row_count s → Row (new_row (fields_of s) k r)
  unfolding new_row
  new-row-fits k r l u =
      row-renamed (new_number k) r (λ x h. let m = number-most k x in omega (arith, ok.few)) (shape_at (fields_of s) r) (listed_at r l u).within ((naming s ok).names r l u)

  pub new-rows-fit : (k : List Bool) (r : ℕ) → r ≤ row_count s → Rows (kept_rows (fields_of s) k r)
  unfolding kept_rows
  new-rows-fit k zero u = tt
  new-rows-fit k (suc r) u = rows_append (kept_rows (fields_of s) k r) _ (new-rows-fit k r (omega arith)) (go (is_kept k (suc r)))
    where
      go : (b : Bool) → Rows (cond b (new_row (fields_of s) k (suc r) ∷ []) [])
      go true = (new-row-fits k (suc r) (omega arith) u, tt)
      go false = tt

module _ (s : List ℕ) (ok : Rowwise s) where
  abbrev k : List Bool
  k = kept_in s

  abbrev f : ℕ → ℕ
  f x = new_number (kept_in s) x

  kept-fit : Rows (new_rows s)
  unfolding new_rows
  kept-fit = new-rows-fit s ok k (row_count s) (omega arith)

  kept-count : length (new_rows s) ≡ f (row_count s)
  unfolding new_rows
  kept-count = rows-length (fields_of s) k (row_count s)

  last-is-kept : is_kept k (row_count s) ≡ true
  last-is-kept = last-kept (fields_of s) (row_count s) (naming s ok) ok.some

  pub holding : Holding s
  unfolding tidied
  holding =
      let bytes : length (sheet_text (new_rows s)) ≡ 31 * length (new_rows s) = text-length (new_rows s) kept-fit in
      let most : length (new_rows s) ≤ row_count s = omega (arith, kept-count, number-most k (row_count s)) in
      record {
        fields = text-fields (new_rows s) kept-fit;
        rows = text-rows (new_rows s) kept-fit;
        some = omega (arith, kept-count, number-first k (row_count s) ok.some last-is-kept);
        most = most;
        bytes = bytes;
        shorter = omega (arith, ok.bytes);
      }

  -- The last row's new number is the new sheet's last.
  pub new-count : row_count (tidied s) ≡ f (row_count s)
  new-count = holding.rows ∙ kept-count

  module _ (r : ℕ) (l : 1 ≤ r) (u : r ≤ row_count s) (h : is_kept k r ≡ true) where
    new-low : 1 ≤ f r
    new-low = number-first k r l h

    new-high : f r ≤ length (new_rows s)
    new-high = omega (arith, kept-count, number-rises k r (row_count s) u)

    standing : get_or (new_rows s) (f r - 1) [] ≡ new_row (fields_of s) k r
    unfolding new_rows
    standing = row_at (fields_of s) k (row_count s) r l u h

    -- A kept row is the new sheet's row at its new number, with new numbers for the rows that it names.
    pub new-shape : shape_at (fields_of (tidied s)) (f r) ≡ renumbered f (shape_at (fields_of s) r)
    unfolding new_row
    new-shape =
        ap (λ (t : List ℕ). shape_at t (f r)) holding.fields
        ∙ text-shape (new_rows s) kept-fit (f r) new-low new-high
        ∙ ap row_shape standing
        ∙ shape-renamed f (shape_at (fields_of s) r) (listed_at s ok r l u).within

    new-range : ranges_well (fields_of (tidied s)) (f r) ≡ true
    unfolding new_row
    new-range =
        ap (λ (t : List ℕ). ranges_well t (f r)) holding.fields
        ∙ text-range (new_rows s) kept-fit (f r) new-low new-high
        ∙ ap row_in_range standing
        ∙ range-renamed f (shape_at (fields_of s) r) (listed_at s ok r l u).within

    -- "A row named is at least 1 and smaller than the row naming it": names rise with the order.
    names-between : (xs : List ℕ) → AllBetween r xs → ((x : ℕ) → Among x xs → is_kept k x ≡ true) → all_between (f r) (map f xs) ≡ true
    unfolding all_between
    names-between [] b g = refl
    names-between (x ∷ xs) b g =
        rw (le-leb 1 (f x) (number-first k x b.0.0 (g x (inl refl))), lt-ltb (f x) (f r) (number-less k x r b.0.1 h))
        (names-between xs b.1 (λ y a. g y (inr a)))

    new-names : names_well (fields_of (tidied s)) (f r) ≡ true
    unfolding names_well
    new-names =
        ap (λ (z : Shape). all_between (f r) (named_in z)) new-shape
        ∙ ap (all_between (f r)) (names-renumbered f (shape_at (fields_of s) r))
        ∙ names-between (named_in (shape_at (fields_of s) r)) ((naming s ok).names r l u) (kept-names (fields_of s) (row_count s) (naming s ok) ok.some r l u h)

  -- A row of the new sheet is some kept row's.
  pub new-from : (j : ℕ) → 1 ≤ j → j ≤ row_count (tidied s) → Numbered k (row_count s) j
  new-from j l u = numbered k (row_count s) j l (omega (arith, new-count))

  new-ended : (r : ℕ) → 1 ≤ r → r ≤ length (new_rows s) → ended_at (lines_of (tidied s)) r ≡ true
  unfolding tidied
  new-ended = text-ended (new_rows s) kept-fit

  new-formed : (r : ℕ) → 1 ≤ r → r ≤ length (new_rows s) → fields_well (lines_of (tidied s)) r ≡ true
  unfolding tidied
  new-formed = text-formed (new_rows s) kept-fit

  pub tidied-rowwise : Rowwise (tidied s)
  tidied-rowwise =
      record {
        some = omega (arith, holding.rows, holding.some);
        bytes = omega (arith, holding.bytes, holding.rows);
        ended = λ r l u. new-ended r l (omega (arith, holding.rows));
        few = omega (arith, holding.rows, holding.most, ok.few);
        formed = λ r l u. new-formed r l (omega (arith, holding.rows));
        ranged = λ j l u. let w = new-from j l u in subst (λ (i : ℕ). ranges_well (fields_of (tidied s)) i ≡ true) w.number (new-range w.row w.low w.high w.kept);
        names = λ j l u. let w = new-from j l u in subst (λ (i : ℕ). names_well (fields_of (tidied s)) i ≡ true) w.number (new-names w.row w.low w.high w.kept);
      }

module _ (s : List ℕ) (h : row_verdict s ≡ Ok tt) where
  -- The new sheet's fields are those of the kept rows, renumbered, one after the other; it has as many rows, and is not longer than the sheet.
  pub tidied-fields : Holding s
  tidied-fields = holding s (passes-rowwise s h)

  -- The new sheet passes tests 1 to 5.
  pub tidied-passes : row_verdict (tidied s) ≡ Ok tt
  tidied-passes = rowwise-passes (tidied s) (tidied-rowwise s (passes-rowwise s h))
