-- Whether n small rows are a small sheet is a matter of their table alone: test 5, and tests 6 to 9 as the reader makes them.
use Rattle.std.specs.Prelude.{ℕ, ◌-◌, ◌≤◌, ◌≡◌, Bool, false, ◌&&◌, length, get_or, Ok, Err}
use Rattle.std.proofs.Math.Path.{refl, ap}
use Rattle.std.proofs.Common.{◌∙◌, arith}
use Rattle.std.proofs.Math.Bool.{true}
use mathlib.Core.List.{List, [], flatten}
use Rattle.std.proofs.Math.Dec.{leb}
use borrow.Author.Tests.{le-leb}
use Rattle.formula.specs.Results.{Check, Verdict}
use Rattle.formula.specs.Sheet.{row_count, fields_of, field, shape_at, named_in}
use Rattle.formula.specs.Places.{places_of}
use Rattle.formula.specs.Tests.{is-passed, lowest, ranges_well, names_well, sheet_of, row_tests, formula_tests, verdict_by, all_between}
use Rattle.formula.proofs.TestLaws.{passed-each, each-passed}
use Rattle.formula.proofs.TreeLaws.{and-true}
use Rattle.formula.specs.Verdicts.{then}
use Rattle.formula.proofs.Verdicts.{then-behind}
use Rattle.formula.specs.FaultRows.{Among}
use Rattle.sheet_read.specs.Reading.{rows_in, row_verdict}
use Rattle.sheet_tidied.specs.Text.{sheet_text}
use Rattle.sheet_tidied.specs.TextLaws.{Rows as Written, row_shape, row_in_range}
use Rattle.sheet_tidied.proofs.TextLaws.{text-length, text-rows, text-fields, text-ended, text-formed, text-shape, text-range, field-at}
use Rattle.sheet_tidied.specs.Rowwise.{Rowwise}
use Rattle.sheet_tidied.proofs.Rowwise.{rowwise-passes}
use Rattle.sheet_listed.specs.Small.{is_passed, modest, modest_row, passes_nine, is_small, small_row, small_rows}
use Rattle.sheet_listed.specs.Search.{Rows}
use Rattle.sheet_listed.proofs.RowLaws.{listed-row}
use Rattle.sheet_listed.specs.Listed.{RowsListed}
use Rattle.sheet_listed.proofs.Listed.{listed-rows}
use Rattle.sheet_listed.proofs.Contents.{listed-kind}
use Rattle.sheet_listed.proofs.Passing.{not-small, written-passing}

-- The row's own part of a small row.
small-parts : (row : List ℕ) → Among row small_rows → (row_in_range row ≡ true) × (modest (row_shape row) ≡ true)
unfolding small_row
small-parts row a =
    let both = and-true (row_in_range row) (all_between 5 (named_in (row_shape row)) && modest (row_shape row)) (listed-row row a).1 in
    (both.0, (and-true (all_between 5 (named_in (row_shape row))) (modest (row_shape row)) both.1).1)

and_both : (b : Bool) → (b && true && true) ≡ b
and_both true = refl
and_both false = refl

-- Tests 6 to 9 look at fields, rows and places only.
formula-tests : (s : List ℕ) → verdict_by formula_tests (sheet_of s) ≡ verdict_by formula_tests (rows_in (fields_of s) (places_of (fields_of s) (row_count s)) (row_count s))
unfolding verdict_by formula_tests sheet_of
formula-tests s = refl

module _ (rs : Rows) (h : RowsListed (length rs) rs) (some : 1 ≤ length rs) (few : length rs ≤ 5) where
  abbrev s : List ℕ
  s = sheet_text rs

  abbrev t : List ℕ
  t = flatten rs

  abbrev n : ℕ
  n = length rs

  written : Written rs
  written = listed-rows n rs h

  row_of : (r : ℕ) → 1 ≤ r → r ≤ n → Among (get_or rs (r - 1) []) small_rows
  row_of r l u = h.listed (r - 1) (omega arith)

  in-range : (r : ℕ) → 1 ≤ r → r ≤ n → ranges_well t r ≡ true
  in-range r l u = text-range rs written r l u ∙ (small-parts (get_or rs (r - 1) []) (row_of r l u)).0

  modestly : (r : ℕ) → 1 ≤ r → r ≤ n → modest_row t r ≡ true
  unfolding modest_row
  modestly r l u =
      let kind = listed-kind (get_or rs (r - 1) []) (row_of r l u) in
      let e = field-at rs written r 0 l u (omega arith) in
      let own : modest (shape_at t r) ≡ true = ap modest (text-shape rs written r l u) ∙ (small-parts (get_or rs (r - 1) []) (row_of r l u)).1 in
      rw (own, le-leb 1 (field t r 0) (omega (arith, e, kind.0)), le-leb (field t r 0) 9 (omega (arith, e, kind.1))) refl

  rowwise : ((r : ℕ) → 1 ≤ r → r ≤ n → names_well t r ≡ true) → Rowwise s
  rowwise names =
      let e = text-rows rs written in
      record {
        some = omega (arith, e);
        bytes = text-length rs written ∙ omega (arith, e);
        ended = λ r l u. text-ended rs written r l (omega (arith, e));
        few = omega (arith, e);
        formed = λ r l u. text-formed rs written r l (omega (arith, e));
        ranged = λ r l u. rw (text-fields rs written) (in-range r l (omega (arith, e)));
        names = λ r l u. rw (text-fields rs written) (names r l (omega (arith, e)));
      }

  -- Where tests 1 to 5 pass, 6 to 9 decide.
  nine : row_verdict s ≡ Ok tt → passes_nine s ≡ is_passed (verdict_by formula_tests (rows_in t (places_of t n) n))
  unfolding passes_nine row_verdict
  nine e =
      ap is_passed
      (then-behind (sheet_of s) row_tests formula_tests
      ∙ ap (λ (v : Verdict). then v (verdict_by formula_tests (sheet_of s))) e
      ∙ formula-tests s
      ∙ ap (λ (u : List ℕ). verdict_by formula_tests (rows_in u (places_of u (row_count s)) (row_count s))) (text-fields rs written)
      ∙ ap (λ (m : ℕ). verdict_by formula_tests (rows_in t (places_of t m) m)) (text-rows rs written))

  -- The rest holds of small rows.
  by-nine : is_small s ≡ passes_nine s
  unfolding is_small
  by-nine =
      let e : leb (row_count s) 5 ≡ true = le-leb (row_count s) 5 (omega (arith, text-rows rs written)) in
      let m : lowest (row_count s) (modest_row (fields_of s)) ≡ Ok tt = rw (text-fields rs written, text-rows rs written) (each-passed n (modest_row t) modestly) in
      rw (e, m) (and_both (passes_nine s))

  pub small-by-tests : is_small s ≡ (is-passed (lowest n (names_well t)) && is_passed (verdict_by formula_tests (rows_in t (places_of t n) n)))
  small-by-tests = go (lowest n (names_well t)) refl
    where
      go : (c : Check) → lowest n (names_well t) ≡ c → is_small s ≡ (is-passed c && is_passed (verdict_by formula_tests (rows_in t (places_of t n) n)))
      go (Ok _) e = by-nine ∙ nine (rowwise-passes s (rowwise (passed-each n (names_well t) e)))
      go (Err r) e =
          not-small s (λ small. absurd (let z : ◌≡◌ {A = ℕ} 0 1 = cc (e, each-passed n (names_well t) (written-passing rs written small).names) in omega arith))
