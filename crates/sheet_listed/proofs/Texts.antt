-- Laws of specs/Texts.antt, and what only they need.
use Rattle.std.specs.Prelude.{ℕ, zero, suc, ◌+◌, ◌*◌, ◌-◌, ◌≤◌, ◌<◌, ◌≡◌, true, ◌&&◌, List, [], ◌∷◌, ◌++◌, map, ltb, length, get_or, take, drop, Ok, Err}
use Rattle.std.proofs.Math.Path.{refl}
use Rattle.std.proofs.Common.{sym, ap, ◌∙◌, length-drop, take-append-drop, length-take-le, get_or-take, get_or-drop, drop-drop, arith}
use Rattle.std.proofs.lemmas.Bool.{false≢true}
use Rattle.std.proofs.Math.Dec.{leb}
use borrow.Author.Tests.{eqb-true, leb-true, ltb-true, lt-ltb}
use Rattle.formula.specs.Results.{Check, Verdict}
use Rattle.formula.specs.Sheet.{row_count, lines_in, lines_of, fields_in, fields_of, field, shape_at, named_in}
use Rattle.formula.specs.SheetLaws.{line_fields}
use Rattle.formula.proofs.SheetLaws.{fields-length}
use Rattle.formula.specs.Tests.{fields_well, ranges_well, names_well, all_between, lowest, is-passed, sheet_of, row_tests, formula_tests, verdict_by}
use Rattle.formula.proofs.TestLaws.{passed-each}
use Rattle.formula.specs.Verdicts.{then}
use Rattle.formula.proofs.Verdicts.{then-behind}
use Rattle.formula.proofs.TreeLaws.{and-true}
use Rattle.formula.specs.FaultRows.{Among}
use Rattle.sheet_read.specs.Reading.{row_verdict}
use Rattle.sheet_tidied.specs.Text.{row_text, sheet_text}
use Rattle.sheet_tidied.proofs.FieldTexts.{line-printed}
use Rattle.sheet_tidied.specs.Rowwise.{Rowwise}
use Rattle.sheet_tidied.proofs.Rowwise.{passes-rowwise}
use Rattle.sheet_listed.specs.Small.{is_passed, passes_nine, modest, modest_row, is_small, small_row, small_rows}
use Rattle.sheet_listed.proofs.RowLaws.{tests-small, row_listed}
use Rattle.sheet_listed.specs.Texts.{fives, rows_of, Written, SmallSheet, field_row}

pub fives-length : (n : ℕ) (t : List ℕ) → length (fives n t) ≡ n
unfolding fives
fives-length zero t = refl
fives-length (suc n) t = ap suc (fives-length n (drop 5 t))

pub fives-at : (n : ℕ) (t : List ℕ) (i : ℕ) → i < n → get_or (fives n t) i [] ≡ take 5 (drop (5 * i) t)
unfolding fives
fives-at zero t i h = absurd (omega arith)
fives-at (suc n) t zero h = refl
fives-at (suc n) t (suc i) h =
    let e : 5 + 5 * i ≡ 5 * suc i = omega arith in
    fives-at n (drop 5 t) i (omega arith) ∙ ap (take 5) (drop-drop (5 * i) 5 t ∙ ap (λ (k : ℕ). drop k t) e)

pub rows-length : (s : List ℕ) → length (rows_of s) ≡ row_count s
unfolding rows_of
rows-length s = fives-length (row_count s) (fields_of s)

-- Field j of row i + 1.
pub row_field : (s : List ℕ) (i j : ℕ) → i < row_count s → j < 5 → get_or (get_or (rows_of s) i []) j 0 ≡ field (fields_of s) (i + 1) j
unfolding rows_of
row_field s i j h k =
    let t = fields_of s in
    let e : 5 * i + j ≡ 5 * (i + 1 - 1) + j = omega arith in
    ap (λ (l : List ℕ). get_or l j 0) (fives-at (row_count s) t i h) ∙ get_or-take 5 (drop (5 * i) t) j 0 k ∙ get_or-drop (5 * i) t j 0 ∙ ap (λ (m : ℕ). get_or t m 0) e

written-text : (l : List ℕ) → length l ≡ 31 → Written l → row_text (line_fields l) ≡ l
unfolding fields_well
written-text l e h = line-printed l e h.0 h.1

pub text-more : (r : List ℕ) (rs : List (List ℕ)) → sheet_text (r ∷ rs) ≡ row_text r ++ sheet_text rs
unfolding sheet_text
text-more r rs = refl

lines-count : (n : ℕ) (s : List ℕ) → length (lines_in n s) ≡ n
unfolding lines_in
lines-count zero s = refl
lines-count (suc n) s = ap suc (lines-count n (drop 31 s))

-- Whole lines are the text of their fields.
lines-printed : (n : ℕ) (s : List ℕ) → length s ≡ 31 * n → ((i : ℕ) → i < n → Written (get_or (lines_in n s) i [])) → sheet_text (map line_fields (lines_in n s)) ≡ s
unfolding lines_in
lines-printed zero [] l h = unfold sheet_text in refl
lines-printed zero (x ∷ s) l h = absurd (omega arith)
lines-printed (suc n) s l h =
    text-more (line_fields (take 31 s)) (map line_fields (lines_in n (drop 31 s)))
    ∙ ap (λ (x : List ℕ). x ++ sheet_text (map line_fields (lines_in n (drop 31 s)))) (written-text (take 31 s) (length-take-le 31 s (omega arith)) (h 0 (omega arith)))
    ∙ ap (λ (x : List ℕ). take 31 s ++ x) (lines-printed n (drop 31 s) (length-drop 31 s ∙ omega arith) (λ i u. h (suc i) (omega arith)))
    ∙ take-append-drop 31 s

rows-lines : (ls : List (List ℕ)) → fives (length ls) (fields_in ls) ≡ map line_fields ls
unfolding fives fields_in line_fields
rows-lines [] = refl
rows-lines (l ∷ ls) = ap (λ (x : List (List ℕ)). line_fields l ∷ x) (rows-lines ls)

pub rows-by-line : (s : List ℕ) → rows_of s ≡ map line_fields (lines_of s)
unfolding rows_of fields_of lines_of
rows-by-line s = ap (λ (n : ℕ). fives n (fields_in (lines_in (row_count s) s))) (sym (lines-count (row_count s) s)) ∙ rows-lines (lines_in (row_count s) s)

-- A sheet that passes tests 1 to 3 is the text of its rows.
pub rowwise-text : (s : List ℕ) → Rowwise s → s ≡ sheet_text (rows_of s)
unfolding lines_of fields_well
rowwise-text s ok = sym (ap sheet_text (rows-by-line s) ∙ lines-printed (row_count s) s ok.bytes written)
  where
    written : (i : ℕ) → i < row_count s → Written (get_or (lines_in (row_count s) s) i [])
    written i u =
        let e : i + 1 - 1 ≡ i = omega arith in
        let f = ok.formed (i + 1) (omega arith) (omega arith) in
        let g = ok.ended (i + 1) (omega arith) (omega arith) in
        (rw e at f, eqb-true (get_or (get_or (lines_in (row_count s) s) i []) 30 0) 10 (rw e at g))

-- ---- what a small sheet has
passed-nine : (s : List ℕ) → passes_nine s ≡ true → row_verdict s ≡ Ok tt
unfolding passes_nine row_verdict
passed-nine s h = go (verdict_by row_tests (sheet_of s)) refl (ap is_passed (sym (then-behind (sheet_of s) row_tests formula_tests)) ∙ h)
  where
    go : (v : Verdict) → verdict_by row_tests (sheet_of s) ≡ v → is_passed (then v (verdict_by formula_tests (sheet_of s))) ≡ true → verdict_by row_tests (sheet_of s) ≡ Ok tt
    go (Ok _) e i = e
    go (Err why) e i = absurd (false≢true i)

is-well : (c : Check) → is-passed c ≡ true → c ≡ Ok tt
is-well (Ok _) h = refl
is-well (Err r) h = absurd (false≢true h)

pub small-has : (s : List ℕ) → is_small s ≡ true → SmallSheet s
unfolding is_small
small-has s h =
    let each : Check = lowest (row_count s) (modest_row (fields_of s)) in
    let x = and-true (passes_nine s && leb (row_count s) 5) (is-passed each) h in
    let y = and-true (passes_nine s) (leb (row_count s) 5) x.0 in
    record {
      rowwise = passes-rowwise s (passed-nine s y.0);
      few = leb-true (row_count s) 5 y.1;
      modestly = passed-each (row_count s) (modest_row (fields_of s)) (is-well each x.1);
    }

-- A small sheet is the text of its rows.
pub small-text : (s : List ℕ) → is_small s ≡ true → s ≡ sheet_text (rows_of s)
small-text s h = rowwise-text s (small-has s h).rowwise

-- ---- its rows
five-of : (q : List ℕ) → length q ≡ 5 → q ≡ get_or q 0 0 ∷ get_or q 1 0 ∷ get_or q 2 0 ∷ get_or q 3 0 ∷ get_or q 4 0 ∷ []
five-of [] h = absurd (omega arith)
five-of (k ∷ []) h = absurd (omega arith)
five-of (k ∷ a ∷ []) h = absurd (omega arith)
five-of (k ∷ a ∷ b ∷ []) h = absurd (omega arith)
five-of (k ∷ a ∷ b ∷ c ∷ []) h = absurd (omega arith)
five-of (k ∷ a ∷ b ∷ c ∷ d ∷ []) h = refl
five-of (k ∷ a ∷ b ∷ c ∷ d ∷ e ∷ q) h = absurd (omega arith)

row-size : (s : List ℕ) (i : ℕ) → i < row_count s → length (get_or (rows_of s) i []) ≡ 5
unfolding rows_of
row-size s i u =
    let t = fields_of s in
    ap length (fives-at (row_count s) t i u) ∙ length-take-le 5 (drop (5 * i) t) (rw (length-drop (5 * i) t) (omega (arith, fields-length s)))

pub row-fields : (s : List ℕ) (i : ℕ) → i < row_count s → get_or (rows_of s) i [] ≡ field_row (fields_of s) (i + 1)
row-fields s i u =
    five-of (get_or (rows_of s) i []) (row-size s i u)
    ∙ rw (row_field s i 0 u (omega arith), row_field s i 1 u (omega arith), row_field s i 2 u (omega arith), row_field s i 3 u (omega arith), row_field s i 4 u (omega arith)) refl

more-between : (r m : ℕ) (xs : List ℕ) → r ≤ m → all_between r xs ≡ true → all_between m xs ≡ true
unfolding all_between
more-between r m [] h i = refl
more-between r m (x ∷ xs) h i =
    let a = and-true (leb 1 x && ltb x r) (all_between r xs) i in
    let b = and-true (leb 1 x) (ltb x r) a.0 in
    let c : ltb x m ≡ true = let k = ltb-true x r b.1 in lt-ltb x m (omega arith) in
    rw (b.0, c, more-between r m xs h a.1) refl

module _ (s : List ℕ) (h : is_small s ≡ true) (i : ℕ) (u : i < row_count s) where
  abbrev table : List ℕ
  table = fields_of s

  modest-tests : (1 ≤ field table (i + 1) 0) × (field table (i + 1) 0 ≤ 9) × (modest (shape_at table (i + 1)) ≡ true)
  unfolding modest_row
  modest-tests =
      let m = (small-has s h).modestly (i + 1) (omega arith) (omega arith) in
      let x = and-true (leb 1 (field table (i + 1) 0) && leb (field table (i + 1) 0) 9) (modest (shape_at table (i + 1))) m in
      let y = and-true (leb 1 (field table (i + 1) 0)) (leb (field table (i + 1) 0) 9) x.0 in
      (leb-true 1 (field table (i + 1) 0) y.0, leb-true (field table (i + 1) 0) 9 y.1, x.1)

  -- Row i + 1 of at most five names rows 1 to 4.
  names-below : all_between 5 (named_in (shape_at table (i + 1))) ≡ true
  unfolding names_well
  names-below =
      let k = small-has s h in
      more-between (i + 1) 5 (named_in (shape_at table (i + 1))) (omega (arith, k.few)) (k.rowwise.names (i + 1) (omega arith) (omega arith))

  row_small : small_row (field_row table (i + 1)) ≡ true
  unfolding ranges_well shape_at
  row_small =
      let r = (small-has s h).rowwise.ranged (i + 1) (omega arith) (omega arith) in
      tests-small (field table (i + 1) 1) (field table (i + 1) 2) (field table (i + 1) 3) (field table (i + 1) 4) (field table (i + 1) 0) r names-below modest-tests.2

  pub row-among : Among (get_or (rows_of s) i []) small_rows
  row-among =
      rw (row-fields s i u)
      (row_listed (field table (i + 1) 0) (field table (i + 1) 1) (field table (i + 1) 2) (field table (i + 1) 3) (field table (i + 1) 4) modest-tests.0 modest-tests.1 row_small)
