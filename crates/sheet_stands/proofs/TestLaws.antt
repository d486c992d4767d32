-- Laws of the tests: rows named once by a tally, the tests of whole rows in their order, and a small sheet by its tests. Assumes nothing.
use Prim.Native.Nat.{ℕ, ◌+◌, ◌*◌, ◌-◌, ◌≤◌, ◌<◌}
use mathlib.Core.Path.{◌≡◌, refl, sym, ap, ◌∙◌}
use mathlib.Core.Bool.{Bool, true, false, ◌&&◌, false≢true}
use mathlib.Core.List.{List, [], ◌∷◌}
use native.Mathlib.Omega.{arith}
use lib.ListN.{length, replicate}
use borrow.Author.Tests.{le-leb}
use Rattle.formula.specs.Results.{Check, Verdict, refused}
use Rattle.std.specs.Prelude.{Ok, Err}
use Rattle.formula.specs.declared.Refusal.{Refusal}
use Rattle.formula.specs.Sheet.{row_count, fields_of, field, shape_at, named_in}
use Rattle.formula.specs.Places.{places_of}
use Rattle.formula.specs.Tests.{lowest, is-passed, ranges_well, names_well, all_named, named_once, placed_well, widths_well, bound_well, after_check, verdict_by, row_tests, formula_tests, sheet_of}
use Rattle.formula.proofs.SheetLaws.{fields-length}
use Rattle.formula.proofs.TestLaws.{each-passed}
use Rattle.formula.specs.TreeLaws.{AllBetween}
use Rattle.formula.specs.Verdicts.{then}
use Rattle.formula.proofs.Verdicts.{then-behind}
use Rattle.sheet_rows.specs.Tallies.{tallied}
use Rattle.sheet_rows.proofs.RowLaws.{and-true-last, named_by, tallied-row}
use Rattle.sheet_read.specs.Reading.{row_verdict}
use Rattle.sheet_tidied.proofs.Rowwise.{passes-rowwise, rowwise-passes}
use Rattle.sheet_tidy.proofs.KeptLaws.{between-wider}
use Rattle.sheet_listed.specs.Small.{is_passed, modest, modest_row, passes_nine, is_small}
use Rattle.sheet_listed.specs.Search.{once_each}
use Rattle.sheet_listed.proofs.Texts.{small-has}
use Rattle.sheet_listed.proofs.Passing.{not-small}
use Rattle.sheet_stands.specs.Tests.{all_once, formula_passes, tables_pass}

pub is-well : (c : Check) → is-passed c ≡ true → c ≡ Ok tt
is-well (Ok _) h = refl
is-well (Err r) h = absurd (false≢true h)

-- ---- rows named once

-- The last row's names have room in a tally of all rows.
pub last-names : (t : List ℕ) (r : ℕ) → 1 ≤ r → lowest r (names_well t) ≡ Ok tt → AllBetween (r + 1) (named_in (shape_at t r))
last-names t r a h = between-wider r (r + 1) (named_in (shape_at t r)) (omega arith) ((named_by t r h).names r a (omega arith))

pub once-tallied : (t l : List ℕ) (r : ℕ) → lowest r (names_well t) ≡ Ok tt → l ≡ replicate r 0 → (xs : List ℕ) → AllBetween (r + 1) xs
    → all_once (tallied t r l) xs ≡ once_each xs (all_named t r)
once-tallied t l r h z [] b = refl
once-tallied t l r h z (x ∷ xs) b = rw (tallied-row t l r h z x b.0.0 (omega (arith, b.0.1)), once-tallied t l r h z xs b.1) refl

-- ---- tests in their order

two-tests : (i j : Refusal) (a b : Check) (v : Verdict) → is_passed (after_check i a (after_check j b v)) ≡ (is-passed a && (is-passed b && is_passed v))
unfolding after_check
two-tests i j (Ok _) (Ok _) v = refl
two-tests i j (Ok _) (Err r) v = refl
two-tests i j (Err r) b v = refl

pub tables-by : (t : List ℕ) (n : ℕ) (p : List Bool) → tables_pass t n p ≡ (is-passed (lowest n (widths_well t p)) && is-passed (lowest n (bound_well t p)))
unfolding tables_pass verdict_by formula_tests
tables-by t n p =
    two-tests _ _ (lowest n (widths_well t p)) (lowest n (bound_well t p)) (Ok tt)
    ∙ ap (λ (b : Bool). is-passed (lowest n (widths_well t p)) && b) (and-true-last (is-passed (lowest n (bound_well t p))))

pub passes-by : (t : List ℕ) (n : ℕ)
    → formula_passes t n
    ≡ (is-passed (lowest (n - 1) (λ r. named_once (all_named t n) r)) && (is-passed (lowest n (placed_well t (places_of t n))) && tables_pass t n (places_of t n)))
unfolding formula_passes tables_pass verdict_by formula_tests
passes-by t n = two-tests _ _ (lowest (n - 1) (λ r. named_once (all_named t n) r)) (lowest n (placed_well t (places_of t n))) _

-- ---- a small sheet

pub modest-by : (t : List ℕ) (r : ℕ) → 1 ≤ field t r 0 → field t r 0 ≤ 9 → modest_row t r ≡ modest (shape_at t r)
unfolding modest_row
modest-by t r a b = rw (le-leb 1 (field t r 0) a, le-leb (field t r 0) 9 b) refl

module _ (s : List ℕ) where
  pub empty-not-small : length s ≡ 0 → is_small s ≡ true → ⊥
  empty-not-small e h = omega (arith, (small-has s h).rowwise.some)

  pub long-not-small : 155 < length s → is_small s ≡ false
  long-not-small l = not-small s (λ h. omega (arith, (small-has s h).few, (small-has s h).rowwise.bytes))

  pub refused-not-small : (r : Refusal) (row : ℕ) → row_verdict s ≡ refused r row → is_small s ≡ false
  refused-not-small r row e = not-small s (λ h. let z : ◌≡◌ {A = ℕ} 0 1 = cc (e, rowwise-passes s (small-has s h).rowwise) in omega arith)

  pub not-modest : is-passed (lowest (row_count s) (modest_row (fields_of s))) ≡ false → is_small s ≡ false
  not-modest e =
      not-small s (λ h. false≢true (sym e ∙ ap is-passed (each-passed (row_count s) (modest_row (fields_of s)) (small-has s h).modestly)))

  module _ (h : row_verdict s ≡ Ok tt) (t : List ℕ) (e : t ≡ fields_of s) where
    pub table-size : length t ≡ 5 * row_count s
    table-size = ap length e ∙ fields-length s

    pub rows-ranged : lowest (row_count s) (ranges_well t) ≡ Ok tt
    rows-ranged = rw e (each-passed (row_count s) (ranges_well (fields_of s)) (passes-rowwise s h).ranged)

    pub rows_named : lowest (row_count s) (names_well t) ≡ Ok tt
    rows_named = rw e (each-passed (row_count s) (names_well (fields_of s)) (passes-rowwise s h).names)

  by-formula : row_verdict s ≡ Ok tt → passes_nine s ≡ formula_passes (fields_of s) (row_count s)
  unfolding passes_nine row_verdict formula_passes verdict_by formula_tests sheet_of
  by-formula h = ap is_passed (then-behind (sheet_of s) row_tests formula_tests ∙ ap (λ (v : Verdict). then v (verdict_by formula_tests (sheet_of s))) h)

  pub small-decides : row_verdict s ≡ Ok tt → row_count s ≤ 5 → is-passed (lowest (row_count s) (modest_row (fields_of s))) ≡ true
      → is_small s ≡ formula_passes (fields_of s) (row_count s)
  unfolding is_small
  small-decides h few m = rw (le-leb (row_count s) 5 few, m, and-true-last (passes_nine s && true), and-true-last (passes_nine s)) (by-formula h)
