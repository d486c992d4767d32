-- Laws of specs/Acceptance.antt, and what only they need.
use Rattle.std.specs.Prelude.{ℕ, ◌-◌, ◌≤◌, Bool, true, false, ◌↔◌, List, [], ◌∷◌, ◌++◌, leb, Ok, Err}
use Rattle.std.proofs.Math.Path.{◌≡◌, refl, ap}
use Rattle.std.proofs.Common.{sym, ◌∙◌, arith}
use borrow.Author.Tests.{leb-true, le-leb}
use Rattle.names.specs.Names.{without, one, trigger}
use Rattle.names.proofs.Sets.{length-members, size-le}
use Rattle.formula.specs.Results.{Verdict, refused}
use Rattle.formula.proofs.Results.{same-row}
use Rattle.formula.specs.declared.Refusal.{Refusal}
use Rattle.formula.specs.declared.Refusal.TheVariants.{Layout, Rows}
use Rattle.formula.specs.declared.Figures.{Figures}
use Rattle.formula.specs.Sheet.{row_count, lines_of, fields_of, named_in, shape_at}
use Rattle.formula.specs.Tree.{exp_of, formula_of}
use Rattle.formula.specs.Places.{places_of, is_in_body, node_in}
use Rattle.formula.specs.Widths.{width, wide_e, fitting_e}
use Rattle.formula.specs.Free.{free_e, inputs_of}
use Rattle.formula.specs.Tests.{lowest, whole, laid_out, few_rows, fields_well, ranges_well, names_well, named_once, all_named, placed_well, wide_node, widths_well, bound_well, line_fits, kinds_kept, operators_of, after_check, verdict_by, verdict_of, tests, row_tests, formula_tests, kind_tests, graph_tests, sheet_of, figures_of, answer_by, reading_of}
use Rattle.formula.proofs.TestLaws.{passed-each, each-passed, lowest-fault, whole-true, whole-zero}
use Rattle.formula.specs.Verdicts.{Each, ◌also◌, Passes}
use Rattle.formula.proofs.Verdicts.{all_pass, later-says}
use Rattle.formula.specs.Kinds.{kinded}
use Rattle.formula.specs.TreeLaws.{Named as Naming-well}
use Rattle.formula.proofs.TreeLaws.{all-between, and-true}
use Rattle.formula.proofs.PlaceLaws.{last-place}
use Rattle.formula.proofs.RowsMet.{lowest-broken}
use Rattle.formula.specs.Acceptance.{Admissible, Kinded, numbers_of, Low, In-sheet, Modest}

module _ (s line : List ℕ) where
  abbrev t : List ℕ
  t = fields_of s

  abbrev n : ℕ
  n = row_count s

  abbrev p : List Bool
  p = places_of t n

  each-accepted : Each (Passes (sheet_of s)) (tests line) → Admissible s × Kinded s line
  unfolding tests row_tests formula_tests kind_tests graph_tests sheet_of
  each-accepted (first, (second, (third, (fourth, (fifth, (sixth, (seventh, (eighth, (ninth, (told, (kept, (tenth, end)))))))))))) = (
    record {
      laid = whole-true (laid_out s (lines_of s)) first;
      few = leb-true n 200 (whole-true (few_rows s) second);
      formed = passed-each n (fields_well (lines_of s)) third;
      ranged = passed-each n (ranges_well t) fourth;
      names = passed-each n (names_well t) fifth;
      named = passed-each (n - 1) (λ r. named_once (all_named t n) r) sixth;
      placed = passed-each n (placed_well t p) seventh;
      wide = passed-each n (widths_well t p) eighth;
      bound = passed-each n (bound_well t p) ninth;
      operators = leb-true (operators_of t n) 1024 (whole-true (leb (operators_of t n) 1024) tenth);
    },
    record { told = whole-true (line_fits t n line) told; kept = kept },
  )

  passed-both : verdict_of s line ≡ Ok tt → Admissible s × Kinded s line
  unfolding verdict_of
  passed-both h = each-accepted ((all_pass (sheet_of s) (tests line)).0 h)

  pub passed-admissible : verdict_of s line ≡ Ok tt → Admissible s
  passed-admissible h = (passed-both h).0

  pub passed-kinded : verdict_of s line ≡ Ok tt → Kinded s line
  passed-kinded h = (passed-both h).1

  pub admissible-passed : Admissible s → Kinded s line → verdict_of s line ≡ Ok tt
  unfolding verdict_of tests row_tests formula_tests kind_tests graph_tests sheet_of
  admissible-passed h k =
      (all_pass (sheet_of s) (tests line)).1
      (ap whole h.laid
      also ap whole (le-leb n 200 h.few)
      also each-passed n (fields_well (lines_of s)) h.formed
      also each-passed n (ranges_well t) h.ranged
      also each-passed n (names_well t) h.names
      also each-passed (n - 1) (λ r. named_once (all_named t n) r) h.named
      also each-passed n (placed_well t p) h.placed
      also each-passed n (widths_well t p) h.wide
      also each-passed n (bound_well t p) h.bound
      also ap whole k.told
      also k.kept
      also ap whole (le-leb (operators_of t n) 1024 h.operators)
      also tt)

  by-verdict : (v : Verdict) (f g : Figures) → answer_by v f ≡ Ok g → v ≡ Ok tt
  unfolding answer_by
  by-verdict (Ok _) f g h = refl
  by-verdict (Err why) f g h = absurd (let z : ◌≡◌ {A = ℕ} 0 1 = cc h in omega arith)

  pub reading-passed : verdict_of s line ≡ Ok tt → reading_of s line ≡ Ok (figures_of s)
  unfolding reading_of answer_by
  reading-passed h = ap (λ (x : Verdict). answer_by x (figures_of s)) h

  pub reading-refused : (r : Refusal) (row : ℕ) → verdict_of s line ≡ refused r row → reading_of s line ≡ refused r row
  unfolding reading_of answer_by
  reading-refused r row h = ap (λ (x : Verdict). answer_by x (figures_of s)) h

  refused-by : (v : Verdict) (f : Figures) (r : Refusal) (row : ℕ) → answer_by v f ≡ refused r row → v ≡ refused r row
  unfolding answer_by
  refused-by (Ok _) f r row h = absurd (let z : ◌≡◌ {A = ℕ} 0 1 = cc h in omega arith)
  refused-by (Err why) f r row h = cc h

  figures-by : (v : Verdict) (f g : Figures) → answer_by v f ≡ Ok g → g ≡ f
  unfolding answer_by
  figures-by (Ok _) f g h = cc h
  figures-by (Err why) f g h = absurd (let z : ◌≡◌ {A = ℕ} 0 1 = cc h in omega arith)

  -- An accepted reading has the sheet's figures, and its verdict is passed; a rejected one has its verdict's refusal and row.
  pub accepted-passed : (g : Figures) → reading_of s line ≡ Ok g → verdict_of s line ≡ Ok tt
  unfolding reading_of
  accepted-passed g h = by-verdict (verdict_of s line) (figures_of s) g h

  pub accepted-figures : (g : Figures) → reading_of s line ≡ Ok g → g ≡ figures_of s
  unfolding reading_of
  accepted-figures g h = figures-by (verdict_of s line) (figures_of s) g h

  pub rejected-refused : (r : Refusal) (row : ℕ) → reading_of s line ≡ refused r row → verdict_of s line ≡ refused r row
  unfolding reading_of
  rejected-refused r row h = refused-by (verdict_of s line) (figures_of s) r row h

  -- A sheet is accepted with its kinds line, with its figures, if and only if each test passes.
  pub accepted-iff : (reading_of s line ≡ Ok (figures_of s)) ↔ Admissible s × Kinded s line
  unfolding reading_of
  accepted-iff = (λ h. passed-both (by-verdict (verdict_of s line) (figures_of s) (figures_of s) h), λ h. reading-passed (admissible-passed h.0 h.1))

pub test-numbers : (line : List ℕ) → numbers_of (tests line) ≡ 1 ∷ 2 ∷ 3 ∷ 4 ∷ 5 ∷ 6 ∷ 7 ∷ 8 ∷ 9 ∷ 17 ∷ 18 ∷ 10 ∷ []
unfolding tests row_tests formula_tests kind_tests graph_tests
test-numbers line = refl

module _ (s : List ℕ) where
  none-at-fault : (b : Bool) (row : ℕ) → whole b ≡ Err row → row ≤ row_count s
  none-at-fault b row e = omega (arith, whole-zero b row e)

  one-of-rows : (well : ℕ → Bool) (row : ℕ) → lowest (row_count s) well ≡ Err row → row ≤ row_count s
  one-of-rows well row e = (lowest-fault (row_count s) well row e).1

  but_last : (well : ℕ → Bool) (row : ℕ) → lowest (row_count s - 1) well ≡ Err row → row ≤ row_count s
  but_last well row e = omega (arith, (lowest-fault (row_count s - 1) well row e).1)

  rows-in-sheet : In-sheet s row_tests
  unfolding row_tests sheet_of
  rows-in-sheet = none-at-fault (laid_out s (lines_of s)) also none-at-fault (few_rows s) also one-of-rows _ also one-of-rows _ also one-of-rows _ also tt

  -- Behind test 5, which says that the rows named are the sheet's.
  later-in-sheet : Naming-well (fields_of s) (row_count s) → (line : List ℕ) → In-sheet s (formula_tests ++ (kind_tests line ++ graph_tests))
  unfolding formula_tests kind_tests graph_tests sheet_of kinds_kept
  later-in-sheet ok line =
      but_last _ also one-of-rows _ also one-of-rows _ also one-of-rows _
      also none-at-fault (line_fits (fields_of s) (row_count s) line) also (λ row e. (lowest-broken kinded (fields_of s) (row_count s) ok _ row e).last)
      also none-at-fault (leb (operators_of (fields_of s) (row_count s)) 1024) also tt

  naming-from : ((r : ℕ) → 1 ≤ r → r ≤ row_count s → names_well (fields_of s) r ≡ true) → Naming-well (fields_of s) (row_count s)
  unfolding names_well
  naming-from h = record { names = λ r a b. all-between r (named_in (shape_at (fields_of s) r)) (h r a b) }

  pub each-naming : Each (Passes (sheet_of s)) row_tests → Naming-well (fields_of s) (row_count s)
  unfolding row_tests sheet_of
  each-naming (first, (second, (third, (fourth, (fifth, end))))) = naming-from (passed-each (row_count s) (names_well (fields_of s)) fifth)

  -- A refusal's row is 0 or one of the sheet's.
  pub row-in-sheet : (line : List ℕ) (r : Refusal) (row : ℕ) → verdict_of s line ≡ refused r row → row ≤ row_count s
  unfolding verdict_of tests
  row-in-sheet line =
      later-says (sheet_of s) (λ k x. x ≤ row_count s) row_tests (formula_tests ++ (kind_tests line ++ graph_tests)) rows-in-sheet
      (λ h. later-in-sheet (each-naming h) line)

module _ (s line : List ℕ) where
  pub layout-refused : laid_out s (lines_of s) ≡ false → verdict_of s line ≡ refused Layout 0
  unfolding verdict_of verdict_by after_check tests row_tests sheet_of
  layout-refused e = rw e refl

  pub rows-refused : laid_out s (lines_of s) ≡ true → few_rows s ≡ false → verdict_of s line ≡ refused Rows 0
  unfolding verdict_of verdict_by after_check tests row_tests sheet_of
  rows-refused e f = rw (e, f) refl

  pub low-row : Low (verdict_of s line)
  low-row k row e = go (laid_out s (lines_of s)) (few_rows s) refl refl
    where
      go : (a b : Bool) → laid_out s (lines_of s) ≡ a → few_rows s ≡ b → row ≤ 200
      go a true p q = omega (arith, row-in-sheet s line k row e, leb-true (row_count s) 200 q)
      go false false p q = let i : 0 ≡ row = same-row _ _ _ _ (sym (layout-refused p) ∙ e) in omega arith
      go true false p q = let i : 0 ≡ row = same-row _ _ _ _ (sym (rows-refused p q) ∙ e) in omega arith

wide-last : (s : List ℕ) → 1 ≤ row_count s → Admissible s → width (formula_of s) ≤ 16
unfolding formula_of widths_well wide_node node_in wide_e names_well
wide-last s h ok =
    let naming = naming-from s ok.names in
    let e : is_in_body (places_of (fields_of s) (row_count s)) (row_count s) ≡ false = last-place (fields_of s) (row_count s) naming h in
    let wide : wide_node (node_in (is_in_body (places_of (fields_of s) (row_count s)) (row_count s)) (fields_of s) (row_count s)) ≡ true = ok.wide (row_count s) h (omega arith) in
    let last : wide_e (exp_of (fields_of s) (row_count s)) ≡ true = sym (ap (λ (b : Bool). wide_node (node_in b (fields_of s) (row_count s))) e) ∙ wide in
    leb-true (width (exp_of (fields_of s) (row_count s))) 16 (and-true (leb (width (exp_of (fields_of s) (row_count s))) 16) (fitting_e (exp_of (fields_of s) (row_count s))) last).0

pub modest : (s : List ℕ) → 1 ≤ row_count s → Admissible s → Modest (figures_of s)
unfolding figures_of operators_of formula_of inputs_of
modest s h ok =
    let f = without (free_e (exp_of (fields_of s) (row_count s))) (one trigger) in
    record {
      rows = ok.few;
      operators = ok.operators;
      inputs = let a = length-members f in let b = size-le f in omega arith;
      results = wide-last s h ok;
    }
