-- The tests in order: what passes says what the next test may rest on, and the first fault is the verdict.
use Prim.Native.Nat.{ℕ, ◌+◌, ◌*◌, ◌-◌, ◌%◌, ◌≤◌}
use mathlib.Core.Path.{◌≡◌, refl, sym, ap, subst, ◌∙◌}
use mathlib.Core.Bool.{Bool, true, false, not, cond, ◌&&◌, false≢true}
use mathlib.Core.List.{List, ◌++◌}
use native.Mathlib.Omega.{arith}
use lib.Dec.{leb, eqb}
use lib.ListN.{length, get_or, take}
use lib.Seq.{paste, take-paste, take_all}
use borrow.Author.Tests.{leb-true, eqb-true, eqb-false, not-true}
use Rattle.formula.specs.Results.{Check, Verdict, refused}
use Rattle.std.specs.Prelude.{Result, Ok, Err, Option, Some, None}
use Rattle.std.specs.Option.{ok_or}
use Rattle.formula.specs.declared.Refused.{Refused}
use Rattle.formula.specs.declared.Refusal.{Refusal}
use Rattle.formula.specs.declared.Refusal.TheVariants.{Layout, Rows, Malformed, Range, Naming, Named, StrayIter, Width, Unused, KindsLine, KindsBroken, Operators}
use Rattle.formula.specs.Sheet.{row_count, lines_of, fields_of}
use Rattle.formula.proofs.SheetLaws.{fields-length}
use Rattle.formula.specs.Tree.{exp_of}
use Rattle.formula.specs.Places.{Node, expression, node_in, is_in_body, places_of}
use Rattle.formula.proofs.PlaceLaws.{last-place}
use Rattle.formula.specs.Widths.{width}
use Rattle.formula.specs.Free.{free_e, inputs_of}
use Rattle.formula.specs.Kinds.{kinded}
use Rattle.formula.specs.Faults.{line_well, input_kinds, kind_check}
use Rattle.formula.specs.Tests.{after_check, whole, is-passed, lowest, ended_at, laid_out, few_rows, fields_well, ranges_well, names_well, named_once, all_named, placed_well, widths_well, bound_well, line_fits, kinds_kept, operators_of, verdict_of, verdict_by, tests, row_tests, formula_tests, kind_tests, graph_tests, sheet_of}
use Rattle.formula.proofs.TestLaws.{passed-each, whole-true}
use Rattle.formula.specs.Verdicts.{Each, Passes, then}
use Rattle.formula.proofs.Verdicts.{all_pass, then-behind}
use Rattle.formula.proofs.TreeLaws.{and-true}
use Rattle.sheet_fields.specs.Decoding.{seen}
use Rattle.names.specs.Names.{mask}
use Rattle.sheet_tables.specs.Nodes.{node_at, returned_in, free_in, Holds}
use Rattle.sheet_tables.specs.Ready.{Ready}
use Rattle.sheet_count.specs.Counts.{total_of}
use Rattle.meaning.specs.Rows.{ExpRow, width_in}
use Rattle.meaning.proofs.Accepted.{accepted-rows, last_row}
use Rattle.sheet_read.specs.Reading.{rows_in, row_verdict, kind_verdict, table_verdict, formula_verdict, Rowed}
use Rattle.sheet_rows.proofs.RowLaws.{named_by}

module _ (s : List ℕ) where
  abbrev third : Check
  third = lowest (row_count s) (fields_well (lines_of s))

  abbrev fourth : Check
  fourth = lowest (row_count s) (ranges_well (fields_of s))

  abbrev fifth : Check
  fifth = lowest (row_count s) (names_well (fields_of s))

  pub fault-first : laid_out s (lines_of s) ≡ false → refused Layout 0 ≡ row_verdict s
  unfolding row_verdict verdict_by after_check row_tests sheet_of
  fault-first p = rw p refl

  pub fault-second : laid_out s (lines_of s) ≡ true → few_rows s ≡ false → refused Rows 0 ≡ row_verdict s
  unfolding row_verdict verdict_by after_check row_tests sheet_of
  fault-second p q = rw (p, q) refl

  module _ (p : laid_out s (lines_of s) ≡ true) (q : few_rows s ≡ true) where
    pub rows_few : row_count s ≤ 200
    rows_few = leb-true (row_count s) 200 q

    pub fault-third : (r : ℕ) → third ≡ Err r → refused Malformed r ≡ row_verdict s
    unfolding row_verdict verdict_by after_check row_tests sheet_of
    fault-third r u = rw (p, q, u) refl

    pub fault-fourth : third ≡ Ok tt → (r : ℕ) → fourth ≡ Err r → refused Range r ≡ row_verdict s
    unfolding row_verdict verdict_by after_check row_tests sheet_of
    fault-fourth u r v = rw (p, q, u, v) refl

    pub rows-end : third ≡ Ok tt → fourth ≡ Ok tt → after_check Naming fifth (Ok tt) ≡ row_verdict s
    unfolding row_verdict verdict_by after_check row_tests sheet_of
    rows-end u v = rw (p, q, u, v) refl

  -- What an accepted layout and the tests of rows say.
  pub record Rowwise : Type 0 where
    pub laid : laid_out s (lines_of s) ≡ true
    pub few : few_rows s ≡ true
    pub ranged : fourth ≡ Ok tt
    pub named : fifth ≡ Ok tt

  each_row : Each (Passes (sheet_of s)) row_tests → Rowwise
  unfolding row_tests sheet_of
  each_row (a, (b, (c, (d, (e, end))))) = record { laid = whole-true (laid_out s (lines_of s)) a; few = whole-true (few_rows s) b; ranged = d; named = e }

  pub rowwise : row_verdict s ≡ Ok tt → Rowwise
  unfolding row_verdict
  rowwise h = each_row ((all_pass (sheet_of s) row_tests).0 h)

  pub some-rows : laid_out s (lines_of s) ≡ true → 1 ≤ row_count s
  unfolding laid_out
  some-rows h =
      let both = and-true (not (eqb (length s) 0) && eqb (length s % 31) 0) (is-passed (lowest (row_count s) (ended_at (lines_of s)))) h in
      let each = and-true (not (eqb (length s) 0)) (eqb (length s % 31) 0) both.0 in
      let full : length s ≡ 0 → ⊥ = eqb-false (length s) 0 (not-true (eqb (length s) 0) each.0) in
      let even : length s % 31 ≡ 0 = eqb-true (length s % 31) 0 each.1 in
      omega arith

  -- The table that a passed test 3 leaves.
  pub decoded : (n : ℕ) → n ≡ row_count s → (t l : List ℕ) (c : Check) → l ≡ paste t 0 (fields_of s) (5 * seen n c) → c ≡ Ok tt → 5 * n ≤ length t
      → take (5 * n) l ≡ fields_of s
  decoded n e t l c h p k =
      let z : 0 + 5 * n ≡ 5 * n = omega arith in
      let f : length (fields_of s) ≡ 5 * row_count s = fields-length s in
      let g : 5 * n ≤ length (fields_of s) = omega arith in
      ap (take (5 * n)) (h ∙ ap (λ (x : Check). paste t 0 (fields_of s) (5 * seen n x)) p)
      ∙ subst (λ (j : ℕ). take j (paste t 0 (fields_of s) (5 * n)) ≡ take (5 * n) (fields_of s)) z (take-paste t 0 (fields_of s) (5 * n) (omega arith) g)
      ∙ take_all (5 * n) (fields_of s) (omega arith)

-- Tests 6 and 7 by what each says, before later ones.
module _ (t : List ℕ) (n : ℕ) where
  abbrev sixth : Check
  sixth = lowest (n - 1) (λ k. named_once (all_named t n) k)

  abbrev seventh : Check
  seventh = lowest n (placed_well t (places_of t n))

  module _ (line : List ℕ) where
    pub fault-sixth : (r : ℕ) → sixth ≡ Err r → refused Named r ≡ formula_verdict t n line
    unfolding formula_verdict verdict_by after_check formula_tests
    fault-sixth r u = rw u refl

    pub fault-seventh : sixth ≡ Ok tt → (r : ℕ) → seventh ≡ Err r → refused StrayIter r ≡ formula_verdict t n line
    unfolding formula_verdict verdict_by after_check formula_tests
    fault-seventh u r v = rw (u, v) refl

    pub places-pass : sixth ≡ Ok tt → seventh ≡ Ok tt → table_verdict t (places_of t n) n line ≡ formula_verdict t n line
    unfolding formula_verdict table_verdict verdict_by after_check formula_tests
    places-pass u v = rw (u, v) refl

  -- What tests 4 to 7 say together.
  pub ready : length t ≡ 5 * n → lowest n (ranges_well t) ≡ Ok tt → lowest n (names_well t) ≡ Ok tt → sixth ≡ Ok tt → seventh ≡ Ok tt → Ready t n (places_of t n)
  ready l a b c d =
      record {
        size = l;
        sound = record { named = named_by t n b; once = λ x u v. eqb-true _ 1 (passed-each (n - 1) (λ k. named_once (all_named t n) k) c x u (omega arith)) };
        places = refl;
        ranges = passed-each n (ranges_well t) a;
        iters = passed-each n (placed_well t (places_of t n)) d;
      }

-- ---- the last row

width-in : (b : Bool) (t : List ℕ) (r : ℕ) → returned_in (node_in b t r) ≡ width_in b t r
unfolding node_in width_in
width-in true t r = refl
width-in false t r = refl

module _ (t : List ℕ) (n : ℕ) (p : List Bool) (ok : Ready t n p) (some : 1 ≤ n) where
  last-node : node_at t p n ≡ expression (exp_of t n)
  unfolding node_in
  last-node = ap (λ (q : List Bool). node_at t q n) ok.places ∙ ap (λ (b : Bool). node_in b t n) (last-place t n ok.sound.named some)

  -- Its entries are the formula's.
  pub last-width : (ret : List ℕ) → Holds 0 ret n (λ r. returned_in (node_at t p r)) → get_or ret (n - 1) 0 ≡ width (exp_of t n)
  last-width ret h = h.entry n some (omega arith) ∙ ap returned_in last-node

  pub last-mask : (m : List ℕ) → Holds 0 m n (λ r. mask (free_in (node_at t p r))) → get_or m (n - 1) 0 ≡ mask (free_e (exp_of t n))
  last-mask m h = h.entry n some (omega arith) ∙ ap (λ (z : Node). mask (free_in z)) last-node

  -- What tests 4 to 8 say of it.
  pub last-is : (ret : List ℕ) → length ret ≡ n → lowest n (widths_well t p) ≡ Ok tt → Holds 0 ret n (λ r. returned_in (node_at t p r)) → ExpRow t ret n
  last-is ret size wide h =
      last_row t n ok.sound ret some
      (accepted-rows t n ok.sound ret ok.size (omega arith) ok.ranges
      (subst (λ (q : List Bool). (r : ℕ) → 1 ≤ r → r ≤ n → placed_well t q r ≡ true) ok.places ok.iters)
      (subst (λ (q : List Bool). (r : ℕ) → 1 ≤ r → r ≤ n → widths_well t q r ≡ true) ok.places (passed-each n (widths_well t p) wide))
      (λ r a b. h.entry r a b ∙ width-in (is_in_body p r) t r ∙ ap (λ (q : List Bool). width_in (is_in_body q r) t r) ok.places))

-- ---- tests 17 and 18

module _ (t : List ℕ) (n : ℕ) (line : List ℕ) where
  abbrev inputKindsOf : Check
  inputKindsOf = kind_check kinded t n (input_kinds (free_e (exp_of t n)) line)

  module _ (k : ℕ) (e : k ≡ length (inputs_of (exp_of t n))) where
    fits-as : (b : Bool) → line_well k line ≡ b → line_fits t n line ≡ b
    unfolding line_fits
    fits-as b h = ap (λ (i : ℕ). line_well i line) (sym e) ∙ h

    pub fault-line : line_well k line ≡ false → refused KindsLine 0 ≡ kind_verdict t n line
    unfolding kind_verdict verdict_by after_check kind_tests
    fault-line h = rw (fits-as false h) refl

    pub kinds-end : line_well k line ≡ true → after_check KindsBroken inputKindsOf (Ok tt) ≡ kind_verdict t n line
    unfolding kind_verdict verdict_by after_check kind_tests kinds_kept
    kinds-end h = rw (fits-as true h) refl

-- ---- the tests from 8 on

is-over : Option ℕ → Bool
is-over None = true
is-over (Some k) = false

amount : Option ℕ → ℕ
amount None = 0
amount (Some k) = k

-- What holds of the operators where there are some, and of a refusal where not.
pub by_total : (P : Result ℕ Refused → Type 0) (why : Refused) (y : Option ℕ) (r : Result ℕ Refused) → r ≡ ok_or y why
    → (y ≡ None → P (Err why)) → ((k : ℕ) → y ≡ Some k → P (Ok k)) → P r
by_total P why None r e f g = subst P (sym e) (f refl)
by_total P why (Some k) r e f g = subst P (sym e) (g k refl)

pub tenth-over : (k : ℕ) → total_of k ≡ None → whole (leb k 1024) ≡ Err 0
unfolding is-over
tenth-over k h = go (leb k 1024) h
  where
    go : (b : Bool) → cond b (Some k) None ≡ None → whole b ≡ Err 0
    go true e = absurd (false≢true (ap is-over e))
    go false e = refl

pub tenth-within : (k j : ℕ) → total_of k ≡ Some j → (whole (leb k 1024) ≡ Ok tt) × (j ≡ k)
unfolding is-over amount
tenth-within k j h = go (leb k 1024) h
  where
    go : (b : Bool) → cond b (Some k) None ≡ Some j → (whole b ≡ Ok tt) × (j ≡ k)
    go true e = (refl, sym (ap amount e))
    go false e = absurd (false≢true (sym (ap is-over e)))

module _ (t : List ℕ) (n : ℕ) (p : List Bool) (line : List ℕ) where
  abbrev eighth : Check
  eighth = lowest n (widths_well t p)

  abbrev ninth : Check
  ninth = lowest n (bound_well t p)

  pub fault-eighth : (r : ℕ) → eighth ≡ Err r → refused Width r ≡ table_verdict t p n line
  unfolding table_verdict verdict_by after_check formula_tests
  fault-eighth r u = rw u refl

  module _ (u : eighth ≡ Ok tt) where
    pub fault-ninth : (r : ℕ) → ninth ≡ Err r → refused Unused r ≡ table_verdict t p n line
    unfolding table_verdict verdict_by after_check formula_tests
    fault-ninth r v = rw (u, v) refl

    module _ (v : ninth ≡ Ok tt) (x : Verdict) (e : x ≡ kind_verdict t n line) where
      kinds-then : table_verdict t p n line ≡ then x (verdict_by graph_tests (rows_in t p n))
      unfolding table_verdict verdict_by after_check formula_tests kind_tests kind_verdict
      kinds-then = rw (u, v, e) (then-behind (rows_in t p n) (kind_tests line) graph_tests)

      pub kinds-refuse : (r : Refusal) (row : ℕ) → x ≡ refused r row → refused r row ≡ table_verdict t p n line
      kinds-refuse r row f = sym (kinds-then ∙ ap (λ (z : Verdict). then z (verdict_by graph_tests (rows_in t p n))) f)

      module _ (f : x ≡ Ok tt) (y : Option ℕ) (g : y ≡ total_of (operators_of t n)) where
        graph-decides : verdict_by graph_tests (rows_in t p n) ≡ table_verdict t p n line
        graph-decides = sym (kinds-then ∙ ap (λ (z : Verdict). then z (verdict_by graph_tests (rows_in t p n))) f)

        pub fault-tenth : y ≡ None → refused Operators 0 ≡ table_verdict t p n line
        unfolding verdict_by after_check graph_tests
        fault-tenth h = rw (tenth-over (operators_of t n) (sym g ∙ h)) at graph-decides

        pub tables-pass : (k : ℕ) → y ≡ Some k → Ok tt ≡ table_verdict t p n line
        unfolding verdict_by after_check graph_tests
        tables-pass k h = rw (tenth-within (operators_of t n) k (sym g ∙ h)).0 at graph-decides

-- ---- all tests

module _ (s line : List ℕ) where
  all_then : verdict_of s line ≡ then (row_verdict s) (formula_verdict (fields_of s) (row_count s) line)
  unfolding verdict_of tests formula_tests kind_tests graph_tests verdict_by sheet_of row_verdict formula_verdict
  all_then = then-behind (sheet_of s) row_tests (formula_tests ++ (kind_tests line ++ graph_tests))

  pub rows-refuse : (v : Verdict) (r : Refusal) (row : ℕ) → v ≡ row_verdict s → v ≡ refused r row → refused r row ≡ verdict_of s line
  rows-refuse v r row e f = sym (all_then ∙ ap (λ (x : Verdict). then x (formula_verdict (fields_of s) (row_count s) line)) (sym e ∙ f))

  pub formula-decides : (v : Verdict) → v ≡ row_verdict s → v ≡ Ok tt → formula_verdict (fields_of s) (row_count s) line ≡ verdict_of s line
  formula-decides v e f = sym (all_then ∙ ap (λ (x : Verdict). then x (formula_verdict (fields_of s) (row_count s) line)) (sym e ∙ f))

-- ---- tables

-- From what tests 8 and 9 leave for rows in places p.
pub rowed-by : (t : List ℕ) (n k : ℕ) (p : List Bool) (ret m : List ℕ) → Ready t n p → k ≡ operators_of t n → Holds 0 ret n (λ r. returned_in (node_at t p r))
    → Holds 0 m n (λ r. mask (free_in (node_at t p r))) → length ret ≡ n → length m ≡ n → ExpRow t ret n → Rowed t n k ret m
rowed-by t n k p ret m ok e a b c d row =
    record {
      ready = subst (λ (q : List Bool). Ready t n q) ok.places ok;
      operators = e;
      returned = subst (λ (q : List Bool). Holds 0 ret n (λ r. returned_in (node_at t q r))) ok.places a;
      masks = subst (λ (q : List Bool). Holds 0 m n (λ r. mask (free_in (node_at t q r)))) ok.places b;
      returned-size = c;
      masks-size = d;
      last = row;
    }

pub rowed-as : (n k : ℕ) (t u ret m ret' m' : List ℕ) → u ≡ t → ret' ≡ ret → m' ≡ m → Rowed t n k ret m → Rowed u n k ret' m'
rowed-as n k t u ret m ret' m' x y z h = rw (x, y, z) h
