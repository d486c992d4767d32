-- What a small sheet's table has, row by row (document 02, Job 14: "passes tests 1 to 9, kinds lines left aside, with at most 5 rows, row kinds 1 to 9,
-- identifiers and constants 0 and 1"). Assumes nothing.
use Rattle.std.specs.Prelude.{ℕ, ◌-◌, ◌≤◌, ◌≡◌, refl, Bool, true, false, ◌&&◌, length, Ok, Err}
use Rattle.std.proofs.lemmas.Bool.{false≢true}
use mathlib.Core.List.{List, ◌++◌, flatten}
use Rattle.std.proofs.Common.{arith}
use Rattle.std.proofs.Math.Dec.{leb}
use borrow.Author.Tests.{eqb-true}
use Rattle.formula.specs.Results.{Verdict}
use Rattle.formula.specs.Sheet.{row_count, fields_of}
use Rattle.formula.specs.Places.{places_of}
use Rattle.formula.specs.Tests.{is-passed, lowest, occurrences, all_named, named_once, ranges_well, names_well, placed_well, widths_well, bound_well, sheet_of, row_tests, formula_tests, verdict_by}
use Rattle.formula.proofs.TestLaws.{passed-each}
use Rattle.formula.proofs.TreeLaws.{and-true}
use Rattle.formula.specs.PlaceLaws.{Sound}
use Rattle.formula.specs.Verdicts.{Each, Passes}
use Rattle.formula.proofs.Verdicts.{all_pass}
use Rattle.sheet_tidied.specs.Text.{sheet_text}
use Rattle.sheet_tidied.specs.TextLaws.{Rows}
use Rattle.sheet_tidied.proofs.TextLaws.{text-rows, text-fields}
use Rattle.sheet_tidied.proofs.Rowwise.{naming}
use Rattle.sheet_listed.specs.Small.{is_passed, modest_row, passes_nine, is_small}
use Rattle.sheet_listed.specs.Texts.{SmallSheet}
use Rattle.sheet_listed.proofs.Texts.{small-has}

-- n rows with the fields t: tests 4 to 9, and each row's own part.
pub record Passing (t : List ℕ) (n : ℕ) : Type 0 where
  pub few : n ≤ 5
  pub ranged : (r : ℕ) → 1 ≤ r → r ≤ n → ranges_well t r ≡ true
  pub names : (r : ℕ) → 1 ≤ r → r ≤ n → names_well t r ≡ true
  pub sound : Sound t n
  pub placed : (r : ℕ) → 1 ≤ r → r ≤ n → placed_well t (places_of t n) r ≡ true
  pub wide : (r : ℕ) → 1 ≤ r → r ≤ n → widths_well t (places_of t n) r ≡ true
  pub bound : (r : ℕ) → 1 ≤ r → r ≤ n → bound_well t (places_of t n) r ≡ true
  pub modest : (r : ℕ) → 1 ≤ r → r ≤ n → modest_row t r ≡ true

is-pass : (v : Verdict) → is_passed v ≡ true → v ≡ Ok tt
is-pass (Ok _) h = refl
is-pass (Err why) h = absurd (false≢true h)

pub not-small : (s : List ℕ) → (is_small s ≡ true → ⊥) → is_small s ≡ false
not-small s h = go (is_small s) refl
  where
    go : (b : Bool) → is_small s ≡ b → b ≡ false
    go true e = absurd (h e)
    go false e = refl

module _ (s : List ℕ) where
  abbrev t : List ℕ
  t = fields_of s

  abbrev n : ℕ
  n = row_count s

  each-passing : Each (Passes (sheet_of s)) (row_tests ++ formula_tests) → SmallSheet s → Passing t n
  unfolding row_tests formula_tests sheet_of
  each-passing (first, (second, (third, (fourth, (fifth, (sixth, (seventh, (eighth, (ninth, end))))))))) has =
      record {
        few = has.few;
        ranged = has.rowwise.ranged;
        names = has.rowwise.names;
        sound = record {
          named = naming s has.rowwise;
          once = λ x l u. eqb-true (occurrences x (all_named t n)) 1 (passed-each (n - 1) (λ r. named_once (all_named t n) r) sixth x l (omega arith));
        };
        placed = passed-each n (placed_well t (places_of t n)) seventh;
        wide = passed-each n (widths_well t (places_of t n)) eighth;
        bound = passed-each n (bound_well t (places_of t n)) ninth;
        modest = has.modestly;
      }

  pub small-passing : is_small s ≡ true → Passing t n
  unfolding is_small passes_nine
  small-passing h =
      let both = and-true (passes_nine s && leb n 5) (is-passed (lowest n (modest_row t))) h in
      let nine = is-pass (verdict_by (row_tests ++ formula_tests) (sheet_of s)) (and-true (passes_nine s) (leb n 5) both.0).0 in
      each-passing ((all_pass (sheet_of s) (row_tests ++ formula_tests)).0 nine) (small-has s h)

-- The same of rows as they are written.
pub written-passing : (rs : List (List ℕ)) → Rows rs → is_small (sheet_text rs) ≡ true → Passing (flatten rs) (length rs)
written-passing rs w h = rw (text-rows rs w, text-fields rs w) at (small-passing (sheet_text rs) h)
