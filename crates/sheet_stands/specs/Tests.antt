-- What the search's tests say of tables. Definitions only; assumes nothing.
use Rattle.std.specs.Prelude.{ℕ, ◌-◌, Bool, true, ◌&&◌, List, [], ◌∷◌, eqb, get_or, drop}
use Rattle.formula.specs.Places.{places_of}
use Rattle.formula.specs.Tests.{formula_tests, verdict_by}
use Rattle.sheet_read.specs.Reading.{rows_in}
use Rattle.sheet_listed.specs.Small.{is_passed}

-- A tally has each of the rows as named once.
abbrev pub all_once : List ℕ → List ℕ → Bool
all_once times [] = true
all_once times (x ∷ xs) = eqb (get_or times (x - 1) 0) 1 && all_once times xs

-- Tests 6 to 9 of n rows.
unfoldable pub formula_passes : List ℕ → ℕ → Bool
unfolding verdict_by formula_tests places_of
formula_passes t n = is_passed (verdict_by formula_tests (rows_in t (places_of t n) n))

-- Tests 8 and 9 of n rows in the places p.
unfoldable pub tables_pass : List ℕ → ℕ → List Bool → Bool
unfolding verdict_by formula_tests
tables_pass t n p = is_passed (verdict_by (drop 2 formula_tests) (rows_in t p n))
