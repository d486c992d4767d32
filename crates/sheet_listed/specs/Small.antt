-- Document 02, Job 14: the small sheets and the list of them. A sheet of the list "passes tests 1 to 9, kinds lines left aside, with at most 5 rows, row
-- kinds 1 to 9, identifiers and constants 0 and 1, and any code. Fewer rows come first, then rising bytes." The list is a definition to speak of; it is
-- never computed. Definitions only; assumes nothing.
use Rattle.std.specs.Prelude.{ℕ, zero, suc, ◌+◌, ◌≡◌, Bool, true, false, cond, ◌&&◌, ◌||◌, List, [], ◌∷◌, ◌++◌, map, eqb, leb, ltb, length, get_or, Ok, Err}
use Rattle.formula.specs.declared.Shape.{Shape}
use Rattle.formula.specs.declared.Shape.TheVariants.{Identifier, Constant, Pair, Operator, Let, If, For, Iter}
use Rattle.formula.specs.Results.{Verdict}
use Rattle.formula.specs.Sheet.{row_count, fields_of, field, shape_of, shape_at, named_in}
use Rattle.formula.specs.Tests.{in_range, all_between, lowest, is-passed, lowest_from, sheet_of, row_tests, formula_tests, verdict_by}
use Rattle.sheet_tidied.specs.Text.{sheet_text}

-- "identifiers and constants 0 and 1"; the identifiers of a let or for are a to a+b-1
unfoldable pub modest : Shape → Bool
modest (Identifier a) = leb a 1
modest (Constant k a) = leb a 1
modest (Pair a b) = true
modest (Operator a b) = true
modest (Let a b c d) = leb (a + b) 2
modest (If a b c) = true
modest (For a b c d) = leb (a + b) 2
modest (Iter a) = true

-- "row kinds 1 to 9, identifiers and constants 0 and 1"
unfoldable pub modest_row : List ℕ → ℕ → Bool
unfolding modest shape_at
modest_row t r = leb 1 (field t r 0) && leb (field t r 0) 9 && modest (shape_at t r)

-- "passes tests 1 to 9, kinds lines left aside"
abbrev pub is_passed : Verdict → Bool
is_passed (Ok _) = true
is_passed (Err why) = false

unfoldable pub passes_nine : List ℕ → Bool
unfolding verdict_by row_tests formula_tests sheet_of
passes_nine s = is_passed (verdict_by (row_tests ++ formula_tests) (sheet_of s))

-- A small sheet.
unfoldable pub is_small : List ℕ → Bool
unfolding passes_nine lowest_from modest_row fields_of
is_small s = passes_nine s && leb (row_count s) 5 && is-passed (lowest (row_count s) (modest_row (fields_of s)))

-- ---- the order: "Fewer rows come first, then rising bytes"

unfoldable pub rises : List ℕ → List ℕ → Bool
rises [] ys = false
rises (x ∷ xs) [] = false
rises (x ∷ xs) (y ∷ ys) = ltb x y || (eqb x y && rises xs ys)

unfoldable pub precedes : List ℕ → List ℕ → Bool
unfolding rises
precedes s u = ltb (row_count s) (row_count u) || (eqb (row_count s) (row_count u) && rises s u)

-- ---- the list

unfoldable pub filtered : {A : Type 0} → (A → Bool) → List A → List A
filtered p [] = []
filtered p (x ∷ xs) = cond (p x) (x ∷ filtered p xs) (filtered p xs)

unfoldable pub count_from : ℕ → ℕ → List ℕ
count_from a zero = []
count_from a (suc n) = a ∷ count_from (suc a) n

unfoldable pub each : {A B : Type 0} → (A → List B) → List A → List B
each f [] = []
each f (x ∷ xs) = f x ++ each f xs

-- Rows as their five fields, rising: kinds 1 to 9, a to 11, the greatest code, and b, c, d to 4, the greatest row that a row of five can name.
unfoldable pub counted_rows : List (List ℕ)
unfolding count_from each
counted_rows =
    each (λ kind. each (λ a. each (λ b. each (λ c. map (λ d. kind ∷ a ∷ b ∷ c ∷ d ∷ []) (count_from 0 5)) (count_from 0 5)) (count_from 0 5)) (count_from 0 12)) (count_from 1 9)

-- Those that can stand in a small sheet: test 4, rows 1 to 4 named, and the row's own part of what is asked.
unfoldable pub small_row : List ℕ → Bool
unfolding in_range all_between named_in shape_of modest
small_row l =
    let s : Shape = shape_of (get_or l 0 0) (get_or l 1 0) (get_or l 2 0) (get_or l 3 0) (get_or l 4 0) in
    in_range (get_or l 0 0) (get_or l 1 0) (get_or l 2 0) (get_or l 3 0) (get_or l 4 0) && (all_between 5 (named_in s) && modest s)

unfoldable pub small_rows : List (List ℕ)
unfolding filtered small_row counted_rows
small_rows = filtered small_row counted_rows

-- All sheets of n such rows, rising.
unfoldable pub sheets_of : ℕ → List (List (List ℕ))
unfolding each small_rows
sheets_of zero = [] ∷ []
sheets_of (suc n) = each (λ row. map (λ rest. row ∷ rest) (sheets_of n)) small_rows

-- Of 1, 2, .. n rows.
unfoldable pub sheets_up_to : ℕ → List (List (List ℕ))
unfolding sheets_of
sheets_up_to zero = []
sheets_up_to (suc n) = sheets_up_to n ++ sheets_of (suc n)

-- The list of all small sheets.
unfoldable pub small_sheets : List (List ℕ)
unfolding filtered is_small sheets_up_to sheet_text
small_sheets = filtered is_small (map sheet_text (sheets_up_to 5))

-- ---- "the next one"

pub data Behind : Type 0 where
  next : List ℕ → Behind
  -- 23 "when it is the last one"
  none-behind : Behind
  -- 22 "when the given sheet is neither empty nor in the list"
  unlisted : Behind

unfoldable pub same : List ℕ → List ℕ → Bool
same [] [] = true
same [] (y ∷ ys) = false
same (x ∷ xs) [] = false
same (x ∷ xs) (y ∷ ys) = eqb x y && same xs ys

abbrev pub headed : List (List ℕ) → Behind
headed [] = none-behind
headed (y ∷ ys) = next y

-- The one behind g in a list.
unfoldable pub following : List (List ℕ) → List ℕ → Behind
unfolding same
following [] g = unlisted
following (x ∷ xs) g = cond (same x g) (headed xs) (following xs g)

-- "Starting from an empty memory": the empty sheet stands before the list.
unfoldable pub next_of : List ℕ → Behind
unfolding following small_sheets
next_of g = following ([] ∷ small_sheets) g
