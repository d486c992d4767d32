-- The search for the next small sheet, as it goes through rows: the first small one among sheets that begin with given rows.
use Rattle.std.specs.Prelude.{ℕ, zero, suc, ◌+◌, ◌-◌, ◌*◌, ◌/◌, ◌%◌, Bool, true, false, cond, ◌&&◌, List, [], ◌∷◌, ◌++◌, map, eqb, leb, ltb, length, get_or, drop, take}
use Rattle.std.proofs.Math.Option.{Option, some, none}
use Rattle.formula.specs.Sheet.{field, shape_at, named_in}
use Rattle.formula.specs.Tree.{exp_of}
use Rattle.formula.specs.Widths.{wide_e}
use Rattle.formula.specs.Free.{bound_e}
use Rattle.formula.specs.Tests.{names_well, occurrences, all_named}
use Rattle.sheet_tidied.specs.Text.{sheet_text}
use Rattle.sheet_listed.specs.Small.{is_small, each, small_rows, sheets_of}

-- A sheet's rows, each as its five fields.
abbrev pub Rows : Type 0
Rows = List (List ℕ)

-- The first of a list of sheets that is small.
unfoldable pub first_small : List Rows → Option Rows
unfolding is_small sheet_text
first_small [] = none
first_small (rs ∷ l) = cond (is_small (sheet_text rs)) (some rs) (first_small l)

abbrev pub or_else : Option Rows → Option Rows → Option Rows
or_else (some rs) o = some rs
or_else none o = o

-- The sheets that begin with `front`, have then one of the rows `later`, and any k rows behind it.
unfoldable pub completions : Rows → List (List ℕ) → ℕ → List Rows
unfolding each sheets_of
completions front later k = each (λ row. map (λ rest. front ++ (row ∷ rest)) (sheets_of k)) later

-- The first small one of those with row number `start`, counted from 0, or a later one behind `front`.
unfoldable pub searched : Rows → ℕ → ℕ → Option Rows
unfolding first_small completions small_rows
searched front start k = first_small (completions front (drop start small_rows) k)

-- Small row number k, counted from 0, for the kinds 1 to 7, of which there are 178: no small sheet has a for or an iter.
unfoldable pub content_at : ℕ → List ℕ
content_at k =
    cond (ltb k 2) (1 ∷ k ∷ 0 ∷ 0 ∷ 0 ∷ [])
    (cond (ltb k 4) (2 ∷ (k - 2) ∷ 0 ∷ 0 ∷ 0 ∷ [])
    (cond (ltb k 6) (3 ∷ (k - 4) ∷ 0 ∷ 0 ∷ 0 ∷ [])
    (cond (ltb k 22) (4 ∷ (1 + (k - 6) / 4) ∷ (1 + (k - 6) % 4) ∷ 0 ∷ 0 ∷ [])
    (cond (ltb k 66) (5 ∷ (1 + (k - 22) / 4) ∷ (1 + (k - 22) % 4) ∷ 0 ∷ 0 ∷ [])
    (cond (ltb k 82) (6 ∷ 0 ∷ 1 ∷ (1 + (k - 66) / 4) ∷ (1 + (k - 66) % 4) ∷ [])
    (cond (ltb k 98) (6 ∷ 0 ∷ 2 ∷ (1 + (k - 82) / 4) ∷ (1 + (k - 82) % 4) ∷ [])
    (cond (ltb k 114) (6 ∷ 1 ∷ 1 ∷ (1 + (k - 98) / 4) ∷ (1 + (k - 98) % 4) ∷ [])
    (7 ∷ (1 + (k - 114) / 16) ∷ (1 + (k - 114) / 4 % 4) ∷ (1 + (k - 114) % 4) ∷ 0 ∷ []))))))))

-- ---- what each row of a small sheet has, so that a search can leave a row that has not

-- It names rows before it, and none that is named already.
abbrev pub once_each : List ℕ → List ℕ → Bool
once_each [] names = true
once_each (x ∷ xs) names = eqb (occurrences x names) 1 && once_each xs names

-- Row r of a table of at least r rows, read as an expression: its kind is 1 to 7, and its own tests 5, 8 and 9 pass.
unfoldable pub stands_at : List ℕ → ℕ → Bool
unfolding names_well named_in shape_at all_named occurrences wide_e bound_e exp_of
stands_at t r =
    leb (field t r 0) 7
    && (names_well t r
    && (once_each (named_in (shape_at t r)) (all_named t r)
    && (wide_e (exp_of t r) && bound_e (exp_of t r))))

-- ---- what stands behind a sheet

-- How many entries stand before a row in a list of rows.
abbrev pub same_row : List ℕ → List ℕ → Bool
same_row [] [] = true
same_row [] (y ∷ ys) = false
same_row (x ∷ xs) [] = false
same_row (x ∷ xs) (y ∷ ys) = eqb x y && same_row xs ys

unfoldable pub place_in : List (List ℕ) → List ℕ → ℕ
place_in [] row = 0
place_in (x ∷ xs) row = cond (same_row x row) 0 (suc (place_in xs row))

unfoldable pub place_of : List ℕ → ℕ
unfolding place_in small_rows
place_of row = place_in small_rows row

-- The first small sheet behind the n rows gs with as many rows, where its first difference is in row r, r - 1, .. or 1.
unfoldable pub down_from : ℕ → Rows → Option Rows
unfolding searched place_of
down_from zero gs = none
down_from (suc r) gs = or_else (searched (take r gs) (suc (place_of (get_or gs r []))) (length gs - suc r)) (down_from r gs)

-- The first small sheet with one of the row counts m, m + 1, .., k of them.
unfoldable pub up_from : ℕ → ℕ → Option Rows
unfolding searched
up_from m zero = none
up_from m (suc k) = or_else (searched [] 0 (m - 1)) (up_from (suc m) k)
