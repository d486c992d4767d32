-- A sheet tidied (document 02, Job 8): "drops every row not reachable from the last, renumbers the rest in their old order and writes the sheet from the start of a
-- lent memory, giving its row count". Definitions only; assumes nothing.
use Rattle.std.specs.Prelude.{ℕ, zero, suc, ◌+◌, ◌-◌, ◌*◌, Bool, true, false, cond, List, [], ◌∷◌, ◌++◌, ltb, length, get_or, set, drop, replicate}
use Rattle.value.specs.Operators.{pick}
use Rattle.formula.specs.declared.Shape.{Shape}
use Rattle.formula.specs.declared.Shape.TheVariants.{Identifier, Constant, Pair, Operator, Let, If, For, Iter}
use Rattle.formula.specs.Sheet.{row_count, fields_of, shape_at, named_in}
use Rattle.formula.specs.Places.{mark}
use Rattle.sheet_tidied.specs.Text.{sheet_text}

-- ---- the rows that are kept

-- Whether row r is kept, by a list with an entry for each row.
abbrev pub is_kept : List Bool → ℕ → Bool
is_kept k r = get_or k (r - 1) false

-- Rows r, r - 1, .. 1: a kept row keeps those that it names, which are smaller.
unfoldable pub keep_down : List ℕ → ℕ → List Bool → List Bool
unfolding mark named_in shape_at
keep_down t zero k = k
keep_down t (suc r) k = keep_down t r (cond (is_kept k (suc r)) (mark (named_in (shape_at t (suc r))) k) k)

-- Which of n rows are kept: the last, and what it comes to name. Behind test 5 they are the reachable ones (Rowwise `kept-iff`).
unfoldable pub kept_of : List ℕ → ℕ → List Bool
unfolding keep_down
kept_of t n = keep_down t n (set (replicate n false) (n - 1) true)

-- ---- "renumbers the rest in their old order"

-- The new number of row r: how many of the rows 1 to r are kept.
unfoldable pub new_number : List Bool → ℕ → ℕ
new_number k zero = 0
new_number k (suc r) = new_number k r + cond (is_kept k (suc r)) 1 0

-- The five fields of a row, kind, a, b, c, d, with another number for each row that it names; fields that its kind does not list are 0.
unfoldable pub renamed : (ℕ → ℕ) → Shape → List ℕ
renamed f (Identifier a) = 1 ∷ a ∷ 0 ∷ 0 ∷ 0 ∷ []
renamed f (Constant kind a) = kind ∷ a ∷ 0 ∷ 0 ∷ 0 ∷ []
renamed f (Pair a b) = 4 ∷ f a ∷ f b ∷ 0 ∷ 0 ∷ []
renamed f (Operator a b) = 5 ∷ a ∷ f b ∷ 0 ∷ 0 ∷ []
renamed f (Let a b c d) = 6 ∷ a ∷ b ∷ f c ∷ f d ∷ []
renamed f (If a b c) = 7 ∷ f a ∷ f b ∷ f c ∷ 0 ∷ []
renamed f (For a b c d) = 8 ∷ a ∷ b ∷ f c ∷ f d ∷ []
renamed f (Iter a) = 9 ∷ f a ∷ 0 ∷ 0 ∷ 0 ∷ []

-- Row r as it is written in the new sheet.
unfoldable pub new_row : List ℕ → List Bool → ℕ → List ℕ
unfolding renamed new_number shape_at
new_row t k r = renamed (new_number k) (shape_at t r)

-- The kept ones of the first r rows, in their old order.
unfoldable pub kept_rows : List ℕ → List Bool → ℕ → List (List ℕ)
unfolding new_row
kept_rows t k zero = []
kept_rows t k (suc r) = kept_rows t k r ++ cond (is_kept k (suc r)) (new_row t k (suc r) ∷ []) []

unfoldable pub new_rows : List ℕ → List (List ℕ)
unfolding kept_rows kept_of fields_of
new_rows s =
    let t : List ℕ = fields_of s in
    kept_rows t (kept_of t (row_count s)) (row_count s)

-- The new sheet.
unfoldable pub tidied : List ℕ → List ℕ
unfolding new_rows sheet_text
tidied s = sheet_text (new_rows s)

-- ---- what the call needs

-- The bytes of the longest sheet that passes tests 1 and 2.
abbrev pub most_sheet_bytes : ℕ
most_sheet_bytes = 200 * 31

-- 11 by the length handed in: a tidied sheet is no longer than the sheet, and one of over 200 rows is refused.
unfoldable pub tidy_need : List ℕ → ℕ
tidy_need s = pick (ltb most_sheet_bytes (length s)) most_sheet_bytes (length s)

-- "writes the sheet from the start of a lent memory"; "bytes past what a call writes out keep what they held" (Job 3)
unfoldable pub tidy_written : List ℕ → List ℕ → List ℕ
unfolding tidied
tidy_written s out =
    let new : List ℕ = tidied s in
    new ++ drop (length new) out
