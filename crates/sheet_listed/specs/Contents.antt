-- What is computed of the rows that a small sheet can have: how many there are, their kinds, and those of the kinds 1 to 7 by their number. Assumes
-- nothing.
use Rattle.std.specs.Prelude.{ℕ, zero, suc, ◌+◌, ◌≤◌, ◌<◌, ◌≡◌, refl, Bool, true, false, ◌&&◌, List, [], ◌∷◌, map, eqb, leb, length, get_or, take, drop}
use Rattle.formula.specs.FaultRows.{Among}
use Rattle.sheet_listed.specs.Small.{count_from}
use Rattle.sheet_listed.specs.Search.{Rows, content_at, same_row}

unfoldable pub kind_between : ℕ → ℕ → List ℕ → Bool
kind_between low high l = leb low (get_or l 0 0) && leb (get_or l 0 0) high

unfoldable pub all_rows : (List ℕ → Bool) → Rows → Bool
all_rows p [] = true
all_rows p (l ∷ ls) = p l && all_rows p ls

unfoldable pub same_rows : Rows → Rows → Bool
same_rows [] [] = true
same_rows [] (m ∷ ms) = false
same_rows (l ∷ ls) [] = false
same_rows (l ∷ ls) (m ∷ ms) = same_row l m && same_rows ls ms

-- ---- computed, at one go
-- Their number, those of the kinds 1 to 7, all kinds, and the kinds of the rest.
unfoldable pub checked : Rows → Bool
unfolding same_rows content_at count_from all_rows kind_between
checked ls =
    eqb (length ls) 230
    && (same_rows (take 178 ls) (map content_at (count_from 0 178))
    && (all_rows (kind_between 1 9) ls
    && all_rows (kind_between 8 9) (drop 178 ls)))
