-- Test 1 of a sheet (document 01: "empty, not in 31-byte rows, or a row without its line feed") over a file that is read part by part: what is kept
-- of the bytes seen so far. Only 200 rows, 6,200 bytes, can pass test 2, so more than those need not be kept. Assumes nothing.
use Rattle.std.specs.Prelude.{ℕ, ◌+◌, Bool, true, ◌&&◌, not, List, [], ◌∷◌, eqb, ltb}
use Rattle.value.specs.Operators.{pick}
use Rattle.text.specs.declared.Seen.{Seen}

abbrev pub seen : ℕ → ℕ → Bool → Seen
seen length column ended = record { length = length; column = column; ended = ended }

-- Nothing seen yet.
abbrev pub unseen : Seen
unseen = seen 0 0 true

-- One byte more: the length counts up to 6,201; the column is the place in the row; each row's last byte is a line feed.
unfoldable pub after : Seen → ℕ → Seen
after x b =
    seen (pick (ltb x.length 6201) (x.length + 1) x.length) (pick (ltb x.column 30) (x.column + 1) 0)
    (pick (ltb x.column 30) x.ended (x.ended && eqb b 10))

unfoldable pub scanned : Seen → List ℕ → Seen
unfolding after
scanned x [] = x
scanned x (b ∷ s) = scanned (after x b) s

-- What is kept of a file.
abbrev pub seen_of : List ℕ → Seen
seen_of s = scanned unseen s

-- Test 1, by what was kept.
unfoldable pub seen_laid_out : Seen → Bool
seen_laid_out x = not (eqb x.length 0) && eqb x.column 0 && x.ended
