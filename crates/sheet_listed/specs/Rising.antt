-- The list of small sheets rises (document 02, Job 14: "Fewer rows come first, then rising bytes"). That the texts of the small rows rise is computed;
-- texts of as many rows rise with the first rows that differ.
use Rattle.std.specs.Prelude.{ℕ, zero, suc, ◌<◌, ◌≡◌, refl, ◌⊎◌, Bool, true, ◌&&◌, List, [], ◌∷◌, map, length, get_or}
use Rattle.formula.specs.Sheet.{row_count}
use Rattle.formula.specs.FaultRows.{Among}
use Rattle.sheet_tidied.specs.Text.{row_text, sheet_text}
use Rattle.sheet_listed.specs.Small.{rises, precedes}

-- Each of a list of texts rises to the next.
unfoldable pub rising : List (List ℕ) → Bool
unfolding rises
rising [] = true
rising (x ∷ []) = true
rising (x ∷ y ∷ l) = rises x y && rising (y ∷ l)

-- ---- rows
abbrev pub Rises : List ℕ → List ℕ → Type 0
Rises s u = rises s u ≡ true

abbrev pub RowRises : List ℕ → List ℕ → Type 0
RowRises p q = Rises (row_text p) (row_text q)

-- ---- sheets of as many rows
abbrev pub SheetRises : List (List ℕ) → List (List ℕ) → Type 0
SheetRises p q = Rises (sheet_text p) (sheet_text q)

-- ---- the list
abbrev pub Precedes : List ℕ → List ℕ → Type 0
Precedes s u = precedes s u ≡ true

abbrev pub SheetPrecedes : List (List ℕ) → List (List ℕ) → Type 0
SheetPrecedes p q = Precedes (sheet_text p) (sheet_text q)
