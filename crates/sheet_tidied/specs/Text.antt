-- A sheet as it is written, from the five fields of each row (document 01, "The formula sheet": "Each row is 30 characters and a line feed: five decimal fields of
-- six, right-justified with spaces, no leading zeros"). A field is printed as the bench program prints a number (text/specs/Printed). Definitions only; assumes nothing.
use Rattle.std.specs.Prelude.{ℕ, List, [], ◌∷◌, ◌++◌}
use Rattle.text.specs.Printed.{number_field}

unfoldable pub row_text : List ℕ → List ℕ
unfolding number_field
row_text [] = 10 ∷ []
row_text (x ∷ xs) = number_field x ++ row_text xs

unfoldable pub sheet_text : List (List ℕ) → List ℕ
unfolding row_text
sheet_text [] = []
sheet_text (r ∷ rs) = row_text r ++ sheet_text rs
