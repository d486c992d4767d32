-- The five fields of a row as the code holds them, and the kept rows of a table of fields. Definitions only; assumes nothing.
use Rattle.std.specs.Prelude.{ℕ, List, [], ◌∷◌}
use Rattle.sheet_tidied.specs.Tidy.{kept_of, kept_rows}
use Rattle.sheet_tidy.specs.declared.rows.RowFields.{RowFields}

abbrev pub listed : RowFields → List ℕ
listed r = r.kind ∷ r.a ∷ r.b ∷ r.c ∷ r.d ∷ []

-- The rows that are kept of n rows with the fields t.
abbrev pub rows_of : List ℕ → ℕ → List (List ℕ)
rows_of t n = kept_rows t (kept_of t n) n
