-- Laws of a sheet's lines and fields: where in the bytes a line and its fields stand, and the table of fields row by row.
use Rattle.std.specs.Prelude.{ℕ, zero, suc, ◌+◌, ◌*◌, ◌-◌, ◌<◌, ◌≡◌, List, [], ◌∷◌, ◌++◌, length, get_or, take, drop, ◌&&◌}
use Rattle.std.proofs.Math.Seq.{slice}
use Rattle.formula.specs.Sheet.{field_text, field_of, number_in}

-- The five numbers of a line, 0 for a malformed field.
unfoldable pub line_fields : List ℕ → List ℕ
unfolding field_of
line_fields l =
    number_in (field_of (field_text l 0))
    ∷ number_in (field_of (field_text l 1))
    ∷ number_in (field_of (field_text l 2))
    ∷ number_in (field_of (field_text l 3))
    ∷ number_in (field_of (field_text l 4))
    ∷ []

-- The six bytes from k on.
abbrev pub text_at : List ℕ → ℕ → List ℕ
text_at s k = slice k (k + 6) s
