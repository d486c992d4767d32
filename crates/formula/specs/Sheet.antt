-- Document 01, "The formula sheet", and document 02, Job 9, row kind 10: the bytes of a sheet as rows of five decimal fields, a row by its
-- kind, and the rows that it names. A sheet is a list of bytes; its fields are one list of numbers, five a row.
use Rattle.std.specs.Prelude.{ℕ, zero, suc, ◌+◌, ◌*◌, ◌-◌, ◌/◌, Bool, cond, ◌&&◌, List, [], ◌∷◌, length, get_or, take, drop, eqb, leb, Some, None}
use Rattle.std.specs.Option.{unwrap_or}
use Rattle.formula.specs.Results.{Field}
use Rattle.formula.specs.declared.Shape.{Shape}
use Rattle.formula.specs.declared.Shape.TheVariants.{Identifier, Constant, Pair, Operator, Let, If, For, Iter}

abbrev pub is_digit : ℕ → Bool
is_digit b = leb 48 b && leb b 57

-- The number v, then digits up to the end of the field.
unfoldable pub digits_of : ℕ → List ℕ → Field
digits_of v [] = Some v
digits_of v (b ∷ s) = cond (is_digit b) (digits_of (v * 10 + (b - 48)) s) None

-- "zero is one digit 0": nothing stands behind a first digit 0.
unfoldable pub zero_of : List ℕ → Field
zero_of [] = Some 0
zero_of (b ∷ s) = None

-- "decimal fields .. right-justified with spaces, no leading zeros"
unfoldable pub field_of : List ℕ → Field
unfolding digits_of zero_of
field_of [] = None
field_of (b ∷ s) =
    cond (eqb b 32) (field_of s)
    (cond (eqb b 48) (zero_of s)
    (cond (is_digit b) (digits_of (b - 48) s)
    None))

-- "Each row is 30 characters and a line feed"
abbrev pub row_count : List ℕ → ℕ
row_count s = length s / 31

unfoldable pub lines_in : ℕ → List ℕ → List (List ℕ)
lines_in zero s = []
lines_in (suc n) s = take 31 s ∷ lines_in n (drop 31 s)

-- The rows as they are written, each with its line feed.
unfoldable pub lines_of : List ℕ → List (List ℕ)
unfolding lines_in
lines_of s = lines_in (row_count s) s

-- The six characters of field j of a line; fields 0 to 4 are kind, a, b, c, d.
abbrev pub field_text : List ℕ → ℕ → List ℕ
field_text line j = take 6 (drop (6 * j) line)

-- A malformed field is refused by 3, before its number is looked at.
abbrev pub number_in : Field → ℕ
number_in f = unwrap_or f 0

unfoldable pub fields_in : List (List ℕ) → List ℕ
unfolding field_of
fields_in [] = []
fields_in (l ∷ ls) =
    number_in (field_of (field_text l 0))
    ∷ number_in (field_of (field_text l 1))
    ∷ number_in (field_of (field_text l 2))
    ∷ number_in (field_of (field_text l 3))
    ∷ number_in (field_of (field_text l 4))
    ∷ fields_in ls

-- The numbers of all fields, five a row.
unfoldable pub fields_of : List ℕ → List ℕ
unfolding fields_in lines_of
fields_of s = fields_in (lines_of s)

-- Field j of row r in such a list.
abbrev pub field : List ℕ → ℕ → ℕ → ℕ
field t r j = get_or t (5 * (r - 1) + j) 0

-- A row by its kind. Another kind is refused by 4, before its shape is looked at.
unfoldable pub shape_of : ℕ → ℕ → ℕ → ℕ → ℕ → Shape
shape_of kind a b c d =
    cond (eqb kind 1) (Identifier a)
    (cond (eqb kind 2) (Constant 2 a)
    (cond (eqb kind 3) (Constant 3 a)
    (cond (eqb kind 4) (Pair a b)
    (cond (eqb kind 5) (Operator a b)
    (cond (eqb kind 6) (Let a b c d)
    (cond (eqb kind 7) (If a b c)
    (cond (eqb kind 8) (For a b c d)
    (cond (eqb kind 9) (Iter a)
    (cond (eqb kind 10) (Constant 10 a)
    (Constant 2 0))))))))))

unfoldable pub shape_at : List ℕ → ℕ → Shape
unfolding shape_of
shape_at t r = shape_of (field t r 0) (field t r 1) (field t r 2) (field t r 3) (field t r 4)

-- The rows that a row names, field by field.
unfoldable pub named_in : Shape → List ℕ
named_in (Identifier a) = []
named_in (Constant k a) = []
named_in (Pair a b) = a ∷ b ∷ []
named_in (Operator a b) = b ∷ []
named_in (Let a b c d) = c ∷ d ∷ []
named_in (If a b c) = a ∷ b ∷ c ∷ []
named_in (For a b c d) = c ∷ d ∷ []
named_in (Iter a) = a ∷ []
