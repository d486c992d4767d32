-- The example sheets of document 01, "Program and readings" and "Marked for proof", that of examples/verdict, one that divides by zero and two with floats, as text. Assumes nothing.
use Rattle.std.specs.Prelude.{ℕ, zero, suc, List, [], ◌∷◌, ◌++◌}
use Prim.Native.String.{String, [] as endS, ◌∷◌ as ◌∷S◌}
use Prim.Native.Char as Char

-- The bytes of a text.
unfoldable pub bytes : String → List ℕ
bytes endS = []
bytes (c ∷S s) = Char.code c ∷ bytes s

-- The lesser of two: if x < y then x else y.
unfoldable pub lesser : String
lesser = "     1     0     0     0     0\n     1     1     0     0     0\n     4     1     2     0     0\n     5     6     3     0     0\n     1     0     0     0     0\n     1     1     0     0     0\n     7     4     5     6     0\n"

-- x + x
unfoldable pub twice : String
twice = "     1     0     0     0     0\n     1     0     0     0     0\n     4     1     2     0     0\n     5     1     3     0     0\n"

-- for i, y = n, 1 do if 1 < i then iter i - 1, y * i else y; n is identifier 0, i and y are 1 and 2.
unfoldable pub factorial : String
factorial = "     1     0     0     0     0\n     2     1     0     0     0\n     4     1     2     0     0\n     2     1     0     0     0\n     1     1     0     0     0\n     4     4     5     0     0\n     5     6     6     0     0\n     1     1     0     0     0\n     2     1     0     0     0\n     4     8     9     0     0\n     5     2    10     0     0\n     1     2     0     0     0\n     1     1     0     0     0\n     4    12    13     0     0\n     5     3    14     0     0\n     4    11    15     0     0\n     9    16     0     0     0\n     1     2     0     0     0\n     7     7    17    18     0\n     8     1     2     3    19\n"

-- not (battery < 900) and not (range < 4000), and the margins battery - 900 and range - 4000, as in examples/verdict; battery and
-- range are identifiers 0 and 1.
unfoldable pub verdict : String
verdict = "     1     0     0     0     0\n     2   900     0     0     0\n     4     1     2     0     0\n     5     6     3     0     0\n     5    10     4     0     0\n     1     1     0     0     0\n     2  4000     0     0     0\n     4     6     7     0     0\n     5     6     8     0     0\n     5    10     9     0     0\n     4     5    10     0     0\n     5     8    11     0     0\n     1     0     0     0     0\n     2   900     0     0     0\n     4    13    14     0     0\n     5     2    15     0     0\n     1     1     0     0     0\n     2  4000     0     0     0\n     4    17    18     0     0\n     5     2    19     0     0\n     4    16    20     0     0\n     4    12    21     0     0\n"

-- 1 / 0, and if 1 / 0 < 2 then 3 else 4
unfoldable pub zero_divided : String
zero_divided = "     2     1     0     0     0\n     2     0     0     0     0\n     4     1     2     0     0\n     5     4     3     0     0\n     2     1     0     0     0\n     2     0     0     0     0\n     4     5     6     0     0\n     5     4     7     0     0\n     2     2     0     0     0\n     4     8     9     0     0\n     5     6    10     0     0\n     2     3     0     0     0\n     2     4     0     0     0\n     7    11    12    13     0\n     4     4    14     0     0\n"

-- x * 0.5 < 12.25
unfoldable pub half_below : String
half_below = "     1     0     0     0     0\n    10   500     0     0     0\n     4     1     2     0     0\n     5     3     3     0     0\n    10 12250     0     0     0\n     4     4     5     0     0\n     5     6     6     0     0\n"

-- let y = x + 1 in y + 2, whose rows d stand before row c; x is identifier 0.
unfoldable pub wholes_later : String
wholes_later = "     1     1     0     0     0\n     2     2     0     0     0\n     4     1     2     0     0\n     5     1     3     0     0\n     1     0     0     0     0\n     2     1     0     0     0\n     4     5     6     0     0\n     5     1     7     0     0\n     6     1     1     8     4\n"

-- An iter as the formula.
unfoldable pub iter_alone : String
iter_alone = "     2     1     0     0     0\n     9     1     0     0     0\n"

-- let x = 1 in 2
unfoldable pub let_unused : String
let_unused = "     2     1     0     0     0\n     2     2     0     0     0\n     6     0     1     1     2\n"

-- n rows alike.
unfoldable pub alike : ℕ → String → List ℕ
unfolding bytes
alike zero s = []
alike (suc n) s = bytes s ++ alike n s

unfoldable pub constant_row : String
constant_row = "     2     1     0     0     0\n"
