-- What the tidy call answers and leaves on chosen sheets, by computation (document 02, Job 8). They hold the definitions to the paper; "Acceptance and
-- evaluation still read a sheet as it is handed in" is said of the same sheets. Assumes nothing.
use Rattle.std.specs.Prelude.{ℕ, ◌≡◌, refl, List, ◌++◌, replicate}
use Prim.Native.String.{String}
use Rattle.formula.specs.declared.Refusal.TheVariants.{Rows, Malformed, Naming, Named, Memory}
use Rattle.formula.specs.Refusals.{number_of}
use Rattle.formula.specs.Tests.{reading_of, figures_of}
use Rattle.examples.specs.Sheets.{bytes, alike, constant_row}

-- Memory of n bytes, each 7.
abbrev pub sevens : ℕ → List ℕ
sevens n = replicate n 7

-- x + 10 with a constant and its negation left behind, rows 2 and 4: 186 bytes, and 124 without them.
unfoldable pub with_dead_rows : String
with_dead_rows = "     1     0     0     0     0\n     2     7     0     0     0\n     2    10     0     0     0\n     5    11     2     0     0\n     4     1     3     0     0\n     5     1     5     0     0\n"

unfoldable pub without : String
without = "     1     0     0     0     0\n     2    10     0     0     0\n     4     1     2     0     0\n     5     1     3     0     0\n"

-- x + x, the pair naming row 1 twice, with row 2 left behind: it is tidied, and the new sheet gets 6.
unfoldable pub pair_of_one : String
pair_of_one = "     1     0     0     0     0\n     2     7     0     0     0\n     4     1     1     0     0\n     5     1     3     0     0\n"

unfoldable pub still_of_one : String
still_of_one = "     1     0     0     0     0\n     4     1     1     0     0\n     5     1     2     0     0\n"

-- - x, with a second - x of the same row left behind. As it is handed in it gets 6; the name in the dead row is dropped with it.
unfoldable pub named_from_dead_row : String
named_from_dead_row = "     1     0     0     0     0\n     5    11     1     0     0\n     5    11     1     0     0\n"

unfoldable pub named_once_now : String
named_once_now = "     1     0     0     0     0\n     5    11     1     0     0\n"

-- Tests 1 to 5 look at dead rows too: one with a malformed field, and one that names a row behind it.
unfoldable pub dead_malformed : String
dead_malformed = "     1     0     0     0     0\n     2    07     0     0     0\n     5    11     1     0     0\n"

unfoldable pub dead_naming : String
dead_naming = "     1     0     0     0     0\n     5    11     3     0     0\n     5    11     1     0     0\n"

-- let y = 0.5 in for z = x do if z < y then z else iter z, with a dead row in front and one in the middle.
unfoldable pub every_kind : String
every_kind = "     3     1     0     0     0\n    10   500     0     0     0\n     1     0     0     0     0\n     1     2     0     0     0\n     1     1     0     0     0\n     4     4     5     0     0\n     5     6     6     0     0\n     1     2     0     0     0\n     5    11     8     0     0\n     1     2     0     0     0\n     1     2     0     0     0\n     9    11     0     0     0\n     7     7    10    12     0\n     8     2     1     3    13\n     6     1     1     2    14\n"

unfoldable pub every_kind_tidied : String
every_kind_tidied = "    10   500     0     0     0\n     1     0     0     0     0\n     1     2     0     0     0\n     1     1     0     0     0\n     4     3     4     0     0\n     5     6     5     0     0\n     1     2     0     0     0\n     1     2     0     0     0\n     9     8     0     0     0\n     7     6     7     9     0\n     8     2     1     2    10\n     6     1     1     1    11\n"
