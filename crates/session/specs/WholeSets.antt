-- The sets of a file (text/specs/SetLines) are sets that push takes: the program's lines were tested for 12 before the first push, so no push of theirs gives it.
-- Assumes nothing.
use Rattle.std.specs.Prelude.{ℕ, suc, ◌≡◌, refl, Bool, true, false, List, [], ◌∷◌, length}
use Rattle.value.specs.Operators.{pick}
use Rattle.value_sets.specs.Sets.{set_ok}
use Rattle.text.specs.SetLines.{lines_of, is_set_line, field_bytes, SetFile, sets, bad_line, one_more, sets_from, sets_of}

-- Each of some sets is one that push takes.
abbrev pub EachWhole : List ℕ → List (List ℕ) → Type 0
EachWhole kinds [] = Unit {0}
EachWhole kinds (s ∷ ss) = (set_ok kinds s ≡ true) × EachWhole kinds ss
