-- Laws of set lines: a line of the file that is a set has the fixed length of one, so a pass that steps by that length finds the same lines as the
-- definition, and the same lowest line at fault. Assumes nothing.
use Prim.Native.Nat.{ℕ, ◌+◌, ◌≤◌}
use Rattle.std.specs.Prelude.{◌≡◌, Bool, false, List, [], ◌∷◌, length, get_or, take, eqb, Result, Ok, Err}
use Rattle.value.specs.Bytes.{is_some}
use Rattle.value.specs.Kinds.{of_kind}
use Rattle.text.specs.Fields.{field_value}
use Rattle.text.specs.SetLines.{field_at, SetFile, sets as setsIn, bad_line}

-- ---- a value's field has no line feed
abbrev pub NoFeed : List ℕ → Type 0
NoFeed [] = Unit
NoFeed (b ∷ s) = (eqb b 10 ≡ false) × NoFeed s

-- ---- fields one by one
-- Whether a line's field j is a value of its kind, or an err.
abbrev pub field_well : List ℕ → List ℕ → ℕ → Bool
field_well kinds l j = is_some (of_kind (get_or kinds j 0) (field_value (field_at l j)))

-- A first line is what its length takes from the file.
abbrev pub First : List ℕ → List (List ℕ) → Type 0
First r [] = Unit
First r (l ∷ ls) = take (length l) r ≡ l

-- ---- a pass that has read n sets
abbrev pub more_than : ℕ → SetFile → Result ℕ ℕ
more_than n (setsIn ss) = Ok (n + length ss)
more_than n (bad_line i) = Err i

abbrev pub Few : SetFile → ℕ → Type 0
Few (setsIn ss) n = length ss ≤ n
Few (bad_line i) n = i ≤ n

-- The lines from line i on go no further than line n.
abbrev pub Sized : SetFile → ℕ → ℕ → Type 0
Sized (setsIn ss) i n = i + length ss ≤ n + 1
Sized (bad_line j) i n = j ≤ n
