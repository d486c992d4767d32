-- Where the file of a stored case is found.
use Rattle.std.specs.Prelude.{ℕ, ◌+◌, ◌/◌, ◌%◌, List, ◌∷◌}

-- The last decimal digit of k.
unfoldable pub digit_at : ℕ → ℕ
digit_at k = 48 + k % 10

-- NNN/ and the file's name
unfoldable pub case_path : ℕ → List ℕ → List ℕ
unfolding digit_at
case_path k name = digit_at (k / 100) ∷ digit_at (k / 10) ∷ digit_at k ∷ 47 ∷ name
