-- Test 1 part by part: what is kept after a part more is what is kept of all bytes, and tells test 1 of all of them. Assumes nothing.
use Rattle.std.specs.Prelude.{ℕ, ◌+◌, Bool, true, ◌&&◌, List, [], ◌∷◌, eqb, ltb}
use Rattle.value.specs.Operators.{pick}

-- Whether each row that is whole ends in a line feed, from a place in a row on.
unfoldable pub ended : ℕ → List ℕ → Bool
ended c [] = true
ended c (b ∷ s) = pick (ltb c 30) (ended (c + 1) s) (eqb b 10 && ended 0 s)
