-- The queue of a link as bytes. Document 01, "Running": "A link's waiting tokens fill one stretch of token memory .. Freed places are used
-- again". A stretch is the count of waiting tokens, then five bytes a token (value's specs/Bytes), the oldest first. The word 0 is no token.
-- Total: where the count does not fit the stretch (altered memory), nothing is added or removed. Assumes nothing.
use Rattle.std.specs.Prelude.{ℕ, zero, suc, ◌+◌, ◌-◌, ◌*◌, Bool, List, [], ◌∷◌, length, get_or, drop, set, leb, eqb}
use Rattle.std.proofs.Math.Seq.{paste}
use Rattle.value.specs.Operators.{pick}
use Rattle.value.specs.Bytes.{word_at, stored}

abbrev pub waiting : List ℕ → ℕ
waiting q = get_or q 0 0

-- the oldest token's word, or 0
unfoldable pub head_of : List ℕ → ℕ
head_of q = pick (eqb (waiting q) 0) 0 (word_at q 1)

-- a place is free
unfoldable pub room_in : List ℕ → Bool
room_in q = leb (5 * waiting q + 6) (length q)

-- with one token more at the end, where there is room
unfoldable pub appended : List ℕ → ℕ → List ℕ
appended q w = pick (room_in q) (set (stored q (5 * waiting q + 1) w) 0 (waiting q + 1)) q

-- without its oldest token, where there is one and all lie in the stretch: the others move down
unfoldable pub removed : List ℕ → List ℕ
removed q =
    pick (eqb (waiting q) 0) q
    (pick (leb (5 * waiting q + 1) (length q)) (set (paste q 1 (drop 6 q) (5 * (waiting q - 1))) 0 (waiting q - 1)) q)

-- the words that wait, oldest first
unfoldable pub words_from : ℕ → List ℕ → List ℕ
words_from zero q = []
words_from (suc n) q = word_at q 0 ∷ words_from n (drop 5 q)

unfoldable pub words : List ℕ → List ℕ
words q = words_from (waiting q) (drop 1 q)
