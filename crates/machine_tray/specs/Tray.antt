-- A tray of sets (document 02, Job 1), as a function from what it is lent to its answer and every lent byte at its end. "Answer and memory
-- are the same as pushing them one by one": each set is a push of its own (machine_calls' specs/Calls: `pushed`), with 11, 31, 12, 32, 33
-- in its order, on the memory as the sets before left it. Assumes nothing.
use Rattle.std.specs.Prelude.{ℕ, zero, suc, ◌*◌, List, [], ◌∷◌, eqb, take, drop}
use Rattle.value.specs.Operators.{pick}
use Rattle.machine_layout.specs.Layout.{inputs_of}
use Rattle.machine_calls.specs.Calls.{Outcome, answers, outcome, standing, pushed}

-- "each as long as the inputs ask": five bytes a value
abbrev pub set_bytes : List ℕ → ℕ
set_bytes m = 5 * inputs_of m

-- "a given number of sets lying behind each other": n sets of k bytes, cut from what is lent. "A set not wholly lent gets 12": the part of
-- it that is lent is shorter than a set. "It stops at the first that is refused, says how many went in and gives that refusal's number": c
-- sets went in before.
unfoldable pub pushed_in_turn : ℕ → ℕ → List ℕ → List ℕ → ℕ → Outcome
pushed_in_turn zero k m s c = outcome (answers 0 c) m
pushed_in_turn (suc n) k m s c =
    let o : Outcome = pushed m (take k s) in
    pick (eqb o.answer.refusal 0)
    (pushed_in_turn n k o.mem (drop k s) (suc c))
    (outcome (answers o.answer.refusal c) o.mem)

-- "a tray of none tests 11 and 31 only"; "bytes past the last are left aside".
unfoldable pub trayed : List ℕ → List ℕ → ℕ → Outcome
unfolding pushed_in_turn
trayed m s number =
    pick (eqb (standing m) 0)
    (pushed_in_turn number (set_bytes m) m s 0)
    (outcome (answers (standing m) 0) m)

-- The first n sets of k bytes.
unfoldable pub cut : ℕ → ℕ → List ℕ → List (List ℕ)
cut zero k s = []
cut (suc n) k s = take k s ∷ cut n k (drop k s)

-- The sets that went in.
unfoldable pub went_in : List ℕ → List ℕ → ℕ → List (List ℕ)
unfolding cut trayed
went_in m s number = cut (trayed m s number).answer.count (set_bytes m) s
