-- "lowest row given": what one test says of two lots of rows, from what it says of each. Assumes nothing.
use Rattle.std.specs.Prelude.{ℕ, ◌≤◌, ◌<◌, ◌≡◌, refl, Bool, true, false, cond, List, [], ◌∷◌, ◌++◌, leb, Ok, Err}
use Rattle.std.proofs.Common.{ap, ◌∙◌, leb-true, leb-false, le-leb, arith}
use Rattle.std.proofs.lemmas.Bool.{lt-leb}
use Rattle.formula.specs.Results.{Check}
use Rattle.formula.specs.Faults.{lower, lowest_of}

-- The lower of two rows at fault.
abbrev pub lesser : Check → Check → Check
lesser (Ok _) c = c
lesser (Err r) c = lower r c

-- A row's own rule, kept or not.
abbrev pub own : ℕ → Bool → Check
own r true = Ok tt
own r false = Err r

least : ℕ → ℕ → ℕ
least a b = cond (leb a b) a b

least-assoc : (a b c : ℕ) → least a (least b c) ≡ least (least a b) c
unfolding least
least-assoc a b c = go (leb a b) refl (leb b c) refl
  where
    go : (x : Bool) → leb a b ≡ x → (y : Bool) → leb b c ≡ y
        → cond (leb a (cond (leb b c) b c)) a (cond (leb b c) b c) ≡ cond (leb (cond (leb a b) a b) c) (cond (leb a b) a b) c
    go true p true q =
        let i : a ≤ b = leb-true a b p in
        let j : b ≤ c = leb-true b c q in
        let k : a ≤ c = omega arith in
        simp (p, q, le-leb a c k)
    go true p false q = simp (p, q)
    go false p true q = simp (p, q)
    go false p false q =
        let i : b < a = leb-false a b p in
        let j : c < b = leb-false b c q in
        let k : c < a = omega arith in
        simp (p, q, lt-leb a c k)

lesser-assoc : (x y z : Check) → lesser x (lesser y z) ≡ lesser (lesser x y) z
unfolding least
lesser-assoc (Ok _) y z = refl
lesser-assoc (Err a) (Ok _) z = refl
lesser-assoc (Err a) (Err b) (Ok _) = refl
lesser-assoc (Err a) (Err b) (Err c) = ap Err (least-assoc a b c)

pub lowest-append : (xs ys : List ℕ) → lowest_of (xs ++ ys) ≡ lesser (lowest_of xs) (lowest_of ys)
unfolding lowest_of
lowest-append [] ys = refl
lowest-append (x ∷ xs) ys = ap (lower x) (lowest-append xs ys) ∙ lesser-assoc (Err x) (lowest_of xs) (lowest_of ys)

pub lowest-own : (r : ℕ) (ok : Bool) → lowest_of (cond ok [] (r ∷ [])) ≡ own r ok
unfolding lowest_of
lowest-own r true = refl
lowest-own r false = refl
