-- Laws of specs/Net.antt, and what only they need.
use Rattle.std.specs.Prelude.{ℕ, ◌<◌, ◌≤◌, ◌≡◌, refl, ◌≢◌, List, [], ◌∷◌, ◌++◌, length}
use Rattle.std.proofs.Common.{sym, ◌∙◌, length-append, arith}
use Rattle.std.proofs.Math.Path.{fun_ext}
use Rattle.std.proofs.Math.Logic.{ite}
use Rattle.std.proofs.Math.Decide.{ℕ_discrete}
use Rattle.network.specs.Net.{Token, Links, head, tail, pop, append}

-- Laws of pop and append, each by cases of its tests.
pub pop-same : (l : ℕ) (q : Links) → pop l q l ≡ tail (q l)
unfolding pop
pop-same l q = go (ℕ_discrete l l)
  where
    go : (d : Dec (l ≡ l)) → ite d (tail (q l)) (q l) ≡ tail (q l)
    go (yes p) = refl
    go (no n) = absurd (n refl)

pub pop-other : (l j : ℕ) (q : Links) → j ≢ l → pop l q j ≡ q j
unfolding pop
pop-other l j q ne = go (ℕ_discrete j l)
  where
    go : (d : Dec (j ≡ l)) → ite d (tail (q j)) (q j) ≡ q j
    go (yes p) = absurd (ne p)
    go (no n) = refl

pub append-same : (l : ℕ) (t : Token) (q : Links) → append l t q l ≡ q l ++ (t ∷ [])
unfolding append
append-same l t q = go (ℕ_discrete l l)
  where
    go : (d : Dec (l ≡ l)) → ite d (q l ++ (t ∷ [])) (q l) ≡ q l ++ (t ∷ [])
    go (yes p) = refl
    go (no n) = absurd (n refl)

pub append-other : (l j : ℕ) (t : Token) (q : Links) → j ≢ l → append l t q j ≡ q j
unfolding append
append-other l j t q ne = go (ℕ_discrete j l)
  where
    go : (d : Dec (j ≡ l)) → ite d (q j ++ (t ∷ [])) (q j) ≡ q j
    go (yes p) = absurd (ne p)
    go (no n) = refl

pub pop-pop : (l m : ℕ) (q : Links) → pop l (pop m q) ≡ pop m (pop l q)
unfolding pop
pop-pop l m q = fun_ext (λ j. go j (ℕ_discrete j l) (ℕ_discrete j m))
  where
    go : (j : ℕ) (d : Dec (j ≡ l)) (e : Dec (j ≡ m)) →
        ite d (tail (ite e (tail (q j)) (q j))) (ite e (tail (q j)) (q j)) ≡ ite e (tail (ite d (tail (q j)) (q j))) (ite d (tail (q j)) (q j))
    go j (yes p) (yes r) = refl
    go j (yes p) (no r) = refl
    go j (no p) (yes r) = refl
    go j (no p) (no r) = refl

pub tail-snoc : (xs : List Token) (t : Token) → 0 < length xs → tail (xs ++ (t ∷ [])) ≡ tail xs ++ (t ∷ [])
tail-snoc [] t h = absurd (omega arith)
tail-snoc (x ∷ xs) t h = refl

pub head-snoc : (xs : List Token) (t : Token) → 0 < length xs → head (xs ++ (t ∷ [])) ≡ head xs
head-snoc [] t h = absurd (omega arith)
head-snoc (x ∷ xs) t h = refl

pub pop-append : (l m : ℕ) (t : Token) (q : Links) → 0 < length (q l) → pop l (append m t q) ≡ append m t (pop l q)
unfolding pop append
pop-append l m t q h = fun_ext (λ j. go j (ℕ_discrete j l) (ℕ_discrete j m))
  where
    go : (j : ℕ) (d : Dec (j ≡ l)) (e : Dec (j ≡ m)) →
        ite d (tail (ite e (q j ++ (t ∷ [])) (q j))) (ite e (q j ++ (t ∷ [])) (q j))
        ≡ ite e (ite d (tail (q j)) (q j) ++ (t ∷ [])) (ite d (tail (q j)) (q j))
    go j (yes p) (yes r) = tail-snoc (q j) t (rw p h)
    go j (yes p) (no r) = refl
    go j (no p) (yes r) = refl
    go j (no p) (no r) = refl

pub append-append : (l m : ℕ) (t u : Token) (q : Links) → l ≢ m → append l t (append m u q) ≡ append m u (append l t q)
unfolding append
append-append l m t u q ne = fun_ext (λ j. go j (ℕ_discrete j l) (ℕ_discrete j m))
  where
    go : (j : ℕ) (d : Dec (j ≡ l)) (e : Dec (j ≡ m)) →
        ite d (ite e (q j ++ (u ∷ [])) (q j) ++ (t ∷ [])) (ite e (q j ++ (u ∷ [])) (q j))
        ≡ ite e (ite d (q j ++ (t ∷ [])) (q j) ++ (u ∷ [])) (ite d (q j ++ (t ∷ [])) (q j))
    go j (yes p) (yes r) = absurd (ne (sym p ∙ r))
    go j (yes p) (no r) = refl
    go j (no p) (yes r) = refl
    go j (no p) (no r) = refl

-- lengths
pub pop-shortens : (l j : ℕ) (q : Links) → length (pop l q j) ≤ length (q j)
unfolding pop
pop-shortens l j q = go (q j) (ℕ_discrete j l)
  where
    go : (xs : List Token) (d : Dec (j ≡ l)) → length (ite d (tail xs) xs) ≤ length xs
    go [] (yes p) = omega arith
    go (x ∷ xs) (yes p) = omega arith
    go xs (no p) = omega arith

pub append-lengthens : (l j : ℕ) (t : Token) (q : Links) → length (q j) ≤ length (append l t q j)
unfolding append
append-lengthens l j t q = go (q j) (ℕ_discrete j l)
  where
    go : (xs : List Token) (d : Dec (j ≡ l)) → length xs ≤ length (ite d (xs ++ (t ∷ [])) xs)
    go xs (yes p) = simp length-append (omega arith)
    go xs (no p) = omega arith

-- what a append leaves of the head
pub head-append : (l j : ℕ) (t : Token) (q : Links) → 0 < length (q j) → head (append l t q j) ≡ head (q j)
unfolding append
head-append l j t q h = go (ℕ_discrete j l)
  where
    go : (d : Dec (j ≡ l)) → head (ite d (q j ++ (t ∷ [])) (q j)) ≡ head (q j)
    go (yes p) = head-snoc (q j) t h
    go (no p) = refl
