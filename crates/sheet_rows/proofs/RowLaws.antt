-- Laws of the passes of tests 5, 6 and 7: one row of a test, and a tally of how often rows are named.
use Prim.Native.Nat.{ℕ, zero, suc, ◌+◌, ◌-◌, ◌≤◌, ◌<◌, min}
use mathlib.Core.Path.{◌≡◌, refl, sym, ap, ◌∙◌}
use mathlib.Core.Bool.{Bool, true, false, not, cond, ◌||◌, ◌&&◌}
use mathlib.Core.List.{List, [], ◌∷◌}
use native.Mathlib.Omega.{arith}
use native.Mathlib.Decide.{ℕ_discrete}
use lib.Dec.{eqb}
use lib.ListN.{length, get_or, set, length-set, replicate, get_or-replicate, length-replicate}
use lib.Seq.{get_or-set_same, get_or-set_other}
use borrow.Author.Tests.{eq-eqb, ne_eqb}
use Rattle.std.specs.Prelude.{Ok}
use Rattle.formula.specs.Sheet.{shape_at, named_in}
use Rattle.formula.specs.Tests.{placed_well, is_iter, occurrences, all_named, named_once, names_well, lowest}
use Rattle.formula.proofs.TestLaws.{passed-each, same-lowest}
use Rattle.formula.specs.TreeLaws.{AllBetween, Named}
use Rattle.formula.proofs.TreeLaws.{all-between}
use Rattle.formula.proofs.PlaceLaws.{occurs-append}
use Rattle.sheet_rows.specs.Tallies.{oftener, tally, tallied}

pub and-true-last : (b : Bool) → b && true ≡ b
and-true-last true = refl
and-true-last false = refl

pub placed_at : (t : List ℕ) (p : List Bool) (i : ℕ) → placed_well t p (i + 1) ≡ (not (is_iter (shape_at t (i + 1))) || get_or p i false)
unfolding placed_well
placed_at t p i = let e : i + 1 - 1 ≡ i = omega arith in ap (λ (k : ℕ). not (is_iter (shape_at t (i + 1))) || get_or p k false) e

-- What the rows up to r name, from what those before it name.
pub tallied_more : (t l₀ l : List ℕ) (r : ℕ) → 1 ≤ r → l ≡ tallied t (r - 1) l₀ → tally (named_in (shape_at t r)) l ≡ tallied t r l₀
unfolding tallied
tallied_more t l₀ l r h e =
    let f : r ≡ suc (r - 1) = omega arith in
    ap (tally (named_in (shape_at t r))) e ∙ ap (λ (k : ℕ). tally (named_in (shape_at t k)) (tallied t (r - 1) l₀)) f ∙ ap (λ (k : ℕ). tallied t k l₀) (sym f)

-- A count that stops at 2.
cap : ℕ → ℕ
cap k = min k 2

cap-more : (k : ℕ) → oftener (cap k) ≡ cap (k + 1)
unfolding cap
cap-more k = go (ℕ_discrete (min k 2) 0)
  where
    go : Dec (min k 2 ≡ 0) → oftener (min k 2) ≡ min (k + 1) 2
    go (yes e) = rw (eq-eqb (min k 2) 0 e) (omega arith)
    go (no e) = rw (ne_eqb (min k 2) 0 e) (omega arith)

cap-once : (k : ℕ) → eqb (cap k) 1 ≡ eqb k 1
unfolding cap
cap-once k = go (ℕ_discrete k 1)
  where
    go : Dec (k ≡ 1) → eqb (min k 2) 1 ≡ eqb k 1
    go (yes e) = eq-eqb (min k 2) 1 (omega arith) ∙ sym (eq-eqb k 1 e)
    go (no e) = ne_eqb (min k 2) 1 (λ (z : min k 2 ≡ 1). e (omega arith)) ∙ sym (ne_eqb k 1 e)

tally-length : (xs l : List ℕ) → length (tally xs l) ≡ length l
unfolding tally
tally-length [] l = refl
tally-length (x ∷ xs) l = tally-length xs (set l (x - 1) (oftener (get_or l (x - 1) 0))) ∙ length-set l (x - 1) (oftener (get_or l (x - 1) 0))

tallied-length : (t l : List ℕ) (n : ℕ) → length (tallied t n l) ≡ length l
unfolding tallied
tallied-length t l zero = refl
tallied-length t l (suc n) = tally-length (named_in (shape_at t (suc n))) (tallied t n l) ∙ tallied-length t l n

tally-at : (xs l : List ℕ) (k o r : ℕ) → AllBetween r xs → k < length l → get_or l k 0 ≡ cap o → get_or (tally xs l) k 0 ≡ cap (o + occurrences (suc k) xs)
unfolding tally occurrences
tally-at [] l k o r b h e = e ∙ ap cap (let z : o ≡ o + 0 = omega arith in z)
tally-at (x ∷ xs) l k o r b h e = go (ℕ_discrete x (suc k))
    (λ p e. tally-at xs (set l (x - 1) (oftener (get_or l (x - 1) 0))) k p r b.1 (rw (length-set l (x - 1) (oftener (get_or l (x - 1) 0))) h) e)
  where
    l' : List ℕ
    l' = set l (x - 1) (oftener (get_or l (x - 1) 0))

    go : Dec (x ≡ suc k) → ((p : ℕ) → get_or l' k 0 ≡ cap p → get_or (tally xs l') k 0 ≡ cap (p + occurrences (suc k) xs))
        → get_or (tally xs l') k 0 ≡ cap (o + (cond (eqb x (suc k)) 1 0 + occurrences (suc k) xs))
    go (yes z) ih =
        let i : x - 1 ≡ k = omega arith in
        let s : get_or l' k 0 ≡ oftener (get_or l k 0) = rw i (get_or-set_same l k (oftener (get_or l k 0)) 0 h) in
        let c : ◌≡◌ {A = ℕ} (cond (eqb x (suc k)) 1 0) 1 = rw (eq-eqb x (suc k) z) refl in
        ih (o + 1) (s ∙ ap oftener e ∙ cap-more o) ∙ ap cap (let q : o + 1 + occurrences (suc k) xs ≡ o + (cond (eqb x (suc k)) 1 0 + occurrences (suc k) xs) = omega arith in q)
    go (no z) ih =
        let s : get_or l' k 0 ≡ get_or l k 0 = get_or-set_other l (x - 1) k (oftener (get_or l (x - 1) 0)) 0 (λ (i : k ≡ x - 1). z (omega arith)) in
        let c : ◌≡◌ {A = ℕ} (cond (eqb x (suc k)) 1 0) 0 = rw (ne_eqb x (suc k) z) refl in
        ih o (s ∙ e) ∙ ap cap (let q : o + occurrences (suc k) xs ≡ o + (cond (eqb x (suc k)) 1 0 + occurrences (suc k) xs) = omega arith in q)

tallied-at : (t l : List ℕ) (m n k : ℕ) → Named t m → n ≤ m → k < length l → get_or l k 0 ≡ 0 → get_or (tallied t n l) k 0 ≡ cap (occurrences (suc k) (all_named t n))
unfolding tallied all_named occurrences cap
tallied-at t l m zero k ok b h e = e
tallied-at t l m (suc n) k ok b h e =
    tally-at (named_in (shape_at t (suc n))) (tallied t n l) k (occurrences (suc k) (all_named t n)) (suc n) (ok.names (suc n) (omega arith) b)
    (rw (tallied-length t l n) h) (tallied-at t l m n k ok (omega arith) h e)
    ∙ ap cap (sym (occurs-append (suc k) (all_named t n) (named_in (shape_at t (suc n)))))

pub named_by : (t : List ℕ) (n : ℕ) → lowest n (names_well t) ≡ Ok tt → Named t n
unfolding names_well
named_by t n h = record { names = λ r a b. all-between r (named_in (shape_at t r)) (passed-each n (names_well t) h r a b) }

-- By a tally of n rows: whether a row is named once, and test 6.
module _ (t l : List ℕ) (n : ℕ) (h : lowest n (names_well t) ≡ Ok tt) (z : l ≡ replicate n 0) where
  pub tallied-row : (r : ℕ) → 1 ≤ r → r ≤ n → eqb (get_or (tallied t n l) (r - 1) 0) 1 ≡ named_once (all_named t n) r
  tallied-row r a b =
      let e : suc (r - 1) ≡ r = omega arith in
      let len : length l ≡ n = ap length z ∙ length-replicate n 0 in
      ap (λ (v : ℕ). eqb v 1) (tallied-at t l n n (r - 1) (named_by t n h) (omega arith) (omega arith) (rw z (get_or-replicate n (r - 1) 0 0 (omega arith))))
      ∙ cap-once (occurrences (suc (r - 1)) (all_named t n))
      ∙ ap (λ (k : ℕ). named_once (all_named t n) k) e

  pub tallied-once : lowest (n - 1) (λ k. eqb (get_or (tallied t n l) (k - 1) 0) 1) ≡ lowest (n - 1) (λ k. named_once (all_named t n) k)
  tallied-once = same-lowest (n - 1) (λ k. eqb (get_or (tallied t n l) (k - 1) 0) 1) (λ k. named_once (all_named t n) k) (λ r a b. tallied-row r a (omega arith))
