-- A number as the set of its bits, over all 64 places of a u64: the walk from the lowest place up, and the members of a set's mask.
-- Shown from the laws over the first n places. Assumes nothing.
use mathlib.Core.Path.{◌≡◌, refl, sym, ap, ap₂, ◌∙◌}
use mathlib.Core.Bool.{Bool, true, false}
use mathlib.Core.List.{List, [], ◌∷◌}
use Prim.Native.Nat.{ℕ, zero, suc, ◌+◌, ◌-◌, ◌*◌, ◌/◌, ◌%◌, ◌^◌, ◌≤◌, ◌<◌}
use native.Mathlib.Omega.{arith}
use native.Mathlib.Nat.{pow-suc, zero-add, zero-div, div-eq_of_lt, lt_of_lt_of_le}
use lib.Bits.{bit_and}
use lib.Count.{count_trailing_zeros}
use lib.Dec.{eqb}
use lib.Pow.{pow_mono, shr-shr}
use Rattle.std.specs.List.{All}
use Rattle.std.proofs.lemmas.List.Elements.{All-cons, All-nil}
use Rattle.names.proofs.Masks.{bit-one, mask_from-cong, mask_from-bit, mask_from-lt}
use Rattle.names.proofs.Counts.{members_from-cong}
use Rattle.names.proofs.Walk.{Least, least, trailing-least, rest-least, members-least, members_from-none}
use Rattle.names.specs.Names.{Names, one, without, later, bit, put, mask_from, members_from, mask, members, names_in, members_in}

-- ---- a number below 2^n is the mask of its bits

later-names : (m j : ℕ) → later (names_in m) j ≡ names_in (m / 2) j
unfolding names_in
later-names m j =
    let e : m / 2 ^ suc j ≡ m / 2 / 2 ^ j = ap (λ (k : ℕ). m / 2 ^ k) (omega arith) ∙ sym (shr-shr m 1 j) in
    ap (λ (k : ℕ). eqb (k % 2) 1) e

digit : (m : ℕ) → bit (names_in m 0) ≡ m % 2
unfolding names_in
digit m = go (m % 2) (omega arith) (let e : m / 2 ^ 0 ≡ m = omega arith in ap (λ (k : ℕ). bit (eqb (k % 2) 1)) e)
  where
    go : (d : ℕ) → d < 2 → bit (eqb (m / 2 ^ 0 % 2) 1) ≡ bit (eqb d 1) → bit (eqb (m / 2 ^ 0 % 2) 1) ≡ d
    go zero h e = e
    go (suc zero) h e = e
    go (suc (suc d)) h e = absurd (omega arith)

mask_from-names : (n m : ℕ) → m < 2 ^ n → mask_from n (names_in m) ≡ m
unfolding mask_from
mask_from-names zero m h = omega arith
mask_from-names (suc n) m h =
    ap₂ (λ (x y : ℕ). x + 2 * y) (digit m)
    (mask_from-cong n (later (names_in m)) (names_in (m / 2)) (λ i _. later-names m i) ∙ mask_from-names n (m / 2) (omega (arith, pow-suc 2 n)))
    ∙ omega arith

names-mask_from : (n : ℕ) (f : Names) (i : ℕ) → i < n → names_in (mask_from n f) i ≡ f i
unfolding names_in
names-mask_from n f i h = rw (mask_from-bit n i f h) (bit-one (f i))

-- ---- the walk

pub members_in-none : members_in 0 ≡ []
unfolding members_in names_in
members_in-none = members_from-none 64 0 (names_in 0) (λ i _. zero-digit (2 ^ i))
  where
    zero-digit : (p : ℕ) → eqb (0 / p % 2) 1 ≡ false
    zero-digit p = rw (zero-div p) refl

pub members_in-walk : (m : ℕ) → m < 2 ^ 64 → 0 < m → members_in m ≡ count_trailing_zeros 64 m ∷ members_in (bit_and m (m - 1))
unfolding members_in
members_in-walk m h p =
    let e : mask_from 64 (names_in m) ≡ m = mask_from-names 64 m h in
    walk (names_in m) e (least 64 (names_in m) (rw e p))
  where
    walk : (f : Names) → mask_from 64 f ≡ m → (t : ℕ) × Least 64 f t
        → members_from 64 0 f ≡ count_trailing_zeros 64 m ∷ members_from 64 0 (names_in (bit_and m (m - 1)))
    walk f e l =
        let g = without f (one l.0) in
        let r : mask_from 64 g ≡ bit_and m (m - 1) = sym (rest-least 64 l.0 f l.1) ∙ ap (λ (k : ℕ). bit_and k (k - 1)) e in
        let t : l.0 ≡ count_trailing_zeros 64 m = sym (trailing-least 64 64 l.0 f (omega arith) l.1) ∙ ap (count_trailing_zeros 64) e in
        members-least 64 0 l.0 f l.1
        ∙ ap₂ (λ (x : ℕ) (xs : List ℕ). x ∷ xs) (zero-add l.0 ∙ t)
        (members_from-cong 64 0 g (names_in (bit_and m (m - 1))) (λ i k. sym (names-mask_from 64 g i k) ∙ ap (λ (y : ℕ). names_in y i) r))

-- ---- the members of a set's mask

members_from-inside : (n at : ℕ) (f : Names) → All (λ x. x < at + n) (members_from n at f)
unfolding members_from
members_from-inside zero at f = All-nil (λ x. x < at + 0)
members_from-inside (suc n) at f =
    let e : suc at + n ≡ at + suc n = omega arith in
    put-inside (f 0) (members_from n (suc at) (later f)) (rw e at (members_from-inside n (suc at) (later f)))
  where
    put-inside : (b : Bool) (l : List ℕ) → All (λ x. x < at + suc n) l → All (λ x. x < at + suc n) (put b at l)
    put-inside true l h = All-cons (λ x. x < at + suc n) at l (omega arith) h
    put-inside false l h = h

pub members-inside : (f : Names) → All (λ x. x < 33) (members f)
unfolding members
members-inside f = members_from-inside 33 0 f

members_from-more : (n k at : ℕ) (f g : Names) → ((i : ℕ) → i < n → g i ≡ f i) → ((i : ℕ) → n ≤ i → g i ≡ false) → members_from (n + k) at g ≡ members_from n at f
unfolding members_from
members_from-more zero k at f g h z = let e : 0 + k ≡ k = omega arith in rw e (members_from-none k at g (λ i _. z i (omega arith)))
members_from-more (suc n) k at f g h z =
    let e : suc n + k ≡ suc (n + k) = omega arith in
    rw e
    (ap₂ (λ (b : Bool) (l : List ℕ). put b at l) (h 0 (omega arith))
    (members_from-more n k (suc at) (later f) (later g) (λ i l. h (suc i) (omega arith)) (λ i l. z (suc i) (omega arith))))

beyond : (f : Names) (i : ℕ) → 33 ≤ i → names_in (mask_from 33 f) i ≡ false
unfolding names_in
beyond f i h = small (mask_from 33 f) (2 ^ i) (lt_of_lt_of_le (mask_from-lt 33 f) (pow_mono h))
  where
    small : (k p : ℕ) → k < p → eqb (k / p % 2) 1 ≡ false
    small k p l = let z : k / p ≡ 0 = div-eq_of_lt l in rw z refl

-- for a caller that knows m to be the mask of f
pub known-members_in : (m : ℕ) (f : Names) → m ≡ mask f → members_in m ≡ members f
unfolding members_in members mask
known-members_in m f e =
    ap (λ (k : ℕ). members_from 64 0 (names_in k)) e
    ∙ members_from-more 33 31 0 f (names_in (mask_from 33 f)) (λ i h. names-mask_from 33 f i h) (λ i h. beyond f i h)
