-- Laws of `size`, `members` and `below`: how many places of a set there are, and where each stands among the members.
-- Shown over the first n places by induction. Assumes nothing.
use mathlib.Core.Path.{◌≡◌, refl, ap, ap₂, ◌∙◌}
use mathlib.Core.Bool.{Bool, true, false}
use mathlib.Core.List.{List}
use Prim.Native.Nat.{ℕ, zero, suc, ◌+◌, ◌*◌, ◌≤◌, ◌<◌}
use native.Mathlib.Omega.{arith}
use native.Mathlib.Nat.{zero-add}
use native.Mathlib.Numerals.{one-add}
use lib.Count.{ones, ones_step}
use lib.Dec.{eqb-suc-suc}
use lib.ListN.{length, get_or}
use borrow.Author.Tests.{ne_eqb}
use Rattle.names.proofs.Masks.{half, odd, bit_le}
use Rattle.names.specs.Names.{Names, one, later, bit, put, mask_from, size_from, members_from}

-- ---- size

pub size_from-cong : (n : ℕ) (f g : Names) → ((i : ℕ) → i < n → f i ≡ g i) → size_from n f ≡ size_from n g
unfolding size_from
size_from-cong zero f g h = refl
size_from-cong (suc n) f g h = ap₂ (λ (b : Bool) (m : ℕ). bit b + m) (h 0 (omega arith)) (size_from-cong n (later f) (later g) (λ i l. h (suc i) (omega arith)))

pub size_from-le : (n : ℕ) (f : Names) → size_from n f ≤ n
unfolding size_from
size_from-le zero f = omega arith
size_from-le (suc n) f = omega (arith, bit_le (f 0), size_from-le n (later f))

-- the count of ones of a mask
pub ones-mask_from : (n : ℕ) (f : Names) → ones (mask_from n f) ≡ size_from n f
unfolding mask_from size_from ones
ones-mask_from zero f = refl
ones-mask_from (suc n) f =
    let m = mask_from n (later f) in
    ones_step (bit (f 0) + 2 * m) ∙ rw (half (f 0) m, odd (f 0) m, ones-mask_from n (later f)) refl

pub size_from-none : (n : ℕ) (f : Names) → ((i : ℕ) → i < n → f i ≡ false) → size_from n f ≡ 0
unfolding size_from
size_from-none zero f h = refl
size_from-none (suc n) f h = rw (h 0 (omega arith), size_from-none n (later f) (λ i l. h (suc i) (omega arith))) refl

pub size_from-one : (n i : ℕ) → i < n → size_from n (one i) ≡ 1
unfolding size_from
size_from-one zero i h = absurd (omega arith)
size_from-one (suc n) zero h = rw (size_from-none n (later (one 0)) (λ j l. ne_eqb 0 (suc j) (λ e. omega arith))) refl
size_from-one (suc n) (suc i) h =
    rw (ne_eqb (suc i) 0 (λ e. omega arith), size_from-cong n (later (one (suc i))) (one i) (λ j l. eqb-suc-suc i j), size_from-one n i (omega arith)) refl

-- one place more
pub size_from-suc : (n : ℕ) (f : Names) → size_from (suc n) f ≡ size_from n f + bit (f n)
unfolding size_from
size_from-suc zero f = omega arith
size_from-suc (suc n) f = omega (arith, size_from-suc n (later f))

pub size_from-mono : (m n : ℕ) (f : Names) → m ≤ n → size_from m f ≤ size_from n f
unfolding size_from
size_from-mono zero n f h = omega arith
size_from-mono (suc m) zero f h = absurd (omega arith)
size_from-mono (suc m) (suc n) f h = omega (arith, size_from-mono m n (later f) (omega arith))

-- ---- members

put-length : (b : Bool) (x : ℕ) (l : List ℕ) → length (put b x l) ≡ bit b + length l
put-length true x l = omega arith
put-length false x l = omega arith

pub length-members_from : (n at : ℕ) (f : Names) → length (members_from n at f) ≡ size_from n f
unfolding members_from size_from
length-members_from zero at f = refl
length-members_from (suc n) at f = put-length (f 0) at (members_from n (suc at) (later f)) ∙ ap (λ (k : ℕ). bit (f 0) + k) (length-members_from n (suc at) (later f))

pub members_from-cong : (n at : ℕ) (f g : Names) → ((i : ℕ) → i < n → f i ≡ g i) → members_from n at f ≡ members_from n at g
unfolding members_from
members_from-cong zero at f g h = refl
members_from-cong (suc n) at f g h = ap₂ (λ (b : Bool) (l : List ℕ). put b at l) (h 0 (omega arith)) (members_from-cong n (suc at) (later f) (later g) (λ i l. h (suc i) (omega arith)))

-- a member stands where as many members are below it
pub member-at : (n at x : ℕ) (f : Names) → x < n → f x ≡ true → get_or (members_from n at f) (size_from x f) 0 ≡ at + x
unfolding members_from size_from
member-at zero at x f h e = absurd (omega arith)
member-at (suc n) at zero f h e = rw e (omega arith)
member-at (suc n) at (suc x) f h e = go (f 0) (member-at n (suc at) x (later f) (omega arith) e ∙ omega arith)
  where
    go : (b : Bool) → get_or (members_from n (suc at) (later f)) (size_from x (later f)) 0 ≡ at + suc x
        → get_or (put b at (members_from n (suc at) (later f))) (bit b + size_from x (later f)) 0 ≡ at + suc x
    go true ih = rw (one-add (size_from x (later f))) ih
    go false ih = rw (zero-add (size_from x (later f))) ih

-- the k-th member, counted from 0: a place that is in, with k members below it
pub record Member (n at k : ℕ) (f : Names) : Type 0 where
  pub place : ℕ
  pub inside : place < n
  pub is-in : f place ≡ true
  pub rank : size_from place f ≡ k
  pub listed : get_or (members_from n at f) k 0 ≡ at + place

pub member_of_lem : (n at k : ℕ) (f : Names) → k < size_from n f → Member n at k f
unfolding members_from size_from
member_of_lem zero at k f h = absurd (omega arith)
member_of_lem (suc n) at k f h = go (f 0) refl k h (λ i l. member_of_lem n (suc at) i (later f) l)
  where
    later-member : (i j : ℕ) → Member n (suc at) i (later f) → bit (f 0) + i ≡ j
        → get_or (put (f 0) at (members_from n (suc at) (later f))) j 0 ≡ get_or (members_from n (suc at) (later f)) i 0 → Member (suc n) at j f
    later-member i j m e l =
        record {
          place = suc m.place;
          inside = omega (arith, m.inside);
          is-in = m.is-in;
          rank = ap (λ (s : ℕ). bit (f 0) + s) m.rank ∙ e;
          listed = l ∙ m.listed ∙ omega arith;
        }

    go : (b : Bool) → f 0 ≡ b → (k : ℕ) → k < bit (f 0) + size_from n (later f) → ((i : ℕ) → i < size_from n (later f) → Member n (suc at) i (later f)) → Member (suc n) at k f
    go true e zero l ih = record { place = 0; inside = omega arith; is-in = e; rank = refl; listed = rw e (omega arith) }
    go true e (suc k) l ih =
        let l' : suc k < 1 + size_from n (later f) = rw e at l in
        later-member k (suc k) (ih k (omega (arith, l'))) (rw e (omega arith)) (rw e refl)
    go false e k l ih =
        let l' : k < 0 + size_from n (later f) = rw e at l in
        later-member k k (ih k (omega (arith, l'))) (rw e (omega arith)) (rw e refl)
