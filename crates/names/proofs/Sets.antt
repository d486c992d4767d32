-- The laws of sets of names over the 33 places: what callers cite. The first part is about `mask`, `size`, `members` and
-- `below`; the second is for a caller whose number m is known to be a set's mask, one law for each function of the crate
-- and for `|` and `&`. They rest on Masks, Counts and Walk. Assumes nothing.
use mathlib.Core.Path.{◌≡◌, refl, sym, ap, ◌∙◌}
use mathlib.Core.Bool.{Bool, true, false}
use mathlib.Core.List.{[], ◌∷◌}
use Prim.Native.Nat.{ℕ, suc, ◌+◌, ◌-◌, ◌*◌, ◌/◌, ◌%◌, ◌^◌, ◌≤◌, ◌<◌}
use native.Mathlib.Omega.{arith}
use native.Mathlib.Nat.{zero-add, zero-div}
use lib.Bits.{bit_and, bit_or}
use lib.Count.{ones, count_trailing_zeros}
use lib.Dec.{eqb}
use lib.ListN.{length}
use Rattle.names.proofs.Masks.{bit-one, mask_from-cong, mask_from-bit, mask_from-or, mask_from-and, mask_from-without, mask_from-one, mask_from-range}
use Rattle.names.proofs.Counts.{size_from-cong, size_from-le, ones-mask_from, size_from-none, size_from-suc, size_from-mono, length-members_from, members_from-cong}
use Rattle.names.proofs.Walk.{Least, least, trailing-least, rest-least, members-least, members_from-none}
use Rattle.names.specs.Names.{Names, one, union, common, without, range, bit, mask, size, members, below, size_from}

-- ---- one set

module _ (f : Names) where
  -- testing a bit
  pub mask-bit : (i : ℕ) → i < 33 → mask f / 2 ^ i % 2 ≡ bit (f i)
  unfolding mask
  mask-bit i h = mask_from-bit 33 i f h

  pub mask-has : (i : ℕ) → i < 33 → eqb (mask f / 2 ^ i % 2) 1 ≡ f i
  mask-has i h = rw (mask-bit i h) (bit-one (f i))

  pub empty-mask : mask f ≡ 0 → (i : ℕ) → i < 33 → f i ≡ false
  empty-mask e i h = sym (mask-has i h) ∙ rw e (zero-digit (2 ^ i))
    where
      zero-digit : (p : ℕ) → eqb (0 / p % 2) 1 ≡ false
      zero-digit p = rw (zero-div p) refl

  pub ones-mask : ones (mask f) ≡ size f
  unfolding mask size
  ones-mask = ones-mask_from 33 f

  pub size-le : size f ≤ 33
  unfolding size
  size-le = size_from-le 33 f

  pub size-empty : ((i : ℕ) → i < 33 → f i ≡ false) → size f ≡ 0
  unfolding size
  size-empty h = size_from-none 33 f h

  pub length-members : length (members f) ≡ size f
  unfolding members size
  length-members = length-members_from 33 0 f

  pub members-empty : ((i : ℕ) → i < 33 → f i ≡ false) → members f ≡ []
  unfolding members
  members-empty h = members_from-none 33 0 f h

  -- where a place stands among the members
  pub below-zero : below f 0 ≡ 0
  unfolding below size_from
  below-zero = refl

  pub below_suc : (x : ℕ) → below f (suc x) ≡ below f x + bit (f x)
  unfolding below
  below_suc x = size_from-suc x f

  pub below_all : below f 33 ≡ size f
  unfolding below size
  below_all = refl

  pub below-mono : (x y : ℕ) → x ≤ y → below f x ≤ below f y
  unfolding below
  below-mono x y h = size_from-mono x y f h

  pub below-lt : (x : ℕ) → x < 33 → f x ≡ true → below f x < size f
  below-lt x h e =
      let s : below f (suc x) ≡ below f x + 1 = below_suc x ∙ ap (λ (b : Bool). below f x + bit b) e in
      omega (arith, below-mono (suc x) 33 h, below_all)

-- ---- two sets

module _ (f g : Names) where
  pub mask-cong : ((i : ℕ) → i < 33 → f i ≡ g i) → mask f ≡ mask g
  unfolding mask
  mask-cong h = mask_from-cong 33 f g h

  pub mask-or : bit_or (mask f) (mask g) ≡ mask (union f g)
  unfolding mask
  mask-or = mask_from-or 33 f g

  pub mask-and : bit_and (mask f) (mask g) ≡ mask (common f g)
  unfolding mask
  mask-and = mask_from-and 33 f g

  pub mask-without : bit_and (mask f) ((2 ^ 64 - 1) - mask g) ≡ mask (without f g)
  unfolding mask
  mask-without = mask_from-without 33 64 f g (omega arith)

  pub size-cong : ((i : ℕ) → i < 33 → f i ≡ g i) → size f ≡ size g
  unfolding size
  size-cong h = size_from-cong 33 f g h

  pub members-cong : ((i : ℕ) → i < 33 → f i ≡ g i) → members f ≡ members g
  unfolding members
  members-cong h = members_from-cong 33 0 f g h

  pub below-cong : (x : ℕ) → ((i : ℕ) → i < x → f i ≡ g i) → below f x ≡ below g x
  unfolding below
  below-cong x h = size_from-cong x f g h

-- ---- none, one, range

pub mask_one : (i : ℕ) → i < 33 → mask (one i) ≡ 2 ^ i
unfolding mask
mask_one i h = mask_from-one 33 i h

pub mask-range : (a b : ℕ) → a + b ≤ 33 → mask (range a b) ≡ 2 ^ a * (2 ^ b - 1)
unfolding mask
mask-range a b h = mask_from-range 33 a b h

-- ---- for a caller that knows m to be the mask of f

module _ (m : ℕ) (f : Names) (e : m ≡ mask f) where
  pub known-count : ones m ≡ size f
  known-count = rw e (ones-mask f)

  pub known-has : (i : ℕ) → i < 33 → eqb (m / 2 ^ i % 2) 1 ≡ f i
  known-has i h = rw e (mask-has f i h)

  pub known-members-none : m ≡ 0 → members f ≡ []
  known-members-none z = members-empty f (empty-mask f (sym e ∙ z))

  -- the walk
  module _ (p : 0 < m) where
    least-of : (t : ℕ) × Least 33 f t
    unfolding mask
    least-of = least 33 f (rw e at p)

    lowest-is : count_trailing_zeros 64 m ≡ least-of.0
    unfolding mask
    lowest-is = ap (count_trailing_zeros 64) e ∙ trailing-least 33 64 least-of.0 f (omega arith) least-of.1

    pub known-lowest : Least 33 f (count_trailing_zeros 64 m)
    known-lowest = rw lowest-is least-of.1

    pub known-rest : bit_and m (m - 1) ≡ mask (without f (one (count_trailing_zeros 64 m)))
    unfolding mask
    known-rest =
        ap (λ (x : ℕ). bit_and x (x - 1)) e ∙ rest-least 33 least-of.0 f least-of.1
        ∙ ap (λ (t : ℕ). mask (without f (one t))) (sym lowest-is)

    pub known-members : members f ≡ count_trailing_zeros 64 m ∷ members (without f (one (count_trailing_zeros 64 m)))
    unfolding members
    known-members = rw (lowest-is) (members-least 33 0 least-of.0 f least-of.1 ∙ ap (λ (x : ℕ). x ∷ members (without f (one least-of.0))) (zero-add least-of.0))

module _ (m k : ℕ) (f g : Names) (e : m ≡ mask f) (d : k ≡ mask g) where
  pub known-union : bit_or m k ≡ mask (union f g)
  known-union = rw (e, d) (mask-or f g)

  pub known-common : bit_and m k ≡ mask (common f g)
  known-common = rw (e, d) (mask-and f g)

  pub known-minus : bit_and m ((2 ^ 64 - 1) - k) ≡ mask (without f g)
  known-minus = rw (e, d) (mask-without f g)
