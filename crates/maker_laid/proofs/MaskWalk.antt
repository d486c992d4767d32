-- A walk over the names in a mask, lowest first: trailing zeros give the lowest, and the mask and itself less one is the mask of the rest.
use Rattle.std.specs.Prelude.{ℕ, suc, ◌-◌, ◌/◌, ◌%◌, ◌^◌, ◌≤◌, ◌<◌, ◌≡◌, length}
use Rattle.std.proofs.Common.{sym, ap₂, ◌∙◌, arith}
use Rattle.std.proofs.Math.Path.{ap}
use mathlib.Core.List.{List, [], ◌∷◌}
use Rattle.std.specs.Int.Bits.{bit_and}
use Rattle.std.proofs.lemmas.Nat.{and_le_r}
use Rattle.std.specs.Int.Count.{count_trailing_zeros}
use Rattle.std.proofs.Math.Dec.{eqb}
use Rattle.names.specs.Names.{Names, one, without, mask, members, names_in}
use Rattle.names.proofs.Sets.{mask-has, members-cong, known-members, known-rest, known-lowest}
use Rattle.maker_laid.specs.Masked.{list_of, list-is, list-empty, Mask}

-- ---- for a caller that knows m to be the mask of a set

module _ (m : ℕ) (f : Names) (e : m ≡ mask f) (p : 0 < m) where
  pub list-walk : list_of m ≡ count_trailing_zeros 64 m ∷ list_of (bit_and m (m - 1))
  unfolding list_of names_in
  list-walk =
      list-is m f e ∙ known-members m f e p
      ∙ ap (λ (l : List ℕ). count_trailing_zeros 64 m ∷ l) (sym (of-rest (bit_and m (m - 1)) (without f (one (count_trailing_zeros 64 m))) (known-rest m f e p)))
    where
      of-rest : (k : ℕ) (g : Names) → k ≡ mask g → list_of k ≡ members g
      of-rest k g d = members-cong (names_in k) g (λ i h. ap (λ (j : ℕ). eqb (j / 2 ^ i % 2) 1) d ∙ mask-has g i h)

  pub lowest-inside : count_trailing_zeros 64 m < 33
  lowest-inside = (known-lowest m f e p).inside

-- ---- for a caller that knows m to be a mask

module _ (m : ℕ) (k : Mask m) where
  pub mask-ended : m ≡ 0 → list_of m ≡ []
  mask-ended z = list-empty m k.set k.is z

  module _ (p : 0 < m) where
    pub mask-walk : list_of m ≡ count_trailing_zeros 64 m ∷ list_of (bit_and m (m - 1))
    mask-walk = list-walk m k.set k.is p

    pub mask-lowest : count_trailing_zeros 64 m < 33
    mask-lowest = lowest-inside m k.set k.is p

    pub mask-rest : Mask (bit_and m (m - 1))
    mask-rest = record { set = without k.set (one (count_trailing_zeros 64 m)); is = known-rest m k.set k.is p }

    pub mask-less : bit_and m (m - 1) < m
    mask-less = let h : bit_and m (m - 1) ≤ m - 1 = and_le_r m (m - 1) in omega arith

-- One turn of a walk: the lowest name x and the mask r without it.
pub record Walked (m x r : ℕ) : Type 0 where
  pub inside : x < 33
  pub masked : Mask r
  pub less : r < m
  pub walk : list_of m ≡ x ∷ list_of r
  pub shorter : length (list_of m) ≡ suc (length (list_of r))

pub walked : (m x r : ℕ) → Mask m → (m ≡ 0 → ⊥) → x ≡ count_trailing_zeros 64 m → r ≡ bit_and m (m - 1) → Walked m x r
walked m x r k ne p q =
    let h : 0 < m = omega arith in
    let w : list_of m ≡ x ∷ list_of r = mask-walk m k h ∙ ap₂ (λ (y : ℕ) (s : ℕ). y ∷ list_of s) (sym p) (sym q) in
    record {
      inside = rw p (mask-lowest m k h);
      masked = rw q (mask-rest m k h);
      less = rw q (mask-less m k h);
      walk = w;
      shorter = ap (length {A = ℕ}) w;
    }
