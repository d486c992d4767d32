-- The names in a mask, rising (document 01, "Forms to follow": "a u64 mask per row; .. trailing zeros walk the names"). A mask is a number
-- below 2^33. Assumes nothing.
use Rattle.std.specs.Prelude.{ℕ, ◌/◌, ◌%◌, ◌^◌, ◌≤◌, ◌<◌, ◌≡◌, length}
use Rattle.std.proofs.Common.{sym, ◌∙◌}
use Rattle.std.proofs.Math.Path.{ap}
use mathlib.Core.List.{List, []}
use Rattle.std.specs.Int.Count.{ones}
use Rattle.std.proofs.Math.Dec.{eqb}
use Rattle.names.specs.Names.{Names, mask, size, members, names_in, members_in}
use Rattle.names.proofs.Numbers.{known-members_in, members-inside}
use Rattle.std.specs.List.{All}
use Rattle.names.proofs.Sets.{mask-has, members-cong, ones-mask, length-members, size-le, known-members-none}

unfoldable pub list_of : ℕ → List ℕ
unfolding names_in members
list_of m = members (names_in m)

-- ---- laws: for a caller that knows m to be the mask of a set

module _ (m : ℕ) (f : Names) (e : m ≡ mask f) where
  pub list-is : list_of m ≡ members f
  unfolding list_of names_in
  list-is = members-cong (names_in m) f (λ i h. ap (λ (k : ℕ). eqb (k / 2 ^ i % 2) 1) e ∙ mask-has f i h)

  pub list_length : length (list_of m) ≡ size f
  list_length = ap (length {A = ℕ}) list-is ∙ length-members f

  pub list-ones : length (list_of m) ≡ ones m
  list-ones = list_length ∙ sym (ones-mask f) ∙ ap ones (sym e)

  pub list-short : length (list_of m) ≤ 33
  list-short = rw list_length (size-le f)

  pub list-empty : m ≡ 0 → list_of m ≡ []
  list-empty z = list-is ∙ known-members-none m f e z

-- A mask: the number of some set.
pub record Mask (m : ℕ) : Type 0 where
  pub set : Names
  pub is : m ≡ mask set

module _ (m : ℕ) (k : Mask m) where
  pub mask-short : length (list_of m) ≤ 33
  mask-short = list-short m k.set k.is

  -- what a walk over the mask gives
  pub mask-items : members_in m ≡ list_of m
  mask-items = known-members_in m k.set k.is ∙ sym (list-is m k.set k.is)

  pub mask-inside : All (λ x. x < 33) (list_of m)
  mask-inside = rw (list-is m k.set k.is) (members-inside k.set)

pub mask-ones : (m : ℕ) (k : Mask m) → length (list_of m) ≡ ones m
mask-ones m k = list-ones m k.set k.is
