-- Sets of names worked out: a let that binds identifiers 2 to 4 in a row whose free names are 1, 2, 3 and the trigger.
-- They hold the definitions in Names to document 01, "The graph". Assumes nothing.
use Rattle.std.specs.Prelude.{◌+◌, ◌^◌, ◌≡◌, refl, [], ◌∷◌}
use Rattle.names.specs.Names.{Names, trigger, one, union, common, without, range, size, size_from, mask, mask_from, members, members_from, below}

abbrev used : Names
used = union (one 1) (union (one 3) (union (one 2) (one trigger)))

abbrev bound : Names
bound = range 2 3

-- the free names outside, the bound ones that are used, and their numbers
pub free_names : members (without used bound) ≡ 1 ∷ 32 ∷ []
unfolding members members_from
free_names = refl

pub bound-names : members (common bound used) ≡ 2 ∷ 3 ∷ []
unfolding members members_from
bound-names = refl

pub bound-places : members bound ≡ 2 ∷ 3 ∷ 4 ∷ []
unfolding members members_from
bound-places = refl

pub masks : mask bound ∷ mask used ∷ mask (without used bound) ∷ [] ≡ 28 ∷ (2 ^ 32 + 14) ∷ (2 ^ 32 + 2) ∷ []
unfolding mask mask_from
masks = refl

pub numbers : size used ∷ below used 3 ∷ below used trigger ∷ below used 1 ∷ size bound ∷ [] ≡ 4 ∷ 2 ∷ 3 ∷ 0 ∷ 3 ∷ []
unfolding size size_from below
numbers = refl
