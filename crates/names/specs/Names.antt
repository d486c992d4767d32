-- Sets of names: document 01, "The graph" ("The free names of a row form a set over 33 places") and "Forms to follow"
-- ("a u64 mask per row; the number of gates and of copies comes from its count of ones, trailing zeros walk the names").
-- A set is a predicate on places; what it holds from place 33 on never counts. The laws are in proofs/. Assumes nothing.
use Rattle.std.specs.Prelude.{ℕ, zero, suc, ◌+◌, ◌*◌, ◌/◌, ◌%◌, ◌^◌, Bool, true, false, ◌&&◌, ◌||◌, not, List, [], ◌∷◌, eqb, leb, ltb}

abbrev pub Names : Type 0
Names = ℕ → Bool

-- "trigger is a name like the 32 identifiers": identifiers are places 0 to 31, the trigger is place 32
abbrev pub places : ℕ
places = 33

abbrev pub trigger : ℕ
trigger = 32

abbrev pub has : Names → ℕ → Bool
has f i = f i

abbrev pub none : Names
none j = false

abbrev pub one : ℕ → Names
one i j = eqb i j

abbrev pub union : Names → Names → Names
union f g j = f j || g j

abbrev pub common : Names → Names → Names
common f g j = f j && g j

abbrev pub without : Names → Names → Names
without f g j = f j && not (g j)

-- the places a to a + b - 1
abbrev pub range : ℕ → ℕ → Names
range a b j = leb a j && ltb j (a + b)

-- the set seen from one place on: place 0 of it is place 1 of the set
abbrev pub later : Names → Names
later f j = f (suc j)

abbrev pub bit : Bool → ℕ
bit true = 1
bit false = 0

-- the number of members among the first n places
unfoldable pub size_from : ℕ → Names → ℕ
size_from zero f = 0
size_from (suc n) f = bit (f 0) + size_from n (later f)

-- the number whose bit i is set where place i is in the set, over the first n places
unfoldable pub mask_from : ℕ → Names → ℕ
mask_from zero f = 0
mask_from (suc n) f = bit (f 0) + 2 * mask_from n (later f)

abbrev pub put : Bool → ℕ → List ℕ → List ℕ
put true x l = x ∷ l
put false x l = l

-- the members among the first n places, rising; place 0 is called `at`
unfoldable pub members_from : ℕ → ℕ → Names → List ℕ
members_from zero at f = []
members_from (suc n) at f = put (f 0) at (members_from n (suc at) (later f))

-- Over the 33 places. To compute one of these, unfold its recursion too (`unfolding size size_from`).
unfoldable pub size : Names → ℕ
size f = size_from places f

unfoldable pub mask : Names → ℕ
mask f = mask_from places f

unfoldable pub members : Names → List ℕ
members f = members_from places 0 f

-- a u64 as a set: the places whose bits are set, and those among all its 64 in rising order
unfoldable pub names_in : ℕ → Names
names_in m i = eqb (m / 2 ^ i % 2) 1

unfoldable pub members_in : ℕ → List ℕ
members_in m = members_from 64 0 (names_in m)

-- the number of members below place x: where x stands among the members
unfoldable pub below : Names → ℕ → ℕ
below f x = size_from x f
