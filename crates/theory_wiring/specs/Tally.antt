-- Tallies: how often a link stands in a list, and sums over the members of a set of names. That no link has two takers is shown by
-- counting: a link that stands at most once in a list of links has at most one place there. Assumes nothing.
use Rattle.std.specs.Prelude.{ℕ, zero, suc, ◌+◌, ◌*◌, ◌≤◌, ◌<◌, ◌≡◌, refl, Bool, true, false, ◌&&◌, ◌||◌, not, List, [], ◌∷◌, ◌++◌, take, drop, eqb}
use Rattle.names.specs.Names.{Names, one, union, common, without, later, bit, put, size_from, members_from}
use Rattle.network.specs.Uses.{In}
use Rattle.graph.specs.Assembly.{name_count, up_from, listed}

-- ---- how often a link stands in a list
unfoldable pub times : ℕ → List ℕ → ℕ
times l [] = 0
times l (x ∷ xs) = bit (eqb x l) + times l xs

-- ---- sums over the members of a set among the first k places
abbrev pub amount : Bool → ℕ → ℕ
amount true a = a
amount false a = 0

unfoldable pub sum_over : ℕ → Names → (ℕ → ℕ) → ℕ
sum_over zero f φ = 0
sum_over (suc k) f φ = amount (f 0) (φ 0) + sum_over k (later f) (λ i. φ (suc i))

-- ---- the same sums over lists of names
unfoldable pub list_sum : List ℕ → (ℕ → ℕ) → ℕ
list_sum [] φ = 0
list_sum (x ∷ xs) φ = φ x + list_sum xs φ
