-- Lists of names (graph/specs/Assembly, Fit): which names a list holds, for a stretch of names, for the members of a set over the
-- 33 places and for two lists together, and that no name stands twice in them. Assumes nothing.
use Rattle.std.specs.Prelude.{ℕ, zero, suc, ◌+◌, ◌≤◌, ◌<◌, ◌≡◌, refl, Bool, true, false, ◌&&◌, ◌||◌, List, [], ◌∷◌, ◌++◌, length, eqb, leb, ltb}
use Rattle.names.specs.Names.{Names, range, later, put, members, members_from}
use Rattle.graph.specs.Assembly.{member_of, up_from, name_count}
use Rattle.graph.specs.Fit.{Different}

-- No name is in both lists.
abbrev pub Apart : List ℕ → List ℕ → Type 0
Apart xs ys = (k : ℕ) → member_of xs k ≡ true → member_of ys k ≡ false

-- A set of names: nothing from place 33 on.
abbrev pub Small : Names → Type 0
Small f = (k : ℕ) → 33 ≤ k → f k ≡ false
