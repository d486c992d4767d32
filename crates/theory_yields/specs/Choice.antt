-- An if behind its test, as the translation makes it (Brock, figures 2.8 and 2.12): T gates on one arm, F gates on the other, and a graph
-- that joins what the arms give. One shape serves expressions and bodies. Here are its free names.
use Rattle.std.specs.Prelude.{ℕ, ◌≤◌, ◌<◌, ◌≡◌, Bool, true, false, not, ◌&&◌, ◌||◌, List, [], ◌∷◌, eqb, ltb}
use Rattle.names.specs.Names.{Names, union, members}
use Rattle.graph.specs.Assembly.{Graph, bind, Gate, T, F, free, member_of}
use Rattle.graph.specs.Translation.{test_name, row, gated, arm}

abbrev pub choice : Graph → List ℕ → Names → Graph → List ℕ → Names → Graph → Graph → Graph
choice t ns f a ms g b j = bind (test_name ∷ []) t (bind ns (arm T f a) (bind ms (arm F g b) j))

-- Every name of a list is a name from m on.
abbrev pub From : ℕ → List ℕ → Type 0
From m ns = (k : ℕ) → k < m → member_of ns k ≡ false

-- ---- an arm
-- The graph of an arm has just the names of a set.
abbrev pub Has : Graph → Names → Type 0
Has a f = (k : ℕ) → free a k ≡ f k
