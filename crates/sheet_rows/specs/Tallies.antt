-- How often rows are named, as test 6 of document 01 keeps it in a table.
use Rattle.std.specs.Prelude.{ℕ, zero, suc, ◌-◌, cond, List, [], ◌∷◌, get_or, set, eqb}
use Rattle.formula.specs.Sheet.{shape_at, named_in}

-- How often a row is named so far: 0 never, 1 once, 2 more than once.
abbrev pub oftener : ℕ → ℕ
oftener k = cond (eqb k 0) 1 2

-- The rows xs are named once more each.
unfoldable pub tally : List ℕ → List ℕ → List ℕ
tally [] l = l
tally (x ∷ xs) l = tally xs (set l (x - 1) (oftener (get_or l (x - 1) 0)))

-- What the first n rows name, from the table l on.
unfoldable pub tallied : List ℕ → ℕ → List ℕ → List ℕ
unfolding tally shape_at named_in
tallied t zero l = l
tallied t (suc k) l = tally (named_in (shape_at t (suc k))) (tallied t k l)
