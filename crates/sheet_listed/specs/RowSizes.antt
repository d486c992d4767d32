-- Where no row is named twice, the tree of row k has at most k rows: the trees of the rows up to k, taken together, are k rows and the trees of the
-- rows that they name, and those are among the rows before k. Assumes nothing.
use Prim.Native.Nat.{ℕ, zero, suc, ◌+◌, ◌*◌, ◌≤◌, ◌<◌}
use Rattle.std.specs.Prelude.{◌≡◌, refl, false, List, [], ◌∷◌, ◌++◌, ◌⊎◌, eqb}
use native.Mathlib.Omega.{arith}
use Rattle.formula.specs.Sheet.{shape_at, named_in}
use Rattle.formula.specs.Tests.{occurrences, all_named}
use Rattle.formula.specs.TreeLaws.{AllBetween}

abbrev pub sum_over : (ℕ → ℕ) → List ℕ → ℕ
sum_over f [] = 0
sum_over f (x ∷ xs) = f x + sum_over f xs

abbrev pub sum_to : (ℕ → ℕ) → ℕ → ℕ
sum_to f zero = 0
sum_to f (suc k) = sum_to f k + f (suc k)

-- A list's sum, by how often each number occurs.
abbrev pub weighed : (ℕ → ℕ) → List ℕ → ℕ → ℕ
weighed f l m = sum_to (λ x. occurrences x l * f x) m
