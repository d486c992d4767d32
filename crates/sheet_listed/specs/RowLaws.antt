-- The list of small rows is complete: a row of kind 1 to 9 that passes test 4, names rows 1 to 4 and has modest identifiers and constants is one of it.
-- And each of its rows has five fields that a sheet can hold. Assumes nothing.
use Prim.Native.Nat.{ℕ, zero, suc, ◌+◌, ◌≤◌, ◌<◌}
use Rattle.std.specs.Prelude.{◌≡◌, refl, Bool, ◌&&◌, List, [], ◌∷◌, map, eqb}
use borrow.Author.Tests.{eqb-true, leb-true}
use native.Mathlib.Omega.{arith}
use Rattle.formula.specs.Sheet.{shape_of, named_in}
use Rattle.formula.specs.Tests.{in_range, all_between}
use Rattle.formula.specs.FaultRows.{Among}
use Rattle.formula.specs.TreeLaws.{AllBetween}
use Rattle.sheet_tidied.specs.TextLaws.{Row, five}
use Rattle.sheet_listed.specs.Small.{count_from, each}

-- ---- the bounds of the fields
-- The bounds below which the fields are counted.
abbrev pub Counted : ℕ → ℕ → ℕ → ℕ → Type 0
Counted a b c d = (a < 12) × (b < 5) × (c < 5) × (d < 5)

-- ---- the list, field by field
abbrev pub with_d : ℕ → ℕ → ℕ → ℕ → List (List ℕ)
with_d kind a b c = map (λ d. kind ∷ a ∷ b ∷ c ∷ d ∷ []) (count_from 0 5)

abbrev pub with_c : ℕ → ℕ → ℕ → List (List ℕ)
with_c kind a b = each (with_d kind a b) (count_from 0 5)

abbrev pub with_b : ℕ → ℕ → List (List ℕ)
with_b kind a = each (with_c kind a) (count_from 0 5)

abbrev pub with_a : ℕ → List (List ℕ)
with_a kind = each (with_b kind) (count_from 0 12)
