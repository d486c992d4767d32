-- Each row of a small sheet stands, and whether a row stands is a matter of the rows up to it. So a search can leave a row that does not stand, whatever
-- is to follow.
use Prim.Native.Nat.{ℕ, zero, suc, ◌+◌, ◌*◌, ◌-◌, ◌≤◌, ◌<◌}
use Rattle.std.specs.Prelude.{◌≡◌, Bool, false, ◌&&◌, leb, length, get_or}
use mathlib.Core.List.{List, [], ◌∷◌, ◌++◌, flatten, append_assoc}
use native.Mathlib.Omega.{arith}
use Rattle.formula.specs.declared.Shape.{Shape}
use Rattle.formula.specs.declared.Shape.TheVariants.{Identifier, Constant, Pair, Operator, Let, If, For, Iter}
use Rattle.formula.specs.Sheet.{field, shape_at, named_in}
use Rattle.formula.specs.Tree.{exp_node, body_node, exp_of, body_of}
use Rattle.formula.specs.Places.{node_in}
use Rattle.formula.specs.Widths.{wide_e}
use Rattle.formula.specs.Free.{bound_e}
use Rattle.formula.specs.Tests.{occurrences, all_named, all_between, names_well, wide_node, widths_well, bound_node, bound_well}
use Rattle.formula.specs.TreeLaws.{AllBetween, Named}
use Rattle.formula.specs.FaultRows.{Among}
use Rattle.sheet_tidied.specs.Text.{sheet_text}
use Rattle.sheet_tidied.specs.TextLaws.{Rows as Written}
use Rattle.sheet_tidied.specs.ShapeLaws.{renumbered}
use Rattle.sheet_listed.specs.Search.{Rows}

-- ---- tables that agree on their first n rows
abbrev pub Agree : ℕ → List ℕ → List ℕ → Type 0
Agree n t u = (i : ℕ) → i < 5 * n → get_or t i 0 ≡ get_or u i 0

-- ---- the tables of rows that begin alike
-- Rows of five fields.
abbrev pub Fives : Rows → Type 0
Fives [] = Unit {0}
Fives (l ∷ ls) = (length l ≡ 5) × Fives ls
