-- A row with other numbers for the rows that it names: its five fields are read as that row, it passes test 4 where the row did, and with its own
-- names the fields are the row's own, as fields that its kind does not list are 0. Assumes nothing.
use Rattle.std.specs.Prelude.{ℕ, ◌+◌, ◌≤◌, ◌<◌, ◌≡◌, ◌⊎◌, Bool, false, cond, ◌&&◌, [], ◌∷◌, map, eqb}
use borrow.Author.Tests.{leb-true, le-leb, eqb-true}
use Rattle.formula.specs.declared.Shape.{Shape}
use Rattle.formula.specs.declared.Shape.TheVariants.{Identifier, Constant, Pair, Operator, Let, If, For, Iter}
use Rattle.formula.specs.Sheet.{shape_of, named_in}
use Rattle.formula.specs.Tests.{in_range}
use Rattle.formula.specs.TreeLaws.{AllBetween}

-- The row itself, with another number for each row that it names.
unfoldable pub renumbered : (ℕ → ℕ) → Shape → Shape
renumbered f (Identifier a) = Identifier a
renumbered f (Constant kind a) = Constant kind a
renumbered f (Pair a b) = Pair (f a) (f b)
renumbered f (Operator a b) = Operator a (f b)
renumbered f (Let a b c d) = Let a b (f c) (f d)
renumbered f (If a b c) = If (f a) (f b) (f c)
renumbered f (For a b c d) = For a b (f c) (f d)
renumbered f (Iter a) = Iter (f a)

-- ---- test 4 by a row's shape
-- The kinds of constants with their ranges.
abbrev pub ConstantWithin : ℕ → ℕ → Type 0
ConstantWithin kind a = ((kind ≡ 2) × (a ≤ 999999)) ⊎ ((kind ≡ 3) × (a ≤ 1)) ⊎ ((kind ≡ 10) × (a ≤ 999999))

abbrev pub Within : Shape → Type 0
Within (Identifier a) = a ≤ 31
Within (Constant kind a) = ConstantWithin kind a
Within (Pair a b) = Unit {0}
Within (Operator a b) = (1 ≤ a) × (a ≤ 11)
Within (Let a b c d) = (1 ≤ b) × (a + b ≤ 32)
Within (If a b c) = Unit {0}
Within (For a b c d) = (1 ≤ b) × (a + b ≤ 32)
Within (Iter a) = Unit {0}
