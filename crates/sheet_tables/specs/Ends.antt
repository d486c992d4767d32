-- Document 01, "The graph": how a body's row ends, as the joins of a body if ask it: "an arm that ends, behind any lets, in a
-- body if always returns". 1: it returns; 2: it iterates; 3: it does both. An expression returns.
use Rattle.std.specs.Prelude.{ℕ, cond, ◌||◌, leb}
use Rattle.formula.specs.declared.Shape.{Shape}
use Rattle.formula.specs.declared.Shape.TheVariants.{Identifier, Constant, Pair, Operator, Let, If, For, Iter}
use Rattle.formula.specs.Tree.{Body, ret, iter, let_b, if_b}
use Rattle.formula.specs.Places.{Node, expression, body}

abbrev pub arms_end : ℕ → ℕ → ℕ
arms_end u v = cond (leb 2 u || leb 2 v) 3 1

unfoldable pub ends_of : Body → ℕ
ends_of (ret x) = 1
ends_of (iter x) = 2
ends_of (let_b a k x y) = ends_of y
ends_of (if_b t x y) = arms_end (ends_of x) (ends_of y)

abbrev pub ends_in : Node → ℕ
ends_in (expression x) = 1
ends_in (body y) = ends_of y

-- The same for a table: F has the ends of earlier rows.
unfoldable pub ends_by : (ℕ → ℕ) → Shape → ℕ
ends_by F (Identifier a) = 1
ends_by F (Constant k a) = 1
ends_by F (Pair x y) = 1
ends_by F (Operator k x) = 1
ends_by F (Let a k x y) = F y
ends_by F (If x y z) = arms_end (F y) (F z)
ends_by F (For a k x y) = 1
ends_by F (Iter x) = 2
