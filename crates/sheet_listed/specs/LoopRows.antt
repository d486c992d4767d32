-- A loop that passes test 8 has at least seven rows: itself, row c, and a body that both iterates and returns. So no sheet of at most 5 rows
-- has a for, nor an iter, which stands in a for's body only. Assumes nothing.
use Rattle.std.specs.Prelude.{ℕ, zero, suc, ◌+◌, ◌≤◌, ◌⊎◌}
use Rattle.formula.specs.Tree.{Exp, identifier, constant, pair, operator, let_e, if_e, for_e, Body, ret, iter, let_b, if_b}
use Rattle.formula.specs.Widths.{width, returned, iterated, either}

unfoldable mutual
  pub rows_e : Exp → ℕ
  rows_e (identifier a) = 1
  rows_e (constant k a) = 1
  rows_e (pair x y) = 1 + (rows_e x + rows_e y)
  rows_e (operator k x) = 1 + rows_e x
  rows_e (let_e a b x y) = 1 + (rows_e x + rows_e y)
  rows_e (if_e t x y) = 1 + (rows_e t + (rows_e x + rows_e y))
  rows_e (for_e a b x y) = 1 + (rows_e x + rows_b y)

  pub rows_b : Body → ℕ
  rows_b (ret x) = rows_e x
  rows_b (iter x) = 1 + rows_e x
  rows_b (let_b a b x y) = 1 + (rows_e x + rows_b y)
  rows_b (if_b t x y) = 1 + (rows_e t + (rows_b x + rows_b y))
