-- Document 01, "Widths" and test 8. 0 stands for a width that a body does not have: every width there is, is at least 1.
use Rattle.std.specs.Prelude.{ℕ, ◌+◌, Bool, true, not, cond, ◌&&◌, ◌||◌, eqb, leb}
use Rattle.value.specs.Operators.{operands}
use Rattle.formula.specs.Tree.{Exp, identifier, constant, pair, operator, let_e, if_e, for_e, Body, ret, iter, let_b, if_b}

-- The width of two arms: that of the first that has one.
abbrev pub either : ℕ → ℕ → ℕ
either u v = cond (eqb u 0) v u

-- "kinds 1 to 3 have one value, a pair the sum, an operator one, let and expression if what they end in, a for what its
-- body returns"; "A body has an iterated width, a returned width, or both."
unfoldable mutual
  pub width : Exp → ℕ
  width (identifier a) = 1
  width (constant k a) = 1
  width (pair x y) = width x + width y
  width (operator k x) = 1
  width (let_e a b x y) = width y
  width (if_e t x y) = width x
  width (for_e a b x y) = returned y

  pub returned : Body → ℕ
  returned (ret x) = width x
  returned (iter x) = 0
  returned (let_b a b x y) = returned y
  returned (if_b t x y) = either (returned x) (returned y)

unfoldable pub iterated : Body → ℕ
unfolding width
iterated (ret x) = 0
iterated (iter x) = width x
iterated (let_b a b x y) = iterated y
iterated (if_b t x y) = either (iterated x) (iterated y)

-- "body arms are equal in each width that both have"
abbrev pub agree : ℕ → ℕ → Bool
agree u v = eqb u 0 || eqb v 0 || eqb u v

-- What a row's own kind requires of the widths below it.
unfoldable pub fitting_e : Exp → Bool
unfolding width iterated operands
fitting_e (identifier a) = true
fitting_e (constant k a) = true
fitting_e (pair x y) = true
fitting_e (operator k x) = eqb (width x) (operands k)
fitting_e (let_e a b x y) = eqb (width x) b
fitting_e (if_e t x y) = eqb (width t) 1 && eqb (width x) (width y)
fitting_e (for_e a b x y) = eqb (width x) b && eqb (iterated y) b && not (eqb (returned y) 0)

unfoldable pub fitting_b : Body → Bool
unfolding width iterated fitting_e
fitting_b (ret x) = fitting_e x
fitting_b (iter x) = true
fitting_b (let_b a b x y) = eqb (width x) b
fitting_b (if_b t x y) = eqb (width t) 1 && agree (iterated x) (iterated y) && agree (returned x) (returned y)

-- Test 8 of one row: "no width above 16", and its kind's rule.
unfoldable pub wide_e : Exp → Bool
unfolding width fitting_e
wide_e x = leb (width x) 16 && fitting_e x

unfoldable pub wide_b : Body → Bool
unfolding width iterated fitting_b
wide_b y = leb (iterated y) 16 && leb (returned y) 16 && fitting_b y
