-- Document 01, "Names free in a row follow ordinary scope", and test 9. Names 0 to 31 are the identifiers; 32 is the
-- trigger, "a name like the 32 identifiers", which every constant takes, a body's iter? constants included.
use Rattle.std.specs.Prelude.{ℕ, Bool, true, List, eqb}
use Rattle.names.specs.Names.{Names, trigger, one, union, without, range, size, size_from, members, members_from}
use Rattle.formula.specs.Tree.{Exp, identifier, constant, pair, operator, let_e, if_e, for_e, Body, ret, iter, let_b, if_b}

-- "row c of let and for lies outside the new identifiers"
unfoldable mutual
  pub free_e : Exp → Names
  free_e (identifier a) = one a
  free_e (constant k a) = one trigger
  free_e (pair x y) = union (free_e x) (free_e y)
  free_e (operator k x) = free_e x
  free_e (let_e a b x y) = union (free_e x) (without (free_e y) (range a b))
  free_e (if_e t x y) = union (free_e t) (union (free_e x) (free_e y))
  free_e (for_e a b x y) = union (free_e x) (without (free_b y) (range a b))

  pub free_b : Body → Names
  free_b (ret x) = union (one trigger) (free_e x)
  free_b (iter x) = union (one trigger) (free_e x)
  free_b (let_b a b x y) = union (free_e x) (without (free_b y) (range a b))
  free_b (if_b t x y) = union (free_e t) (union (free_b x) (free_b y))

-- No identifier from a to a+b-1 is missing from a set.
unfoldable pub covers : Names → ℕ → ℕ → Bool
unfolding size size_from
covers f a b = eqb (size (without (range a b) f)) 0

-- Test 9 of one row: "Each bound identifier must be free in row d."
unfoldable pub bound_e : Exp → Bool
unfolding free_e covers
bound_e (identifier a) = true
bound_e (constant k a) = true
bound_e (pair x y) = true
bound_e (operator k x) = true
bound_e (let_e a b x y) = covers (free_e y) a b
bound_e (if_e t x y) = true
bound_e (for_e a b x y) = covers (free_b y) a b

unfoldable pub bound_b : Body → Bool
unfolding free_e covers bound_e
bound_b (ret x) = bound_e x
bound_b (iter x) = true
bound_b (let_b a b x y) = covers (free_b y) a b
bound_b (if_b t x y) = true

-- "The inputs are the formula's free identifiers, rising."
unfoldable pub inputs_of : Exp → List ℕ
unfolding members members_from free_e
inputs_of x = members (without (free_e x) (one trigger))
