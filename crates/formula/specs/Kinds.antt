-- Document 02, Job 6: "Every row gets the kind of each of its values. Operators and tests must get the kinds they want, arms and
-- loop rounds must agree; else the operator, if or for itself is at fault and the first arm's or row c's kinds hold." Here over a
-- formula's tree; the rows at fault are in Faults. [] stands for the kinds that a body does not have. Assumes nothing.
use Rattle.std.specs.Prelude.{ℕ, ◌-◌, Bool, true, false, cond, ◌&&◌, List, [], ◌∷◌, ◌++◌, get_or, eqb}
use Rattle.value.specs.declared.ValueKind.{ValueKind}
use Rattle.value.specs.declared.ValueKind.TheVariants.{Whole as whole-kind, Truth as truth-kind, Real as real-kind}
use Rattle.value.specs.Kinds.{same_kind, wanted, wanted_test, given}
use Rattle.names.specs.Names.{range}
use Rattle.formula.specs.Tree.{Exp, identifier, constant, pair, operator, let_e, if_e, for_e, Body, ret, iter, let_b, if_b}
use Rattle.formula.specs.Places.{Node, expression, body}

-- The kind of each identifier.
abbrev pub Kinds : Type 0
Kinds = ℕ → ValueKind

-- Identifiers a to a+b-1 bound to values of these kinds, the first to a.
unfoldable pub bind_kinds : ℕ → ℕ → List ValueKind → Kinds → Kinds
bind_kinds a b ks kinds k = cond (range a b k) (get_or ks (k - a) whole-kind) (kinds k)

-- "2 whole number", "3 truth", 10 a float
abbrev pub kind_of_constant : ℕ → ValueKind
kind_of_constant kind = cond (eqb kind 3) truth-kind (cond (eqb kind 10) real-kind whole-kind)

-- "the first arm's .. kinds hold": of two arms those of the first that has some.
abbrev pub either_kinds : List ValueKind → List ValueKind → List ValueKind
either_kinds [] ls = ls
either_kinds (k ∷ ks) ls = k ∷ ks

-- The kinds of a row's values, and of those that a body returns.
unfoldable mutual
  unfolding bind_kinds given

  pub kinds_e : Exp → Kinds → List ValueKind
  kinds_e (identifier a) kinds = kinds a ∷ []
  kinds_e (constant k a) kinds = kind_of_constant k ∷ []
  kinds_e (pair x y) kinds = kinds_e x kinds ++ kinds_e y kinds
  kinds_e (operator k x) kinds = given k (kinds_e x kinds) ∷ []
  kinds_e (let_e a b x y) kinds = kinds_e y (bind_kinds a b (kinds_e x kinds) kinds)
  kinds_e (if_e t x y) kinds = kinds_e x kinds
  -- "row c's kinds hold": in each round the identifiers have the kinds of row c.
  kinds_e (for_e a b x y) kinds = returned_kinds y (bind_kinds a b (kinds_e x kinds) kinds)

  pub returned_kinds : Body → Kinds → List ValueKind
  returned_kinds (ret x) kinds = kinds_e x kinds
  returned_kinds (iter x) kinds = []
  returned_kinds (let_b a b x y) kinds = returned_kinds y (bind_kinds a b (kinds_e x kinds) kinds)
  returned_kinds (if_b t x y) kinds = either_kinds (returned_kinds x kinds) (returned_kinds y kinds)

-- The kinds of the values that a body's iters start it again with.
unfoldable pub iterated_kinds : Body → Kinds → List ValueKind
unfolding kinds_e bind_kinds
iterated_kinds (ret x) kinds = []
iterated_kinds (iter x) kinds = kinds_e x kinds
iterated_kinds (let_b a b x y) kinds = iterated_kinds y (bind_kinds a b (kinds_e x kinds) kinds)
iterated_kinds (if_b t x y) kinds = either_kinds (iterated_kinds x kinds) (iterated_kinds y kinds)

abbrev pub same_kinds : List ValueKind → List ValueKind → Bool
same_kinds [] [] = true
same_kinds [] (l ∷ ls) = false
same_kinds (k ∷ ks) [] = false
same_kinds (k ∷ ks) (l ∷ ls) = same_kind k l && same_kinds ks ls

-- Body arms agree in the kinds that both have.
abbrev pub agree_kinds : List ValueKind → List ValueKind → Bool
agree_kinds [] ls = true
agree_kinds (k ∷ ks) [] = true
agree_kinds (k ∷ ks) (l ∷ ls) = same_kinds (k ∷ ks) (l ∷ ls)

-- What a row's own kind requires of the kinds below it.
unfoldable pub kinded_e : Exp → Kinds → Bool
unfolding kinds_e iterated_kinds bind_kinds wanted wanted_test
kinded_e (identifier a) kinds = true
kinded_e (constant k a) kinds = true
kinded_e (pair x y) kinds = true
-- "Operators and tests must get the kinds they want"
kinded_e (operator k x) kinds = wanted k (kinds_e x kinds)
kinded_e (let_e a b x y) kinds = true
-- "arms .. must agree"
kinded_e (if_e t x y) kinds = wanted_test (kinds_e t kinds) && same_kinds (kinds_e x kinds) (kinds_e y kinds)
-- "loop rounds must agree": a round's identifiers have the kinds of row c.
kinded_e (for_e a b x y) kinds = same_kinds (kinds_e x kinds) (iterated_kinds y (bind_kinds a b (kinds_e x kinds) kinds))

unfoldable pub kinded_b : Body → Kinds → Bool
unfolding kinds_e iterated_kinds kinded_e wanted_test
kinded_b (ret x) kinds = kinded_e x kinds
kinded_b (iter x) kinds = true
kinded_b (let_b a b x y) kinds = true
kinded_b (if_b t x y) kinds =
    wanted_test (kinds_e t kinds) && agree_kinds (iterated_kinds x kinds) (iterated_kinds y kinds) && agree_kinds (returned_kinds x kinds) (returned_kinds y kinds)

-- The rule that a row is held to.
abbrev pub Rule : Type 0
Rule = Node → Kinds → Bool

unfoldable pub kinded : Rule
unfolding kinded_e kinded_b
kinded (expression x) kinds = kinded_e x kinds
kinded (body y) kinds = kinded_b y kinds
