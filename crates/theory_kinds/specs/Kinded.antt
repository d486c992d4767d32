-- A tree of which every node keeps the rule of kinds (formula/specs/Kinds), and that the test of a sheet, which goes through its rows
-- (formula/specs/Faults), passes just the sheets whose formula is such a tree. Rests on test 5: a row names only rows before it.
use Prim.Native.Nat.{ℕ, zero, suc, ◌≤◌, ◌<◌}
use Rattle.std.specs.Prelude.{◌≡◌, ◌↔◌, Bool, cond}
use Rattle.std.proofs.Math.Bool.{true}
use mathlib.Core.List.{List, [], ◌∷◌, ◌++◌}
use Rattle.formula.specs.declared.Shape.{Shape}
use Rattle.formula.specs.declared.Shape.TheVariants.{Identifier, Constant, Pair, Operator, Let, If, For, Iter}
use Rattle.formula.specs.Sheet.{shape_at, named_in}
use Rattle.formula.specs.Tree.{Exp, identifier, constant, pair, operator, let_e, if_e, for_e, Body, ret, iter, let_b, if_b, exp_node, body_node, exp_of, body_of}
use Rattle.formula.specs.TreeLaws.{AllBetween, Named}
use Rattle.formula.specs.Places.{Node, expression, body, node_in}
use Rattle.formula.specs.Kinds.{Kinds, bind_kinds, kinds_e, kinded_e, kinded_b, kinded}
use Rattle.formula.specs.Faults.{faults_below, faults_in, lowest_of, kind_check}

abbrev mutual
  pub AllE : Exp → Kinds → Type 0
  AllE (identifier a) kinds = kinded_e (identifier a) kinds ≡ true
  AllE (constant k a) kinds = kinded_e (constant k a) kinds ≡ true
  AllE (pair x y) kinds = (kinded_e (pair x y) kinds ≡ true) × AllE x kinds × AllE y kinds
  AllE (operator k x) kinds = (kinded_e (operator k x) kinds ≡ true) × AllE x kinds
  AllE (let_e a b x y) kinds = (kinded_e (let_e a b x y) kinds ≡ true) × AllE x kinds × AllE y (bind_kinds a b (kinds_e x kinds) kinds)
  AllE (if_e t x y) kinds = (kinded_e (if_e t x y) kinds ≡ true) × AllE t kinds × AllE x kinds × AllE y kinds
  AllE (for_e a b x y) kinds = (kinded_e (for_e a b x y) kinds ≡ true) × AllE x kinds × AllB y (bind_kinds a b (kinds_e x kinds) kinds)

  pub AllB : Body → Kinds → Type 0
  AllB (ret x) kinds = AllE x kinds
  AllB (iter x) kinds = (kinded_b (iter x) kinds ≡ true) × AllE x kinds
  AllB (let_b a b x y) kinds = (kinded_b (let_b a b x y) kinds ≡ true) × AllE x kinds × AllB y (bind_kinds a b (kinds_e x kinds) kinds)
  AllB (if_b t x y) kinds = (kinded_b (if_b t x y) kinds ≡ true) × AllE t kinds × AllB x kinds × AllB y kinds

-- A node keeps its rule, and so does every node below it.
abbrev pub AllNode : Node → Kinds → Type 0
AllNode (expression x) kinds = AllE x kinds
AllNode (body y) kinds = AllB y kinds

-- ---- lists of faults
-- A list that holds something.
abbrev pub Some : List ℕ → Type 0
Some [] = ⊥
Some (x ∷ xs) = Unit {0}
