-- The formulas of document 02, Job 13 as trees: what a sheet that passes 20 has, row by row down from the formula. Rests on test 5.
use Rattle.std.specs.Prelude.{ℕ, zero, suc, ◌≤◌, ◌<◌, ◌≡◌, refl, Bool, true, not, ◌||◌, List, [], ◌∷◌, ◌++◌, eqb}
use Rattle.std.proofs.Math.Bool.{false}
use borrow.Author.Tests.{eqb-true}
use Rattle.value.specs.declared.ValueKind.TheVariants.{Whole as whole-kind}
use Rattle.value.specs.Operators.{pick}
use Rattle.value.specs.Kinds.{all_of}
use Rattle.formula.specs.declared.Shape.{Shape}
use Rattle.formula.specs.declared.Shape.TheVariants.{Identifier, Constant, Pair, Operator, Let, If, For, Iter}
use Rattle.formula.specs.Sheet.{shape_at, named_in}
use Rattle.formula.specs.Tree.{Exp, identifier, constant, pair, operator, let_e, if_e, for_e, exp_node, exp_of, body_of}
use Rattle.formula.specs.TreeLaws.{AllBetween, Named}
use Rattle.formula.specs.Places.{node_in}
use Rattle.formula.specs.Free.{free_e}
use Rattle.formula.specs.Kinds.{Kinds, kinds_e}
use Rattle.formula.specs.Faults.{faults_below, own_fault, input_kinds, kind_check}
use Rattle.formula.specs.FaultLaws.{faults_at}
use Rattle.sheet_movement.specs.Sorts.{is_whole, code_sort}

-- "identifiers, whole constants, pairs, lets, add, subtract, negate, multiply .., and divide ..", at every node.
abbrev pub Drifts : Exp → Type 0
Drifts (identifier a) = Unit {0}
Drifts (constant k a) = k ≡ 2
Drifts (pair x y) = Drifts x × Drifts y
Drifts (operator code x) = (code_sort code x ≡ true) × Drifts x
Drifts (let_e a b x y) = Drifts x × Drifts y
Drifts (if_e t x y) = ⊥
Drifts (for_e a b x y) = ⊥

-- ---- the operators
-- "add, subtract, negate, multiply whose operand row is a pair that names a whole constant, and divide whose operand row is a pair with b naming one
-- that is not 0", by code and operand row. Of two constants the first counts.
pub data Operated : ℕ → Exp → Type 0 where
  add : (x : Exp) → Operated 1 x
  subtract : (x : Exp) → Operated 2 x
  negate : (x : Exp) → Operated 11 x
  multiply-first : (a : ℕ) (y : Exp) → Operated 3 (pair (constant 2 a) y)
  multiply-second : (x : Exp) (a : ℕ) → is_whole x ≡ false → Operated 3 (pair x (constant 2 a))
  divide : (x : Exp) (a : ℕ) → 0 < a → Operated 4 (pair x (constant 2 a))
