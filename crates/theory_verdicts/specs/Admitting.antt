-- The formula of an accepted sheet is an admitted tree (formula/specs/Admitted): at every node the ranges of test 4, the widths of test 8 and the
-- bound identifiers of test 9, and its graph has at most 1,024 operators (test 10). Document 01, "Said by what was handed in", 4 to 10.
-- Rests on the laws of rows and places; assumes nothing but an admissible sheet.
use Prim.Native.Nat.{ℕ, zero, suc, ◌+◌, ◌-◌, ◌≤◌, ◌<◌}
use Rattle.std.specs.Prelude.{◌≡◌, Bool, cond, ◌&&◌, ◌||◌, List, [], ◌∷◌, eqb, leb, length, get_or}
use Rattle.std.proofs.Math.Bool.{true, false}
use native.Mathlib.Omega.{arith}
use Rattle.formula.specs.declared.Shape.{Shape}
use Rattle.formula.specs.declared.Shape.TheVariants.{Identifier, Constant, Pair, Operator, Let, If, For, Iter}
use Rattle.formula.specs.Constants.{constant_most}
use Rattle.formula.specs.Sheet.{row_count, fields_of, field, shape_of, shape_at, named_in}
use Rattle.formula.specs.Tree.{Exp, Body, ret, exp_node, body_node, exp_of, body_of, formula_of}
use Rattle.formula.specs.TreeLaws.{AllBetween, Named}
use Rattle.formula.specs.Places.{is_in_body, places_of, node_in}
use Rattle.formula.specs.Widths.{wide_b}
use Rattle.formula.specs.Free.{bound_e, bound_b}
use Rattle.formula.specs.Count.{count_e}
use Rattle.formula.specs.Tests.{in_range, ranges_well, placed_well, is_iter, wide_node, widths_well, bound_node, bound_well, operators_of}
use Rattle.formula.specs.Acceptance.{Admissible}
use Rattle.formula.specs.Admitted.{Binds, FineE, FineB, AdmittedE, AdmittedB}
use Rattle.meaning.specs.Rows.{Placed, Plain, Accepted, width_in}

-- ---- test 4 by a row's shape
abbrev pub Ranged : Shape → Type 0
Ranged (Identifier a) = a < 32
Ranged (Constant k a) = a ≤ constant_most k
Ranged (Pair a b) = Unit {0}
Ranged (Operator a b) = (1 ≤ a) × (a ≤ 11)
Ranged (Let a b c d) = Binds a b
Ranged (If a b c) = Unit {0}
Ranged (For a b c d) = Binds a b
Ranged (Iter a) = Unit {0}

-- ---- the rows of a sheet that tests 4 to 9 let pass
pub record Checked (t : List ℕ) (n : ℕ) : Type 0 where
  pub named : Named t n
  pub ranged : (r : ℕ) → 1 ≤ r → r ≤ n → ranges_well t r ≡ true
  pub placed : (r : ℕ) → 1 ≤ r → r ≤ n → Placed (places_of t n) (is_in_body (places_of t n) r) (shape_at t r)
  pub iters : (r : ℕ) → 1 ≤ r → r ≤ n → placed_well t (places_of t n) r ≡ true
  pub wide : (r : ℕ) → 1 ≤ r → r ≤ n → widths_well t (places_of t n) r ≡ true
  pub bound : (r : ℕ) → 1 ≤ r → r ≤ n → bound_well t (places_of t n) r ≡ true

-- A row read as an expression in a body place is read alike in both.
abbrev pub ReadAs : Bool → Shape → Type 0
ReadAs true s = Plain s
ReadAs false s = Unit {0}

-- ---- an accepted sheet
-- f r, f (r + 1), .. as a list
unfoldable pub table_from : ℕ → ℕ → (ℕ → ℕ) → List ℕ
table_from r zero f = []
table_from r (suc k) f = f r ∷ table_from (suc r) k f
