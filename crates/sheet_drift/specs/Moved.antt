-- An operator's number (sheet_movement's specs/Moves) read off the rows of a table: what the row that it is on names, and that constants are small.
-- Assumes an accepted sheet's row of a sort that drift is told for.
use Rattle.std.specs.Prelude.{ℕ, ◌+◌, ◌*◌, ◌≤◌, ◌<◌, ◌≡◌, true, false, not, List, eqb, length}
use Rattle.std.proofs.Math.Path.{refl, sym, ap}
use Rattle.std.proofs.Common.{◌∙◌, arith, mul-le-mul}
use borrow.Author.Tests.{not-true, eqb-false, ne_eqb}
use Rattle.value.specs.Operators.{pick}
use Rattle.formula.specs.declared.Shape.{Shape}
use Rattle.formula.specs.declared.Shape.TheVariants.{Identifier, Constant, Pair, Operator, Let, If, For, Iter}
use Rattle.formula.proofs.Constants.{most-bounded}
use Rattle.formula.specs.Sheet.{shape_at}
use Rattle.formula.specs.Tree.{Exp, exp_node, exp_of}
use Rattle.formula.proofs.TreeLaws.{and-true}
use Rattle.meaning.specs.Rows.{ExpRow, ExpChildren}
use Rattle.meaning.proofs.Rows.{exp-children, bounds-as}
use Rattle.sheet_movement.specs.Sorts.{code_sort}
use Rattle.sheet_movement.specs.Moves.{over, multiplied, divided, moved}
use Rattle.sheet_sorts.specs.Shapes.{whole_row, amount_row, names_whole_row, divides_by_whole_row, known, whole_row_lem, amount-row, code_row_lem}
use Rattle.sheet_drift.specs.Drifts.{tree}

-- A row of an accepted sheet, whatever its table of widths.
pub record Row (t : List ℕ) (r : ℕ) : Type 0 where
  pub widths : List ℕ
  pub row : ExpRow t widths r

-- A row that an operator of this code may be on.
abbrev pub Operand : List ℕ → ℕ → ℕ → Type 0
Operand t code b = Row t b × (code_sort code (exp_of t b) ≡ true)

-- It lies in the table.
pub in_table : (t : List ℕ) (r : ℕ) → Row t r → (1 ≤ r) × (5 * r ≤ length t)
in_table t r k = let i = known t k.widths r k.row in (i.0, i.1)

amount-small : (t : List ℕ) (r : ℕ) → Row t r → amount_row (shape_at t r) ≤ 999999
amount-small t r k = go (shape_at t r) refl
  where
    h : ExpRow t k.widths r
    h = k.row

    go : (s : Shape) → shape_at t r ≡ s → amount_row s ≤ 999999
    go (Identifier a) e = omega arith
    go (Constant kind a) e = most-bounded kind a (bounds-as t k.widths h.rows h.accepted r h.low h.high (Constant kind a) e)
    go (Pair a b) e = omega arith
    go (Operator a b) e = omega arith
    go (Let a b c d) e = omega arith
    go (If a b c) e = omega arith
    go (For a b c d) e = omega arith
    go (Iter a) e = omega arith

-- What 20 says of the row that a product or a quotient is on, by its shape.
pub product-named : (t : List ℕ) (b : ℕ) → Operand t 3 b → names_whole_row t (shape_at t b) ≡ true
product-named t b k = code_row_lem t k.0.widths 3 b k.0.row ∙ k.1

pub quotient-named : (t : List ℕ) (b : ℕ) → Operand t 4 b → divides_by_whole_row t (shape_at t b) ≡ true
quotient-named t b k = code_row_lem t k.0.widths 4 b k.0.row ∙ k.1

-- ---- a pair's rows

module _ (t : List ℕ) (b : ℕ) (k : Row t b) (x y : ℕ) (e : shape_at t b ≡ Pair x y) where
  children : ExpChildren t k.widths b (Pair x y)
  children = exp-children t k.widths b k.row (Pair x y) e

  pub first-row : Row t x
  first-row = record { widths = k.widths; row = children.0.0 }

  pub second-row : Row t y
  second-row = record { widths = k.widths; row = children.1.0 }

  -- A constant times a number has room.
  pub first-product : (a d : ℕ) → a ≡ amount_row (shape_at t x) → d ≤ 2147483647 → a * d < 18446744073709551616
  first-product a d i h = rw i (omega (arith, mul-le-mul (amount-small t x first-row) h))

  pub second-product : (a d : ℕ) → a ≡ amount_row (shape_at t y) → d ≤ 2147483647 → a * d < 18446744073709551616
  second-product a d i h = rw i (omega (arith, mul-le-mul (amount-small t y second-row) h))

  product_is : (d f : ℕ) → multiplied (exp_of t b) d f ≡ pick (whole_row (shape_at t x)) (amount_row (shape_at t x) * f) (amount_row (shape_at t y) * d)
  unfolding multiplied exp_node
  product_is d f =
      ap (λ (z : Exp). multiplied z d f) (tree t k.widths b k.row (Pair x y) e)
      ∙ sym (λ j. pick (whole_row_lem t k.widths x children.0.0 j) (amount-row t k.widths x children.0.0 j * f)
      (amount-row t k.widths y children.1.0 j * d))

  pub product-first : (a d f : ℕ) → a ≡ amount_row (shape_at t x) → whole_row (shape_at t x) ≡ true → a * f ≡ multiplied (exp_of t b) d f
  product-first a d f i w =
      sym (product_is d f ∙ (λ j. pick (w j) (sym i j * f) (amount_row (shape_at t y) * d)))

  pub product-second : (a d f : ℕ) → a ≡ amount_row (shape_at t y) → whole_row (shape_at t x) ≡ false → a * d ≡ multiplied (exp_of t b) d f
  product-second a d f i w =
      sym (product_is d f ∙ (λ j. pick (w j) (amount_row (shape_at t x) * f) (sym i j * d)))

  pub quotient_is : (c d : ℕ) → c ≡ amount_row (shape_at t y) → over d c ≡ divided (exp_of t b) d
  unfolding divided exp_node
  quotient_is c d i =
      sym (ap (λ (z : Exp). divided z d) (tree t k.widths b k.row (Pair x y) e)
      ∙ ap (over d) (sym (i ∙ amount-row t k.widths y children.1.0)))

  pub divisor : code_sort 4 (exp_of t b) ≡ true → (c : ℕ) → c ≡ amount_row (shape_at t y) → (1 ≤ c) × (c ≤ 999999)
  divisor h c i =
      let f : divides_by_whole_row t (Pair x y) ≡ true = ap (divides_by_whole_row t) (sym e) ∙ quotient-named t b (k, h) in
      let n = (and-true (whole_row (shape_at t y)) (not (eqb (amount_row (shape_at t y)) 0)) f).1 in
      let z : amount_row (shape_at t y) ≡ 0 → ⊥ = eqb-false (amount_row (shape_at t y)) 0 (not-true (eqb (amount_row (shape_at t y)) 0) n) in
      (omega (arith, z, i), omega (arith, i, amount-small t y second-row))

-- ---- by the code

module _ (x : Exp) (code d e : ℕ) where
  pub moved-negated : code ≡ 11 → d ≡ moved code x d e
  unfolding moved
  moved-negated k = rw k refl

  pub moved-product : code ≡ 3 → multiplied x d e ≡ moved code x d e
  unfolding moved
  moved-product k = rw k refl

  pub moved-quotient : code ≡ 4 → divided x d ≡ moved code x d e
  unfolding moved
  moved-quotient k = rw k refl

  pub moved_sum : (code ≡ 11 → ⊥) → (code ≡ 3 → ⊥) → (code ≡ 4 → ⊥) → d + e ≡ moved code x d e
  unfolding moved
  moved_sum p q r = rw (ne_eqb code 11 p, ne_eqb code 3 q, ne_eqb code 4 r) refl
