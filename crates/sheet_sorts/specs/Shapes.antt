-- What sheet_movement's specs/Sorts asks of an operator's operand row, read off the table's rows; and that it is the same of the row's tree.
use Rattle.std.specs.Prelude.{ℕ, ◌*◌, ◌≤◌, ◌≡◌, refl, Bool, true, false, not, ◌&&◌, ◌||◌, List, eqb, length}
use Rattle.std.proofs.Common.{sym, ap, ◌∙◌, arith}
use Rattle.value.specs.Operators.{pick}
use Rattle.formula.specs.declared.Shape.{Shape}
use Rattle.formula.specs.declared.Shape.TheVariants.{Identifier, Constant, Pair, Operator, Let, If, For, Iter}
use Rattle.formula.specs.Sheet.{shape_at, named_in}
use Rattle.formula.specs.Tree.{exp_node, exp_of, body_of}
use Rattle.formula.specs.TreeLaws.{AllBetween}
use Rattle.formula.proofs.TreeLaws.{exp-as}
use Rattle.meaning.specs.Rows.{ExpRow, ExpChildren}
use Rattle.meaning.proofs.Rows.{exp-children}
use Rattle.sheet_movement.specs.Sorts.{is_whole, amount, names_whole, divides_by_whole, code_sort}

-- A row of the table that names only rows before it.
abbrev pub Known : List ℕ → ℕ → Type 0
Known t r = (1 ≤ r) × (5 * r ≤ length t) × AllBetween r (named_in (shape_at t r))

abbrev pub whole_row : Shape → Bool
whole_row (Identifier a) = false
whole_row (Constant k a) = eqb k 2
whole_row (Pair a b) = false
whole_row (Operator a b) = false
whole_row (Let a b c d) = false
whole_row (If a b c) = false
whole_row (For a b c d) = false
whole_row (Iter a) = false

abbrev pub amount_row : Shape → ℕ
amount_row (Identifier a) = 0
amount_row (Constant k a) = a
amount_row (Pair a b) = 0
amount_row (Operator a b) = 0
amount_row (Let a b c d) = 0
amount_row (If a b c) = 0
amount_row (For a b c d) = 0
amount_row (Iter a) = 0

abbrev pub names_whole_row : List ℕ → Shape → Bool
names_whole_row t (Identifier a) = false
names_whole_row t (Constant k a) = false
names_whole_row t (Pair a b) = whole_row (shape_at t a) || whole_row (shape_at t b)
names_whole_row t (Operator a b) = false
names_whole_row t (Let a b c d) = false
names_whole_row t (If a b c) = false
names_whole_row t (For a b c d) = false
names_whole_row t (Iter a) = false

abbrev pub divides_by_whole_row : List ℕ → Shape → Bool
divides_by_whole_row t (Identifier a) = false
divides_by_whole_row t (Constant k a) = false
divides_by_whole_row t (Pair a b) = whole_row (shape_at t b) && not (eqb (amount_row (shape_at t b)) 0)
divides_by_whole_row t (Operator a b) = false
divides_by_whole_row t (Let a b c d) = false
divides_by_whole_row t (If a b c) = false
divides_by_whole_row t (For a b c d) = false
divides_by_whole_row t (Iter a) = false

abbrev pub code_row : List ℕ → ℕ → Shape → Bool
code_row t code s =
    pick (eqb code 1) true
    (pick (eqb code 2) true
    (pick (eqb code 11) true
    (pick (eqb code 3) (names_whole_row t s)
    (pick (eqb code 4) (divides_by_whole_row t s)
    false))))

-- ---- an accepted sheet's row in an expression place

module _ (t ws : List ℕ) (r : ℕ) (h : ExpRow t ws r) where
  pub known : Known t r
  known = (
    h.low,
    omega (arith, h.accepted.fields, h.high),
    h.accepted.named.names r h.low h.high,
  )

  tree : exp_of t r ≡ exp_node (exp_of t) (body_of t) (shape_at t r)
  tree = exp-as t h.rows h.accepted.named r h.low h.high (shape_at t r) refl

pub whole_row_lem : (t ws : List ℕ) (r : ℕ) → ExpRow t ws r → whole_row (shape_at t r) ≡ is_whole (exp_of t r)
unfolding is_whole exp_node
whole_row_lem t ws r h = go (shape_at t r) refl ∙ sym (ap is_whole (tree t ws r h))
  where
    go : (s : Shape) → shape_at t r ≡ s → whole_row s ≡ is_whole (exp_node (exp_of t) (body_of t) s)
    go (Identifier a) e = refl
    go (Constant k a) e = refl
    go (Pair a b) e = refl
    go (Operator a b) e = refl
    go (Let a b c d) e = refl
    go (If a b c) e = refl
    go (For a b c d) e = refl
    go (Iter a) e = absurd (exp-children t ws r h (Iter a) e)

pub amount-row : (t ws : List ℕ) (r : ℕ) → ExpRow t ws r → amount_row (shape_at t r) ≡ amount (exp_of t r)
unfolding amount exp_node
amount-row t ws r h = go (shape_at t r) refl ∙ sym (ap amount (tree t ws r h))
  where
    go : (s : Shape) → shape_at t r ≡ s → amount_row s ≡ amount (exp_node (exp_of t) (body_of t) s)
    go (Identifier a) e = refl
    go (Constant k a) e = refl
    go (Pair a b) e = refl
    go (Operator a b) e = refl
    go (Let a b c d) e = refl
    go (If a b c) e = refl
    go (For a b c d) e = refl
    go (Iter a) e = absurd (exp-children t ws r h (Iter a) e)

names-whole-row : (t ws : List ℕ) (r : ℕ) → ExpRow t ws r → names_whole_row t (shape_at t r) ≡ names_whole (exp_of t r)
unfolding names_whole exp_node
names-whole-row t ws r h = go (shape_at t r) refl ∙ sym (ap names_whole (tree t ws r h))
  where
    go : (s : Shape) → shape_at t r ≡ s → names_whole_row t s ≡ names_whole (exp_node (exp_of t) (body_of t) s)
    go (Identifier a) e = refl
    go (Constant k a) e = refl
    go (Pair a b) e =
        let k : ExpChildren t ws r (Pair a b) = exp-children t ws r h (Pair a b) e in
        λ i. whole_row_lem t ws a k.0.0 i || whole_row_lem t ws b k.1.0 i
    go (Operator a b) e = refl
    go (Let a b c d) e = refl
    go (If a b c) e = refl
    go (For a b c d) e = refl
    go (Iter a) e = absurd (exp-children t ws r h (Iter a) e)

divides-by-whole-row : (t ws : List ℕ) (r : ℕ) → ExpRow t ws r → divides_by_whole_row t (shape_at t r) ≡ divides_by_whole (exp_of t r)
unfolding divides_by_whole exp_node
divides-by-whole-row t ws r h = go (shape_at t r) refl ∙ sym (ap divides_by_whole (tree t ws r h))
  where
    go : (s : Shape) → shape_at t r ≡ s → divides_by_whole_row t s ≡ divides_by_whole (exp_node (exp_of t) (body_of t) s)
    go (Identifier a) e = refl
    go (Constant k a) e = refl
    go (Pair a b) e =
        let k : ExpRow t ws b = (exp-children t ws r h (Pair a b) e).1.0 in
        λ i. whole_row_lem t ws b k i && not (eqb (amount-row t ws b k i) 0)
    go (Operator a b) e = refl
    go (Let a b c d) e = refl
    go (If a b c) e = refl
    go (For a b c d) e = refl
    go (Iter a) e = absurd (exp-children t ws r h (Iter a) e)

pub code_row_lem : (t ws : List ℕ) (code r : ℕ) → ExpRow t ws r → code_row t code (shape_at t r) ≡ code_sort code (exp_of t r)
unfolding code_sort
code_row_lem t ws code r h = λ i.
    pick (eqb code 1) true
    (pick (eqb code 2) true
    (pick (eqb code 11) true
    (pick (eqb code 3) (names-whole-row t ws r h i)
    (pick (eqb code 4) (divides-by-whole-row t ws r h i)
    false))))
