-- What the width rules (document 01, test 8) and the ranges (test 4) give the evaluators for the parts of a row, in the
-- numbers that the code has: W is the table's width. Assumes an accepted sheet's row.
use Rattle.std.specs.Prelude.{ℕ, zero, suc, ◌+◌, ◌-◌, ◌≤◌, ◌<◌, ◌≡◌, refl, Bool, true, false, ◌||◌, eqb, List, get_or}
use Rattle.std.proofs.Common.{sym, ◌∙◌, subst, arith}
use Rattle.std.proofs.Math.Path.{ap}
use Rattle.value.specs.Operators.{operands, pick}
use Rattle.formula.specs.declared.Shape.{Shape}
use Rattle.formula.specs.declared.Shape.TheVariants.{Identifier, Constant, Pair, Operator, Let, If, For, Iter}
use Rattle.formula.specs.Constants.{constant_most}
use Rattle.formula.specs.Sheet.{shape_at}
use Rattle.formula.specs.Tree.{Exp, Body, ret, iter, let_b, if_b, exp_node, body_node, exp_of, body_of}
use Rattle.formula.proofs.TreeLaws.{exp-as, body-as}
use Rattle.formula.specs.Widths.{width, returned, iterated, wide_e, wide_b}
use Rattle.meaning.specs.WidthLaws.{Suits}
use Rattle.meaning.proofs.WidthLaws.{arms-suit, wide-16, wide-16-B, operator-fits, let-fits, if-fits, for-fits, let-fits-B, if-fits-B}
use Rattle.meaning.specs.Rows.{Accepted, ExpRow, BodyRow, InBounds, ExpChildren, BodyChildren}
use Rattle.meaning.proofs.Rows.{exp-children, body-children, exp-facts, body-wide, bounds-as}

abbrev pub W : List ℕ → ℕ → ℕ
W ws r = get_or ws (r - 1) 0

abbrev pub ExpNeeds : List ℕ → List ℕ → ℕ → Shape → Type 0
ExpNeeds t ws r (Identifier a) = (W ws r ≡ 1) × (a < 32)
ExpNeeds t ws r (Constant k a) = (W ws r ≡ 1) × (a ≤ constant_most k)
ExpNeeds t ws r (Pair a b) = W ws r ≡ W ws a + W ws b
ExpNeeds t ws r (Operator a b) = (W ws r ≡ 1) × (W ws b ≤ 2) × (a < 256)
ExpNeeds t ws r (Let a b c d) = (W ws c ≡ b) × (a + b ≤ 32) × (W ws d ≡ W ws r)
ExpNeeds t ws r (If a b c) = (W ws a ≡ 1) × (W ws b ≡ W ws r) × (W ws c ≡ W ws r)
ExpNeeds t ws r (For a b c d) =
    (W ws c ≡ b) × (a + b ≤ 32) × (b ≤ 16) × (returned (body_of t d) ≡ W ws r) × (iterated (body_of t d) ≡ b)
ExpNeeds t ws r (Iter a) = ⊥

abbrev pub BodyNeeds : List ℕ → List ℕ → ℕ → Shape → Type 0
BodyNeeds t ws r (Identifier a) = Unit {0}
BodyNeeds t ws r (Constant k a) = Unit {0}
BodyNeeds t ws r (Pair a b) = Unit {0}
BodyNeeds t ws r (Operator a b) = Unit {0}
BodyNeeds t ws r (Let a b c d) = (W ws c ≡ b) × (a + b ≤ 32) × (returned (body_of t d) ≡ returned (body_of t r))
BodyNeeds t ws r (If a b c) =
    (W ws a ≡ 1)
    × ((w : ℕ) → Suits (returned (body_of t r)) w → Suits (returned (body_of t b)) w × Suits (returned (body_of t c)) w)
BodyNeeds t ws r (For a b c d) = Unit {0}
BodyNeeds t ws r (Iter a) = W ws a ≤ 16

few-operands : (k : ℕ) → operands k ≤ 2
unfolding operands
few-operands k = go (eqb k 10 || eqb k 11)
  where
    go : (b : Bool) → pick b 1 2 ≤ 2
    go true = omega arith
    go false = omega arith

module _ (t ws : List ℕ) where
  table : (r : ℕ) → ExpRow t ws r → W ws r ≡ width (exp_of t r)
  table r h = (exp-facts t ws r h).1

  pub narrow : (r : ℕ) → ExpRow t ws r → W ws r ≤ 16
  narrow r h = rw (table r h) (wide-16 (exp_of t r) (exp-facts t ws r h).0)

  pub exp-needs : (r : ℕ) (h : ExpRow t ws r) (s : Shape) → shape_at t r ≡ s → ExpNeeds t ws r s
  unfolding exp_node width
  exp-needs r h s e =
      go s (exp-children t ws r h s e) (bounds-as t ws h.rows h.accepted r h.low h.high s e)
      (table r h ∙ ap width tree) (subst (λ (x : Exp). wide_e x ≡ true) tree (exp-facts t ws r h).0)
    where
      tree : exp_of t r ≡ exp_node (exp_of t) (body_of t) s
      tree = exp-as t h.rows h.accepted.named r h.low h.high s e

      go : (z : Shape) → ExpChildren t ws r z → InBounds z
          → W ws r ≡ width (exp_node (exp_of t) (body_of t) z) → wide_e (exp_node (exp_of t) (body_of t) z) ≡ true
          → ExpNeeds t ws r z
      go (Identifier a) c i w f = (w, omega (arith, i))
      go (Constant k a) c i w f = (w, i)
      go (Pair a b) c i w f = rw (table a c.0.0, table b c.1.0) w
      go (Operator a b) c i w f =
          let k : W ws b ≡ operands a = table b c.0 ∙ operator-fits a (exp_of t b) f in
          (w, rw k (few-operands a), omega (arith, i))
      go (Let a b x y) c i w f =
          (table x c.0.0 ∙ let-fits a b (exp_of t x) (exp_of t y) f, i, table y c.1.0 ∙ sym w)
      go (If a x y) c i w f =
          let k : (width (exp_of t a) ≡ 1) × (width (exp_of t x) ≡ width (exp_of t y)) =
          if-fits (exp_of t a) (exp_of t x) (exp_of t y) f
          in
          (table a c.0.0 ∙ k.0, table x c.1.0 ∙ sym w, table y c.2.0 ∙ sym k.1 ∙ sym w)
      go (For a b x y) c i w f =
          let k : (width (exp_of t x) ≡ b) × (iterated (body_of t y) ≡ b) × (1 ≤ returned (body_of t y)) =
          for-fits a b (exp_of t x) (body_of t y) f
          in (
            table x c.0.0 ∙ k.0,
            i,
            omega (arith, (wide-16-B (body_of t y) (body-wide t ws y c.1.0)).0, k.1),
            sym w,
            k.1,
          )
      go (Iter a) c i w f = c

  pub body-needs : (r : ℕ) (h : BodyRow t ws r) (s : Shape) → shape_at t r ≡ s → BodyNeeds t ws r s
  unfolding body_node width
  body-needs r h s e =
      go s (body-children t ws r h s e) (bounds-as t ws h.rows h.accepted r h.low h.high s e)
      (ap returned tree) (subst (λ (y : Body). wide_b y ≡ true) tree (body-wide t ws r h))
    where
      tree : body_of t r ≡ body_node (exp_of t) (body_of t) s
      tree = body-as t h.rows h.accepted.named r h.low h.high s e

      go : (z : Shape) → BodyChildren t ws r z → InBounds z
          → returned (body_of t r) ≡ returned (body_node (exp_of t) (body_of t) z)
          → wide_b (body_node (exp_of t) (body_of t) z) ≡ true → BodyNeeds t ws r z
      go (Identifier a) c i w f = tt
      go (Constant k a) c i w f = tt
      go (Pair a b) c i w f = tt
      go (Operator a b) c i w f = tt
      go (Let a b x y) c i w f =
          (table x c.0.0 ∙ let-fits-B a b (exp_of t x) (body_of t y) f, i, sym w)
      go (If a x y) c i w f = (
        table a c.0.0 ∙ (if-fits-B (exp_of t a) (body_of t x) (body_of t y) f).0,
        (λ v p.
            arms-suit (returned (body_of t x)) (returned (body_of t y)) v
            (if-fits-B (exp_of t a) (body_of t x) (body_of t y) f).2 (rw w at p)),
      )
      go (For a b x y) c i w f = tt
      go (Iter a) c i w f = narrow a c.0
