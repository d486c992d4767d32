-- What the value of a row of width one is made of (Part): a value, an operator on rows, or another row. Rests on document 01,
-- "The meaning". Assumes an accepted sheet's row.
use Rattle.std.specs.Prelude.{ℕ, ◌<◌, ◌≡◌, refl, List, [], ◌∷◌}
use Rattle.std.proofs.Common.{sym, ◌∙◌, arith}
use Rattle.std.proofs.Math.Path.{ap}
use Rattle.value.specs.declared.Value.{Value}
use Rattle.formula.specs.declared.Shape.{Shape}
use Rattle.formula.specs.declared.Shape.TheVariants.{Identifier, Constant, Pair, Operator, Let, If, For, Iter}
use Rattle.formula.specs.Constants.{constant_value}
use Rattle.formula.specs.Sheet.{shape_at}
use Rattle.formula.specs.Tree.{Exp, exp_node, exp_of, body_of}
use Rattle.formula.proofs.TreeLaws.{exp-as}
use Rattle.meaning.specs.Meaning.{Env, yields, eval_e}
use Rattle.meaning.specs.Rows.{ExpRow, ExpChildren}
use Rattle.meaning.proofs.Rows.{exp-children}
use Rattle.eval_words.specs.declared.Part.{Part}
use Rattle.eval_words.specs.declared.Part.TheVariants.{Value as value-part, One, Two, Wide, Other}
use Rattle.eval_words.specs.Words.{held_of}
use Rattle.eval_words.specs.Needs.{W, ExpNeeds, exp-needs}

-- A row's evaluation by its shape.
pub by_shape : (t ws : List ℕ) (r : ℕ) (h : ExpRow t ws r) (env : Env) (left : ℕ) (s : Shape) → shape_at t r ≡ s
    → eval_e (exp_of t r) env left ≡ eval_e (exp_node (exp_of t) (body_of t) s) env left
by_shape t ws r h env left s e =
    ap (λ (x : Exp). eval_e x env left) (exp-as t h.rows h.accepted.named r h.low h.high s e)

-- Two rows of width one, the operands of the operator of row r.
pub record Paired (t ws : List ℕ) (b x y : ℕ) : Type 0 where
  pub row : ExpRow t ws b
  pub shape : shape_at t b ≡ Pair x y
  pub first : W ws x ≡ 1
  pub second : W ws y ≡ 1

-- What is told of the operator of a code on row b.
abbrev pub Operands : List ℕ → List ℕ → ℕ → ℕ → Part → Type 0
Operands t ws code b (value-part w) = ⊥
Operands t ws code b (One k x) = (k ≡ code) × (x ≡ b) × (W ws b ≡ 1)
Operands t ws code b (Two k x y) = (k ≡ code) × Paired t ws b x y
Operands t ws code b (Wide k x) = (k ≡ code) × (x ≡ b)
Operands t ws code b Other = ⊥

-- An operator row and its operands' row.
pub record Operates (t ws : List ℕ) (r k b : ℕ) : Type 0 where
  pub row : ExpRow t ws r
  pub shape : shape_at t r ≡ Operator k b

pub record Pairs (t ws : List ℕ) (r k x y : ℕ) : Type 0 where
  pub between : ℕ
  pub operator : Operates t ws r k between
  pub paired : Paired t ws between x y

-- The kinds of a row that is evaluated by its parts' rows, each in lent words.
abbrev pub Compound : Shape → Type 0
Compound (Identifier a) = ⊥
Compound (Constant k a) = ⊥
Compound (Pair a b) = Unit {0}
Compound (Operator a b) = ⊥
Compound (Let a b c d) = Unit {0}
Compound (If a b c) = Unit {0}
Compound (For a b c d) = Unit {0}
Compound (Iter a) = ⊥

-- Names, constants and operators have one value.
pub wide-compound : (t ws : List ℕ) (r : ℕ) → ExpRow t ws r → (W ws r ≡ 1 → ⊥) → Compound (shape_at t r)
wide-compound t ws r h n = go (shape_at t r) (exp-needs t ws r h (shape_at t r) refl)
  where
    go : (s : Shape) → ExpNeeds t ws r s → Compound s
    go (Identifier a) f = absurd (n f.0)
    go (Constant k a) f = absurd (n f.0)
    go (Pair a b) f = tt
    go (Operator a b) f = absurd (n f.0)
    go (Let a b c d) f = tt
    go (If a b c) f = tt
    go (For a b c d) f = tt
    go (Iter a) f = f

-- What is told of row r.
abbrev pub PartOf : List ℕ → List ℕ → ℕ → Env → Part → Type 0
PartOf t ws r env (value-part w) = (left : ℕ) → eval_e (exp_of t r) env left ≡ yields (held_of w ∷ []) left
PartOf t ws r env (One k b) = Operates t ws r k b × (W ws b ≡ 1)
PartOf t ws r env (Two k x y) = Pairs t ws r k x y
PartOf t ws r env (Wide k b) = Operates t ws r k b
PartOf t ws r env Other = Compound (shape_at t r)

pub part-operator : (t ws : List ℕ) (r k b : ℕ) (env : Env) (p : Part) → ExpRow t ws r → shape_at t r ≡ Operator k b
    → Operands t ws k b p → PartOf t ws r env p
part-operator t ws r k b env (value-part w) h e q = absurd q
part-operator t ws r k b env (One j x) h e q =
    (record { row = h; shape = e ∙ (λ i. Operator (sym q.0 i) (sym q.1 i)) }, ap (W ws) q.1 ∙ q.2)
part-operator t ws r k b env (Two j x y) h e q =
    record { between = b; operator = record { row = h; shape = e ∙ ap (λ (z : ℕ). Operator z b) (sym q.0) }; paired = q.1 }
part-operator t ws r k b env (Wide j x) h e q =
    record { row = h; shape = e ∙ (λ i. Operator (sym q.0 i) (sym q.1 i)) }
part-operator t ws r k b env Other h e q = absurd q

module _ (t ws : List ℕ) (r : ℕ) (h : ExpRow t ws r) (env : Env) where
  pub part-identifier : (a w : ℕ) → shape_at t r ≡ Identifier a → env a ≡ held_of w
      → (left : ℕ) → eval_e (exp_of t r) env left ≡ yields (held_of w ∷ []) left
  unfolding eval_e exp_node
  part-identifier a w e p left = by_shape t ws r h env left (Identifier a) e ∙ ap (λ (v : Value). yields (v ∷ []) left) p

  pub part-constant : (k a w : ℕ) → shape_at t r ≡ Constant k a → held_of w ≡ constant_value k a
      → (left : ℕ) → eval_e (exp_of t r) env left ≡ yields (held_of w ∷ []) left
  unfolding eval_e exp_node
  part-constant k a w e p left = by_shape t ws r h env left (Constant k a) e ∙ ap (λ (v : Value). yields (v ∷ []) left) (sym p)

-- ---- the rows of a part

pub one-row : (t ws : List ℕ) (r k b : ℕ) → Operates t ws r k b → ExpRow t ws b × (b < r) × (k < 256)
one-row t ws r k b o = (
  (exp-children t ws r o.row (Operator k b) o.shape).0,
  (exp-children t ws r o.row (Operator k b) o.shape).1,
  (exp-needs t ws r o.row (Operator k b) o.shape).2,
)

pub two-rows : (t ws : List ℕ) (r k x y : ℕ) → Pairs t ws r k x y
    → ExpRow t ws x × ExpRow t ws y × (x < r) × (y < r) × (k < 256)
two-rows t ws r k x y p =
    let o : ExpRow t ws p.between × (p.between < r) × (k < 256) = one-row t ws r k p.between p.operator in
    let c : ExpChildren t ws p.between (Pair x y) = exp-children t ws p.between p.paired.row (Pair x y) p.paired.shape in
    (c.0.0, c.1.0, omega (arith, c.0.1, o.1), omega (arith, c.1.1, o.1), o.2)
