-- Document 01, "The formula sheet": a formula as a tree. "An expression may hold a loop, a loop holds a body, and a body
-- ends in an expression or an iter." Body places are d of a for and, of a row in a body place, d of a let and b, c of an
-- if; all other places are expression places. The tree of a row follows just that: `exp_of` reads a row in an expression
-- place and `body_of` one in a body place.
use Rattle.std.specs.Prelude.{ℕ, zero, suc, List}
use Rattle.formula.specs.declared.Shape.{Shape}
use Rattle.formula.specs.declared.Shape.TheVariants.{Identifier, Constant, Pair, Operator, Let, If, For, Iter}
use Rattle.formula.specs.Sheet.{shape_at, row_count, fields_of}

mutual
  pub data Exp : Type 0 where
    identifier : ℕ → Exp
    -- the row's kind, and a
    constant : ℕ → ℕ → Exp
    pair : Exp → Exp → Exp
    operator : ℕ → Exp → Exp
    let_e : ℕ → ℕ → Exp → Exp → Exp
    if_e : Exp → Exp → Exp → Exp
    for_e : ℕ → ℕ → Exp → Body → Exp

  pub data Body : Type 0 where
    ret : Exp → Body
    iter : Exp → Body
    let_b : ℕ → ℕ → Exp → Body → Body
    if_b : Exp → Body → Body → Body

-- A row in an expression place, from the trees of the rows that it names. An iter there is refused by 7.
unfoldable pub exp_node : (ℕ → Exp) → (ℕ → Body) → Shape → Exp
exp_node E B (Identifier a) = identifier a
exp_node E B (Constant k a) = constant k a
exp_node E B (Pair a b) = pair (E a) (E b)
exp_node E B (Operator a b) = operator a (E b)
exp_node E B (Let a b c d) = let_e a b (E c) (E d)
exp_node E B (If a b c) = if_e (E a) (E b) (E c)
exp_node E B (For a b c d) = for_e a b (E c) (B d)
exp_node E B (Iter a) = E a

-- A row in a body place: "ADFL's grammar lets a body's let or if be read two ways; the body reading holds."
unfoldable pub body_node : (ℕ → Exp) → (ℕ → Body) → Shape → Body
unfolding exp_node
body_node E B (Identifier a) = ret (exp_node E B (Identifier a))
body_node E B (Constant k a) = ret (exp_node E B (Constant k a))
body_node E B (Pair a b) = ret (exp_node E B (Pair a b))
body_node E B (Operator a b) = ret (exp_node E B (Operator a b))
body_node E B (Let a b c d) = let_b a b (E c) (B d)
body_node E B (If a b c) = if_b (E a) (B b) (B c)
body_node E B (For a b c d) = ret (exp_node E B (For a b c d))
body_node E B (Iter a) = iter (E a)

-- "A row named is .. smaller than the row naming it", so that a row's own number is depth enough.
unfoldable mutual
  unfolding exp_node body_node shape_at

  pub exp_in : ℕ → List ℕ → ℕ → Exp
  exp_in zero t r = constant 2 0
  exp_in (suc depth) t r = exp_node (λ k. exp_in depth t k) (λ k. body_in depth t k) (shape_at t r)

  pub body_in : ℕ → List ℕ → ℕ → Body
  body_in zero t r = ret (constant 2 0)
  body_in (suc depth) t r = body_node (λ k. exp_in depth t k) (λ k. body_in depth t k) (shape_at t r)

unfoldable pub exp_of : List ℕ → ℕ → Exp
unfolding exp_in
exp_of t r = exp_in r t r

unfoldable pub body_of : List ℕ → ℕ → Body
unfolding exp_in
body_of t r = body_in r t r

-- "the last is the formula"
unfoldable pub formula_of : List ℕ → Exp
unfolding exp_of fields_of
formula_of s = exp_of (fields_of s) (row_count s)
