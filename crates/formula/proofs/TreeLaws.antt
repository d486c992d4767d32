-- Laws of specs/TreeLaws.antt, and what only they need.
use Prim.Native.Nat.{ℕ, zero, suc, ◌≤◌, ◌<◌}
use Rattle.std.specs.Prelude.{◌≡◌, Bool, true, false, ◌&&◌, List, [], ◌∷◌, leb, ltb}
use Rattle.std.proofs.Math.Path.{refl, ap}
use Rattle.std.proofs.Common.{subst, ◌∙◌, leb-true, ltb-true, arith}
use Rattle.std.proofs.lemmas.Bool.{false≢true}
use Rattle.formula.specs.declared.Shape.{Shape}
use Rattle.formula.specs.declared.Shape.TheVariants.{Identifier, Constant, Pair, Operator, Let, If, For, Iter}
use Rattle.formula.specs.Sheet.{shape_at, named_in}
use Rattle.formula.specs.Tree.{Exp, Body, ret, exp_node, body_node, exp_in, body_in, exp_of, body_of}
use Rattle.formula.specs.Tests.{all_between}
use Rattle.formula.specs.TreeLaws.{AllBetween, Named}

-- Both sides of a passed test passed.
pub and-true : (a b : Bool) → a && b ≡ true → (a ≡ true) × (b ≡ true)
and-true true b h = (refl, h)
and-true false b h = absurd (false≢true h)

pub all-between : (r : ℕ) (xs : List ℕ) → all_between r xs ≡ true → AllBetween r xs
unfolding all_between
all-between r [] h = tt
all-between r (x ∷ xs) h =
    let both : (leb 1 x && ltb x r ≡ true) × (all_between r xs ≡ true) = and-true (leb 1 x && ltb x r) (all_between r xs) h in
    let ends : (leb 1 x ≡ true) × (ltb x r ≡ true) = and-true (leb 1 x) (ltb x r) both.0 in
    ((leb-true 1 x ends.0, ltb-true x r ends.1), all-between r xs both.1)

-- A node depends only on the trees of the rows that it names.
module _
    (r : ℕ)
    (E E' : ℕ → Exp)
    (B B' : ℕ → Body)
    (p : (k : ℕ) → 1 ≤ k → k < r → E k ≡ E' k)
    (q : (k : ℕ) → 1 ≤ k → k < r → B k ≡ B' k)
  where
    exp-alike : (s : Shape) → AllBetween r (named_in s) → exp_node E B s ≡ exp_node E' B' s
    unfolding exp_node named_in
    exp-alike (Identifier a) h = refl
    exp-alike (Constant k a) h = refl
    exp-alike (Pair a b) h = cc (p a h.0.0 h.0.1, p b h.1.0.0 h.1.0.1)
    exp-alike (Operator a b) h = cc (p b h.0.0 h.0.1)
    exp-alike (Let a b c d) h = cc (p c h.0.0 h.0.1, p d h.1.0.0 h.1.0.1)
    exp-alike (If a b c) h =
        cc (p a h.0.0 h.0.1, p b h.1.0.0 h.1.0.1, p c h.1.1.0.0 h.1.1.0.1)
    exp-alike (For a b c d) h = cc (p c h.0.0 h.0.1, q d h.1.0.0 h.1.0.1)
    exp-alike (Iter a) h = p a h.0.0 h.0.1

    body_alike : (s : Shape) → AllBetween r (named_in s) → body_node E B s ≡ body_node E' B' s
    unfolding body_node named_in
    body_alike (Identifier a) h = refl
    body_alike (Constant k a) h = refl
    body_alike (Pair a b) h = ap ret (exp-alike (Pair a b) h)
    body_alike (Operator a b) h = ap ret (exp-alike (Operator a b) h)
    body_alike (Let a b c d) h = cc (p c h.0.0 h.0.1, q d h.1.0.0 h.1.0.1)
    body_alike (If a b c) h =
        cc (p a h.0.0 h.0.1, q b h.1.0.0 h.1.0.1, q c h.1.1.0.0 h.1.1.0.1)
    body_alike (For a b c d) h = ap ret (exp-alike (For a b c d) h)
    body_alike (Iter a) h = cc (p a h.0.0 h.0.1)

module _ (t : List ℕ) (n : ℕ) (ok : Named t n) where
  -- Any depth from the row's number on serves.
  steady : (f g r : ℕ) → 1 ≤ r → r ≤ n → r ≤ f → r ≤ g → (exp_in f t r ≡ exp_in g t r) × (body_in f t r ≡ body_in g t r)
  unfolding exp_in
  steady zero g r l u h i = absurd (omega arith)
  steady (suc f) zero r l u h i = absurd (omega arith)
  steady (suc f) (suc g) r l u h i =
      let p : (k : ℕ) → 1 ≤ k → k < r → exp_in f t k ≡ exp_in g t k =
      λ k a b. (steady f g k a (omega arith) (omega arith) (omega arith)).0
      in
      let q : (k : ℕ) → 1 ≤ k → k < r → body_in f t k ≡ body_in g t k =
      λ k a b. (steady f g k a (omega arith) (omega arith) (omega arith)).1
      in (
        exp-alike r (exp_in f t) (exp_in g t) (body_in f t) (body_in g t) p q (shape_at t r) (ok.names r l u),
        body_alike r (exp_in f t) (exp_in g t) (body_in f t) (body_in g t) p q (shape_at t r) (ok.names r l u),
      )

  -- The tree of row r, read in an expression place.
  pub exp-at : (r : ℕ) → 1 ≤ r → r ≤ n → exp_of t r ≡ exp_node (exp_of t) (body_of t) (shape_at t r)
  unfolding exp_of body_of exp_in
  exp-at zero l u = absurd (omega arith)
  exp-at (suc d) l u =
      exp-alike (suc d) (exp_in d t) (exp_of t) (body_in d t) (body_of t)
      (λ k a b. (steady d k k a (omega arith) (omega arith) (omega arith)).0)
      (λ k a b. (steady d k k a (omega arith) (omega arith) (omega arith)).1)
      (shape_at t (suc d)) (ok.names (suc d) l u)

  -- The tree of row r, read in a body place.
  pub body_at : (r : ℕ) → 1 ≤ r → r ≤ n → body_of t r ≡ body_node (exp_of t) (body_of t) (shape_at t r)
  unfolding exp_of body_of exp_in
  body_at zero l u = absurd (omega arith)
  body_at (suc d) l u =
      body_alike (suc d) (exp_in d t) (exp_of t) (body_in d t) (body_of t)
      (λ k a b. (steady d k k a (omega arith) (omega arith) (omega arith)).0)
      (λ k a b. (steady d k k a (omega arith) (omega arith) (omega arith)).1)
      (shape_at t (suc d)) (ok.names (suc d) l u)

  -- A row whose shape is known.
  pub exp-as : (r : ℕ) → 1 ≤ r → r ≤ n → (s : Shape) → shape_at t r ≡ s → exp_of t r ≡ exp_node (exp_of t) (body_of t) s
  exp-as r l u s e = exp-at r l u ∙ ap (exp_node (exp_of t) (body_of t)) e

  pub body-as : (r : ℕ) → 1 ≤ r → r ≤ n → (s : Shape) → shape_at t r ≡ s → body_of t r ≡ body_node (exp_of t) (body_of t) s
  body-as r l u s e = body_at r l u ∙ ap (body_node (exp_of t) (body_of t)) e

  pub between-as : (r : ℕ) → 1 ≤ r → r ≤ n → (s : Shape) → shape_at t r ≡ s → AllBetween r (named_in s)
  between-as r l u s e = subst (λ (z : Shape). AllBetween r (named_in z)) e (ok.names r l u)
