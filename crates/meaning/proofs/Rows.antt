-- Laws of specs/Rows.antt, and what only they need.
use Rattle.std.specs.Prelude.{ℕ, zero, suc, ◌+◌, ◌-◌, ◌≤◌, ◌<◌, ◌≡◌, Bool, true, false, cond, ◌&&◌, List, eqb, leb, get_or}
use Rattle.std.proofs.Math.Path.{refl, subst}
use Rattle.std.proofs.Common.{sym, ap, ◌∙◌, leb-true, arith}
use Rattle.std.proofs.lemmas.Bool.{false≢true}
use Rattle.formula.specs.declared.Shape.{Shape}
use Rattle.formula.specs.declared.Shape.TheVariants.{Identifier, Constant, Pair, Operator, Let, If, For, Iter}
use Rattle.formula.specs.Sheet.{field, shape_of, shape_at, named_in}
use Rattle.formula.specs.Tree.{Exp, Body, ret, exp_node, body_node, exp_of, body_of}
use Rattle.formula.specs.TreeLaws.{AllBetween, Named}
use Rattle.formula.proofs.TreeLaws.{and-true, exp-as, body-as, between-as}
use Rattle.formula.specs.Places.{is_in_body, places_of, node_in}
use Rattle.formula.specs.Widths.{width, returned, wide_e, wide_b}
use Rattle.formula.specs.Tests.{in_range, ranges_well, placed_well, wide_node, widths_well}
use Rattle.meaning.specs.WidthLaws.{SoundE, SoundB}
use Rattle.meaning.proofs.WidthLaws.{ret-fits}
use Rattle.meaning.specs.Rows.{InBounds, Placed, Plain, width_in, Accepted, ExpPlace, ExpRow, BodyRow, ExpChildren, BodyChildren}

first_two : (x y z w : Bool) → x && y && z && w ≡ true → (x ≡ true) × (y ≡ true)
first_two x y z w h = and-true x y (and-true (x && y) z (and-true (x && y && z) w h).0).0

last-bound : (a m : ℕ) (rest : Bool) → rest && leb a m ≡ true → a ≤ m
last-bound a m rest h = leb-true a m (and-true rest (leb a m) h).1

in_bounds : (kind a b c d : ℕ) → in_range kind a b c d ≡ true → InBounds (shape_of kind a b c d)
unfolding in_range shape_of
in_bounds kind a b c d =
    go (eqb kind 1) (eqb kind 2) (eqb kind 3) (eqb kind 4) (eqb kind 5) (eqb kind 6) (eqb kind 7) (eqb kind 8) (eqb kind 9) (eqb kind 10)
  where
    go : (k1 k2 k3 k4 k5 k6 k7 k8 k9 k10 : Bool)
        → cond k1 (leb a 31 && eqb b 0 && eqb c 0 && eqb d 0)
        (cond k2 (leb a 999999 && eqb b 0 && eqb c 0 && eqb d 0)
        (cond k3 (leb a 1 && eqb b 0 && eqb c 0 && eqb d 0)
        (cond k4 (eqb c 0 && eqb d 0)
        (cond k5 (leb 1 a && leb a 11 && eqb c 0 && eqb d 0)
        (cond k6 (leb 1 b && leb (a + b) 32)
        (cond k7 (eqb d 0)
        (cond k8 (leb 1 b && leb (a + b) 32)
        (cond k9 (eqb b 0 && eqb c 0 && eqb d 0)
        (cond k10 (leb a 999999 && eqb b 0 && eqb c 0 && eqb d 0)
        false))))))))) ≡ true
        → InBounds
        (cond k1 (Identifier a)
        (cond k2 (Constant 2 a)
        (cond k3 (Constant 3 a)
        (cond k4 (Pair a b)
        (cond k5 (Operator a b)
        (cond k6 (Let a b c d)
        (cond k7 (If a b c)
        (cond k8 (For a b c d)
        (cond k9 (Iter a)
        (cond k10 (Constant 10 a)
        (Constant 2 0)))))))))))
    go true k2 k3 k4 k5 k6 k7 k8 k9 k10 h = leb-true a 31 (first_two (leb a 31) (eqb b 0) (eqb c 0) (eqb d 0) h).0
    go false true k3 k4 k5 k6 k7 k8 k9 k10 h = leb-true a 999999 (first_two (leb a 999999) (eqb b 0) (eqb c 0) (eqb d 0) h).0
    go false false true k4 k5 k6 k7 k8 k9 k10 h = leb-true a 1 (first_two (leb a 1) (eqb b 0) (eqb c 0) (eqb d 0) h).0
    go false false false true k5 k6 k7 k8 k9 k10 h = tt
    go false false false false true k6 k7 k8 k9 k10 h = leb-true a 11 (first_two (leb 1 a) (leb a 11) (eqb c 0) (eqb d 0) h).1
    go false false false false false true k7 k8 k9 k10 h = last-bound (a + b) 32 (leb 1 b) h
    go false false false false false false true k8 k9 k10 h = tt
    go false false false false false false false true k9 k10 h = last-bound (a + b) 32 (leb 1 b) h
    go false false false false false false false false true k10 h = tt
    go false false false false false false false false false true h = leb-true a 999999 (first_two (leb a 999999) (eqb b 0) (eqb c 0) (eqb d 0) h).0
    go false false false false false false false false false false h = absurd (false≢true h)

pub expression-place : {b : Bool} (s : Shape) → b ≡ false → ExpPlace b s
expression-place s e = subst (λ (b : Bool). ExpPlace b s) (sym e) tt

module _ (t ws : List ℕ) (n : ℕ) (ok : Accepted t ws n) (r : ℕ) (l : 1 ≤ r) (u : r ≤ n) where
  pub bounds-as : (s : Shape) → shape_at t r ≡ s → InBounds s
  unfolding shape_at ranges_well
  bounds-as s e =
      subst InBounds e
      (in_bounds (field t r 0) (field t r 1) (field t r 2) (field t r 3) (field t r 4) (ok.ranged r l u))

  pub placed-as : (s : Shape) → shape_at t r ≡ s → Placed (places_of t n) (is_in_body (places_of t n) r) s
  placed-as s e = subst (Placed (places_of t n) (is_in_body (places_of t n) r)) e (ok.placed r l u)

  exp-child : (x : ℕ) → 1 ≤ x → x < r → is_in_body (places_of t n) x ≡ false → ExpRow t ws x
  exp-child x p q e =
      record {
        rows = n;
        accepted = ok;
        low = p;
        high = omega arith;
        place = subst (λ (b : Bool). ExpPlace b (shape_at t x)) (sym e) tt;
      }

  body-child : (x : ℕ) → 1 ≤ x → x < r → is_in_body (places_of t n) x ≡ true → BodyRow t ws x
  body-child x p q e = record { rows = n; accepted = ok; low = p; high = omega arith; place = e }

-- "iter in an expression place" is refused.
no-iter : (t : List ℕ) (n r a : ℕ) → placed_well t (places_of t n) r ≡ true → shape_at t r ≡ Iter a → is_in_body (places_of t n) r ≡ true
unfolding placed_well
no-iter t n r a h e = rw e at h

pub exp-children : (t ws : List ℕ) (r : ℕ) (h : ExpRow t ws r) (s : Shape) → shape_at t r ≡ s → ExpChildren t ws r s
unfolding named_in
exp-children t ws r h s e = go (is_in_body p r) refl s e place named placed
  where
    n : ℕ
    n = h.rows

    p : List Bool
    p = places_of t n

    place : ExpPlace (is_in_body p r) s
    place = subst (ExpPlace (is_in_body p r)) e h.place

    named : AllBetween r (named_in s)
    named = between-as t n h.accepted.named r h.low h.high s e

    placed : Placed p (is_in_body p r) s
    placed = placed-as t ws n h.accepted r h.low h.high s e

    at : (x : ℕ) → (1 ≤ x) × (x < r) → is_in_body p x ≡ false → ExpRow t ws x × (x < r)
    at x i f = (exp-child t ws n h.accepted r h.low h.high x i.0 i.1 f, i.1)

    in_body : (x : ℕ) → (1 ≤ x) × (x < r) → is_in_body p x ≡ true → BodyRow t ws x × (x < r)
    in_body x i f = (body-child t ws n h.accepted r h.low h.high x i.0 i.1 f, i.1)

    go : (b : Bool) → is_in_body p r ≡ b → (z : Shape) → shape_at t r ≡ z → ExpPlace (is_in_body p r) z → AllBetween r (named_in z)
        → Placed p (is_in_body p r) z → ExpChildren t ws r z
    go b q (Identifier a) f i j k = tt
    go b q (Constant kind a) f i j k = tt
    go b q (Pair a c) f i j k = (at a j.0 k.0, at c j.1.0 k.1)
    go b q (Operator a c) f i j k = at c j.0 k
    go true q (Let a b c d) f i j k = absurd (rw q at i)
    go false q (Let a b c d) f i j k = (at c j.0 k.0, at d j.1.0 (k.1 ∙ q))
    go true q (If a b c) f i j k = absurd (rw q at i)
    go false q (If a b c) f i j k = (at a j.0 k.0, at b j.1.0 (k.1 ∙ q), at c j.1.1.0 (k.2 ∙ q))
    go b q (For a c d e₁) f i j k = (at d j.0 k.0, in_body e₁ j.1.0 k.1)
    go true q (Iter a) f i j k = absurd (rw q at i)
    go false q (Iter a) f i j k =
        absurd (false≢true (sym q ∙ no-iter t n r a (h.accepted.iters r h.low h.high) f))

pub body-children : (t ws : List ℕ) (r : ℕ) (h : BodyRow t ws r) (s : Shape) → shape_at t r ≡ s → BodyChildren t ws r s
unfolding named_in
body-children t ws r h s e = go s named placed
  where
    n : ℕ
    n = h.rows

    p : List Bool
    p = places_of t n

    named : AllBetween r (named_in s)
    named = between-as t n h.accepted.named r h.low h.high s e

    placed : Placed p (is_in_body p r) s
    placed = placed-as t ws n h.accepted r h.low h.high s e

    at : (x : ℕ) → (1 ≤ x) × (x < r) → is_in_body p x ≡ false → ExpRow t ws x × (x < r)
    at x i f = (exp-child t ws n h.accepted r h.low h.high x i.0 i.1 f, i.1)

    in_body : (x : ℕ) → (1 ≤ x) × (x < r) → is_in_body p x ≡ true → BodyRow t ws x × (x < r)
    in_body x i f = (body-child t ws n h.accepted r h.low h.high x i.0 i.1 f, i.1)

    go : (z : Shape) → AllBetween r (named_in z) → Placed p (is_in_body p r) z → BodyChildren t ws r z
    go (Identifier a) j k = tt
    go (Constant kind a) j k = tt
    go (Pair a c) j k = tt
    go (Operator a c) j k = tt
    go (Let a b c d) j k = (at c j.0 k.0, in_body d j.1.0 (k.1 ∙ h.place))
    go (If a b c) j k = (at a j.0 k.0, in_body b j.1.0 (k.1 ∙ h.place), in_body c j.1.1.0 (k.2 ∙ h.place))
    go (For a c d e₁) j k = tt
    go (Iter a) j k = at a j.0 k

-- A row that ends its body is evaluated as an expression.
pub ending-row : (t ws : List ℕ) (r : ℕ) (h : BodyRow t ws r) → Plain (shape_at t r) → ExpRow t ws r
ending-row t ws r h p =
    record {
      rows = h.rows;
      accepted = h.accepted;
      low = h.low;
      high = h.high;
      place = subst (λ (b : Bool). ExpPlace b (shape_at t r)) (sym h.place) p;
    }

-- ---- trees and widths
-- A row that is read alike in both places, as a body, returns what it is as an expression.
plain_body : (E : ℕ → Exp) (B : ℕ → Body) (s : Shape) → Plain s → body_node E B s ≡ ret (exp_node E B s)
unfolding body_node
plain_body E B (Identifier a) h = refl
plain_body E B (Constant k a) h = refl
plain_body E B (Pair a b) h = refl
plain_body E B (Operator a b) h = refl
plain_body E B (Let a b c d) h = absurd h
plain_body E B (If a b c) h = absurd h
plain_body E B (For a b c d) h = refl
plain_body E B (Iter a) h = absurd h

pub plain-as : (t : List ℕ) (n : ℕ) → Named t n → (r : ℕ) → 1 ≤ r → r ≤ n → Plain (shape_at t r) → body_of t r ≡ ret (exp_of t r)
plain-as t n ok r l u h =
    body-as t n ok r l u (shape_at t r) refl
    ∙ plain_body (exp_of t) (body_of t) (shape_at t r) h
    ∙ ap ret (sym (exp-as t n ok r l u (shape_at t r) refl))

-- Test 8 and the table's width of a row that is evaluated as an expression.
pub exp-facts : (t ws : List ℕ) (r : ℕ) → ExpRow t ws r → (wide_e (exp_of t r) ≡ true) × (get_or ws (r - 1) 0 ≡ width (exp_of t r))
unfolding widths_well wide_node node_in width_in
exp-facts t ws r h =
    go (is_in_body (places_of t h.rows) r) refl h.place (h.accepted.wide r h.low h.high)
    (h.accepted.widths r h.low h.high)
  where
    go : (b : Bool) → is_in_body (places_of t h.rows) r ≡ b → ExpPlace b (shape_at t r)
        → wide_node (node_in b t r) ≡ true → get_or ws (r - 1) 0 ≡ width_in b t r
        → (wide_e (exp_of t r) ≡ true) × (get_or ws (r - 1) 0 ≡ width (exp_of t r))
    go true q i w f =
        let e : body_of t r ≡ ret (exp_of t r) = plain-as t h.rows h.accepted.named r h.low h.high i in
        (ret-fits (exp_of t r) (subst (λ (y : Body). wide_b y ≡ true) e w), f ∙ ap returned e)
    go false q i w f = (w, f)

pub body-wide : (t ws : List ℕ) (r : ℕ) → BodyRow t ws r → wide_b (body_of t r) ≡ true
unfolding widths_well wide_node node_in
body-wide t ws r h = subst (λ (b : Bool). wide_node (node_in b t r) ≡ true) h.place (h.accepted.wide r h.low h.high)

-- ---- the trees of an accepted sheet are sound
module _ (t ws : List ℕ) where
  sound-exp : (r : ℕ)
      → ((k : ℕ) → k < r → ExpRow t ws k → SoundE (exp_of t k))
      → ((k : ℕ) → k < r → BodyRow t ws k → SoundB (body_of t k))
      → ExpRow t ws r → SoundE (exp_of t r)
  unfolding exp_node
  sound-exp r below inner h = subst SoundE (sym tree) (go (shape_at t r) refl wide)
    where
      tree : exp_of t r ≡ exp_node (exp_of t) (body_of t) (shape_at t r)
      tree = exp-as t h.rows h.accepted.named r h.low h.high (shape_at t r) refl

      wide : wide_e (exp_node (exp_of t) (body_of t) (shape_at t r)) ≡ true
      wide = subst (λ (x : Exp). wide_e x ≡ true) tree (exp-facts t ws r h).0

      at : (k : ℕ) → ExpRow t ws k × (k < r) → SoundE (exp_of t k)
      at k c = below k c.1 c.0

      go : (s : Shape) → shape_at t r ≡ s → wide_e (exp_node (exp_of t) (body_of t) s) ≡ true
          → SoundE (exp_node (exp_of t) (body_of t) s)
      go (Identifier a) e w = tt
      go (Constant k a) e w = tt
      go (Pair a b) e w =
          let c : ExpChildren t ws r (Pair a b) = exp-children t ws r h (Pair a b) e in
          (w, at a c.0, at b c.1)
      go (Operator a b) e w = (w, at b (exp-children t ws r h (Operator a b) e))
      go (Let a b c d) e w =
          let k : ExpChildren t ws r (Let a b c d) = exp-children t ws r h (Let a b c d) e in
          (w, at c k.0, at d k.1)
      go (If a b c) e w =
          let k : ExpChildren t ws r (If a b c) = exp-children t ws r h (If a b c) e in
          (w, at a k.0, at b k.1, at c k.2)
      go (For a b c d) e w =
          let k : ExpChildren t ws r (For a b c d) = exp-children t ws r h (For a b c d) e in
          (w, at c k.0, inner d k.1.1 k.1.0)
      go (Iter a) e w = absurd (exp-children t ws r h (Iter a) e)

  sound-body : (r : ℕ)
      → ((k : ℕ) → k < r → ExpRow t ws k → SoundE (exp_of t k))
      → ((k : ℕ) → k < r → BodyRow t ws k → SoundB (body_of t k))
      → (ExpRow t ws r → SoundE (exp_of t r))
      → BodyRow t ws r → SoundB (body_of t r)
  unfolding body_node
  sound-body r below inner here h = subst SoundB (sym tree) (go (shape_at t r) refl wide)
    where
      tree : body_of t r ≡ body_node (exp_of t) (body_of t) (shape_at t r)
      tree = body-as t h.rows h.accepted.named r h.low h.high (shape_at t r) refl

      wide : wide_b (body_node (exp_of t) (body_of t) (shape_at t r)) ≡ true
      wide = subst (λ (y : Body). wide_b y ≡ true) tree (body-wide t ws r h)

      at : (k : ℕ) → ExpRow t ws k × (k < r) → SoundE (exp_of t k)
      at k c = below k c.1 c.0

      in_body : (k : ℕ) → BodyRow t ws k × (k < r) → SoundB (body_of t k)
      in_body k c = inner k c.1 c.0

      ends : (s : Shape) → shape_at t r ≡ s → Plain s → SoundE (exp_node (exp_of t) (body_of t) s)
      ends s e p =
          subst SoundE (exp-as t h.rows h.accepted.named r h.low h.high s e)
          (here (ending-row t ws r h (subst Plain (sym e) p)))

      go : (s : Shape) → shape_at t r ≡ s → wide_b (body_node (exp_of t) (body_of t) s) ≡ true
          → SoundB (body_node (exp_of t) (body_of t) s)
      go (Identifier a) e w = tt
      go (Constant k a) e w = tt
      go (Pair a b) e w = ends (Pair a b) e tt
      go (Operator a b) e w = ends (Operator a b) e tt
      go (Let a b c d) e w =
          let k : BodyChildren t ws r (Let a b c d) = body-children t ws r h (Let a b c d) e in
          (w, at c k.0, in_body d k.1)
      go (If a b c) e w =
          let k : BodyChildren t ws r (If a b c) = body-children t ws r h (If a b c) e in
          (w, at a k.0, in_body b k.1, in_body c k.2)
      go (For a b c d) e w = ends (For a b c d) e tt
      go (Iter a) e w = (w, at a (body-children t ws r h (Iter a) e))

  both-sound : (depth r : ℕ) → r < depth
      → (ExpRow t ws r → SoundE (exp_of t r)) × (BodyRow t ws r → SoundB (body_of t r))
  both-sound zero r l = absurd (omega arith)
  both-sound (suc depth) r l =
      let below : (k : ℕ) → k < r → ExpRow t ws k → SoundE (exp_of t k) = λ k i. (both-sound depth k (omega arith)).0 in
      let inner : (k : ℕ) → k < r → BodyRow t ws k → SoundB (body_of t k) = λ k i. (both-sound depth k (omega arith)).1 in
      (sound-exp r below inner, sound-body r below inner (sound-exp r below inner))

  -- Every node of an accepted sheet's trees passes test 8.
  pub exp-sound : (r : ℕ) → ExpRow t ws r → SoundE (exp_of t r)
  exp-sound r h = (both-sound (suc r) r (omega arith)).0 h

  pub body-sound : (r : ℕ) → BodyRow t ws r → SoundB (body_of t r)
  body-sound r h = (both-sound (suc r) r (omega arith)).1 h
