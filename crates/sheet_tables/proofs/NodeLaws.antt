-- The node of a row from the nodes of the rows that it names: by its place a row's tree is an expression or a body, and so
-- are, by the law of places, those of the rows that it names.
use Prim.Native.Nat.{ℕ, ◌+◌, ◌-◌, ◌≤◌, ◌<◌}
use mathlib.Core.Path.{◌≡◌, refl, sym, ap, subst, ◌∙◌}
use mathlib.Core.Bool.{Bool, true, false, not, ◌||◌, false≢true}
use mathlib.Core.List.{List, map}
use native.Mathlib.Omega.{arith}
use lib.ListN.{length, get_or, set, take}
use lib.Seq.{get_or-set_same, get_or-set_other, get_or-take}
use native.Mathlib.Decide.{ℕ_discrete}
use Rattle.formula.specs.declared.Shape.{Shape}
use Rattle.formula.specs.declared.Shape.TheVariants.{Identifier, Constant, Pair, Operator, Let, If, For, Iter}
use Rattle.formula.specs.Sheet.{shape_at, named_in}
use Rattle.formula.specs.Tree.{Exp, Body, exp_node, body_node, exp_of, body_of}
use Rattle.formula.specs.Places.{Node, expression, body, node_in, is_in_body}
use Rattle.formula.specs.Tests.{is_iter, placed_well}
use Rattle.formula.proofs.TreeLaws.{exp-at, body_at}
use Rattle.formula.specs.PlaceLaws.{field_places}
use Rattle.formula.proofs.PlaceLaws.{places-named, places-length}
use Rattle.sheet_tables.specs.Nodes.{node_at, Holds}
use Rattle.sheet_tables.specs.Ready.{Ready}

-- A row of shape s in a body place (b true) or an expression place, from the trees of the rows that it names.
abbrev pub node_by : Bool → (ℕ → Exp) → (ℕ → Body) → Shape → Node
node_by true E B s = body (body_node E B s)
node_by false E B s = expression (exp_node E B s)

-- What is known of the nodes N of the rows that a row of shape s names. An iter is in a body place.
abbrev pub Parts : (ℕ → Node) → (ℕ → Exp) → (ℕ → Body) → Bool → Shape → Type 0
Parts N E B b (Identifier a) = Unit {0}
Parts N E B b (Constant k a) = Unit {0}
Parts N E B b (Pair x y) = (N x ≡ expression (E x)) × (N y ≡ expression (E y))
Parts N E B b (Operator k x) = N x ≡ expression (E x)
Parts N E B true (Let a k x y) = (N x ≡ expression (E x)) × (N y ≡ body (B y))
Parts N E B false (Let a k x y) = (N x ≡ expression (E x)) × (N y ≡ expression (E y))
Parts N E B true (If x y z) = (N x ≡ expression (E x)) × (N y ≡ body (B y)) × (N z ≡ body (B z))
Parts N E B false (If x y z) = (N x ≡ expression (E x)) × (N y ≡ expression (E y)) × (N z ≡ expression (E z))
Parts N E B b (For a k x y) = (N x ≡ expression (E x)) × (N y ≡ body (B y))
Parts N E B b (Iter x) = (b ≡ true) × (N x ≡ expression (E x))

module _ (t : List ℕ) (p : List Bool) where
  in-expression : (x : ℕ) → is_in_body p x ≡ false → node_at t p x ≡ expression (exp_of t x)
  unfolding node_in
  in-expression x e = ap (λ b. node_in b t x) e

  in_body : (x : ℕ) → is_in_body p x ≡ true → node_at t p x ≡ body (body_of t x)
  unfolding node_in
  in_body x e = ap (λ b. node_in b t x) e

  by-places : (b : Bool) (s : Shape) → (is_iter s ≡ true → b ≡ true) → map (λ x. is_in_body p x) (named_in s) ≡ field_places b s
      → Parts (node_at t p) (exp_of t) (body_of t) b s
  unfolding named_in field_places
  by-places b (Identifier a) i e = tt
  by-places b (Constant k a) i e = tt
  by-places b (Pair x y) i e = (in-expression x (ap (λ l. get_or l 0 false) e), in-expression y (ap (λ l. get_or l 1 false) e))
  by-places b (Operator k x) i e = in-expression x (ap (λ l. get_or l 0 false) e)
  by-places true (Let a k x y) i e = (in-expression x (ap (λ l. get_or l 0 false) e), in_body y (ap (λ l. get_or l 1 false) e))
  by-places false (Let a k x y) i e = (in-expression x (ap (λ l. get_or l 0 false) e), in-expression y (ap (λ l. get_or l 1 false) e))
  by-places true (If x y z) i e =
      (in-expression x (ap (λ l. get_or l 0 false) e), in_body y (ap (λ l. get_or l 1 false) e), in_body z (ap (λ l. get_or l 2 false) e))
  by-places false (If x y z) i e =
      (in-expression x (ap (λ l. get_or l 0 false) e), in-expression y (ap (λ l. get_or l 1 false) e), in-expression z (ap (λ l. get_or l 2 false) e))
  by-places b (For a k x y) i e = (in-expression x (ap (λ l. get_or l 0 false) e), in_body y (ap (λ l. get_or l 1 false) e))
  by-places b (Iter x) i e = (i refl, in-expression x (ap (λ l. get_or l 0 false) e))

by_place : (b : Bool) (t : List ℕ) (r : ℕ) (E : Exp) (B : Body) → exp_of t r ≡ E → body_of t r ≡ B → (s : Shape)
    → E ≡ exp_node (exp_of t) (body_of t) s → B ≡ body_node (exp_of t) (body_of t) s → node_in b t r ≡ node_by b (exp_of t) (body_of t) s
unfolding node_in
by_place true t r E B e f s g h = ap body (f ∙ h)
by_place false t r E B e f s g h = ap expression (e ∙ g)

placed-iter : (i b : Bool) → (not i || b) ≡ true → i ≡ true → b ≡ true
placed-iter true b h e = h
placed-iter false b h e = absurd (false≢true e)

module _ (t : List ℕ) (n : ℕ) (p : List Bool) (ok : Ready t n p) (r : ℕ) (a : 1 ≤ r) (b : r ≤ n) where
  pub node_at_lem : node_at t p r ≡ node_by (is_in_body p r) (exp_of t) (body_of t) (shape_at t r)
  node_at_lem =
      by_place (is_in_body p r) t r (exp_of t r) (body_of t r) refl refl (shape_at t r) (exp-at t n ok.sound.named r a b) (body_at t n ok.sound.named r a b)

  pub parts_at : Parts (node_at t p) (exp_of t) (body_of t) (is_in_body p r) (shape_at t r)
  unfolding placed_well
  parts_at =
      by-places t p (is_in_body p r) (shape_at t r)
      (placed-iter (is_iter (shape_at t r)) (is_in_body p r) (ok.iters r a b))
      (subst (λ (q : List Bool). map (λ x. is_in_body q x) (named_in (shape_at t r)) ≡ field_places (is_in_body q r) (shape_at t r)) (sym ok.places) (places-named t n ok.sound r a b))

pub ready-length : (t : List ℕ) (n : ℕ) (p : List Bool) → Ready t n p → length p ≡ n
ready-length t n p ok = ap length ok.places ∙ places-length t n

-- ---- tables

module _ {A : Type 0} (none : A) (l : List A) (n : ℕ) (f : ℕ → A) where
  pub holds-none : Holds none l 0 f
  holds-none = record { entry = λ r a b. absurd (omega arith) }

  pub holds-take : Holds none l n f → Holds none (take n l) n f
  holds-take h = record { entry = λ r a b. get_or-take n l (r - 1) none (omega arith) ∙ h.entry r a b }

  -- One row more.
  pub holds_more : (v : A) → Holds none l n f → n < length l → v ≡ f (n + 1) → Holds none (set l n v) (n + 1) f
  holds_more v h k e = record { entry = λ r a b. go r a b (ℕ_discrete (r - 1) n) }
    where
      go : (r : ℕ) → 1 ≤ r → r ≤ n + 1 → Dec (r - 1 ≡ n) → get_or (set l n v) (r - 1) none ≡ f r
      go r a b (yes z) = ap (λ j. get_or (set l n v) j none) z ∙ get_or-set_same l n v none k ∙ e ∙ ap f (let q : n + 1 ≡ r = omega arith in q)
      go r a b (no z) = get_or-set_other l n (r - 1) v none z ∙ h.entry r a (omega arith)
