-- The inputs of a formula's graph are the formula's free names (document 01: "The free names of a row form a set over 33 places"; Brock, section
-- 2.4: "an input port for each free variable .. and, optionally, an input port trigger"). Assumes an admitted tree.
use Rattle.std.specs.Prelude.{ℕ, suc, ◌+◌, ◌≤◌, ◌<◌, ◌≡◌, refl, Bool, true, false, not, ◌&&◌, ◌||◌, List, eqb}
use Rattle.std.proofs.Common.{sym, ap, ap₂, ◌∙◌, ne_eqb, eqb-true, arith}
use Rattle.names.specs.Names.{Names, trigger, one, union, without, range, size, size_from, bit}
use Rattle.names.proofs.Counts.{size_from-suc, size_from-mono}
use Rattle.formula.specs.Tree.{Exp, identifier, constant, pair, operator, let_e, if_e, for_e, Body, ret, iter, let_b, if_b}
use Rattle.formula.specs.Widths.{width, returned}
use Rattle.formula.specs.Free.{free_e, free_b, covers}
use Rattle.formula.specs.Admitted.{AdmittedE, AdmittedB}
use Rattle.graph.specs.Assembly.{Graph, free, member_of, up_from}
use Rattle.graph.specs.Translation.{test_name, returned_name, merge_row, arm_names, joined, graph_e, graph_b}
use Rattle.theory_yields.proofs.Naming.{or-false, or_left, or_right, member-up_from, below-up_from, above-up_from}
use Rattle.theory_yields.specs.Naming.{Small}
use Rattle.theory_yields.specs.Choice.{choice, Has, From}
use Rattle.theory_yields.proofs.Choice.{choice-free, unseen, kept}
use Rattle.theory_yields.proofs.Joins.{merge-lacks}
use Rattle.theory_yields.proofs.ArmNames.{arm-from-test, joined-lacks}

-- ---- a set over 33 places
small-union : (f g : Names) → Small f → Small g → Small (union f g)
small-union f g p q k h = or-false (f k) (g k) (p k h) (q k h)

small-without : (f g : Names) → Small f → Small (without f g)
small-without f g p k h = unseen (f k) (not (g k)) (p k h)

pub small-trigger : Small (one trigger)
small-trigger k h = ne_eqb trigger k (λ e. omega arith)

mutual
  unfolding free_e free_b

  pub small-E : (x : Exp) → AdmittedE x → Small (free_e x)
  small-E (identifier a) h = λ k l. ne_eqb a k (λ e. omega arith)
  small-E (constant k a) h = small-trigger
  small-E (pair x y) h = small-union (free_e x) (free_e y) (small-E x h.1) (small-E y h.2)
  small-E (operator k x) h = small-E x h.2
  small-E (let_e a b x y) h =
      small-union (free_e x) (without (free_e y) (range a b)) (small-E x h.2) (small-without (free_e y) (range a b) (small-E y h.3))
  small-E (if_e t x y) h =
      small-union (free_e t) (union (free_e x) (free_e y)) (small-E t h.1)
      (small-union (free_e x) (free_e y) (small-E x h.2) (small-E y h.3))
  small-E (for_e a b x y) h =
      small-union (free_e x) (without (free_b y) (range a b)) (small-E x h.2) (small-without (free_b y) (range a b) (small-B y h.3))

  pub small-B : (y : Body) → AdmittedB y → Small (free_b y)
  small-B (ret x) h = small-union (one trigger) (free_e x) small-trigger (small-E x h.1)
  small-B (iter x) h = small-union (one trigger) (free_e x) small-trigger (small-E x h.1)
  small-B (let_b a b x y) h =
      small-union (free_e x) (without (free_b y) (range a b)) (small-E x h.2) (small-without (free_b y) (range a b) (small-B y h.3))
  small-B (if_b t x y) h =
      small-union (free_e t) (union (free_b x) (free_b y)) (small-E t h.1)
      (small-union (free_b x) (free_b y) (small-B x h.2) (small-B y h.3))

-- ---- the graph's inputs
bound-free : (a b : ℕ) (f g : Graph) (u v : Names) → Has f u → Has g v → (k : ℕ)
    → free f k || (free g k && not (member_of (up_from a b) k)) ≡ u k || (v k && not (range a b k))
bound-free a b f g u v p q k = rw (p k, q k, member-up_from a b k) refl

-- What joins the arms of an expression's if.
pub merge-joins : (w : ℕ) (k : ℕ) → (k ≡ test_name → ⊥) → member_of (up_from (returned_name true) w) k ≡ false
    → member_of (up_from (returned_name false) w) k ≡ false → free (merge_row test_name returned_name w) k ≡ false
merge-joins w k n p q = merge-lacks test_name returned_name w k n p q

pub results-from-test : (side : Bool) (w : ℕ) → From 34 (up_from (returned_name side) w)
results-from-test true w k h = below-up_from 51 w k (omega arith)
results-from-test false w k h = below-up_from 84 w k (omega arith)

choice-has : (t : Graph) (ns : List ℕ) (f : Names) (a : Graph) (ms : List ℕ) (g : Names) (b j : Graph) (u : Names)
    → Has t u → Small u → Small f → Small g → Has a f → Has b g → From 34 ns → From 34 ms
    → ((k : ℕ) → (k ≡ test_name → ⊥) → member_of ns k ≡ false → member_of ms k ≡ false → free j k ≡ false)
    → Has (choice t ns f a ms g b j) (union u (union f g))
choice-has t ns f a ms g b j u e su sf sg p q fn fm jo k =
    choice-free t ns f a ms g b j (λ m l. e m ∙ su m l) sf sg p q fn fm jo k
    ∙ ap (λ (z : Bool). z || (f k || g k)) (e k)

mutual
  unfolding free free_e free_b graph_e graph_b

  pub free-E : (x : Exp) → AdmittedE x → Has (graph_e x) (free_e x)
  free-E (identifier a) h = λ k. refl
  free-E (constant kind a) h = λ k. refl
  free-E (pair x y) h = λ k. ap₂ ◌||◌ (free-E x h.1 k) (free-E y h.2 k)
  free-E (operator c x) h = free-E x h.2
  free-E (let_e a b x y) h =
      bound-free a b (graph_e x) (graph_e y) (free_e x) (free_e y) (free-E x h.2) (free-E y h.3)
  free-E (if_e t x y) h =
      choice-has (graph_e t) (up_from (returned_name true) (width x)) (free_e x) (graph_e x) (up_from (returned_name false) (width x)) (free_e y)
      (graph_e y) (merge_row test_name returned_name (width x)) (free_e t) (free-E t h.1) (small-E t h.1) (small-E x h.2)
      (small-E y h.3) (free-E x h.2) (free-E y h.3) (results-from-test true (width x)) (results-from-test false (width x))
      (merge-joins (width x))
  free-E (for_e a b x y) h =
      bound-free a b (graph_e x) (graph_b (returned y) y) (free_e x) (free_b y) (free-E x h.2) (free-B (returned y) y h.3)

  pub free-B : (w : ℕ) (y : Body) → AdmittedB y → Has (graph_b w y) (free_b y)
  free-B w (ret x) h = λ k. ap (λ (z : Bool). eqb trigger k || z) (free-E x h.1 k)
  free-B w (iter x) h = λ k. ap (λ (z : Bool). eqb trigger k || z) (free-E x h.1 k)
  free-B w (let_b a b x y) h =
      bound-free a b (graph_e x) (graph_b w y) (free_e x) (free_b y) (free-E x h.2) (free-B w y h.3)
  free-B w (if_b t x y) h =
      choice-has (graph_e t) (arm_names true w x) (free_b x) (graph_b w x) (arm_names false w y) (free_b y) (graph_b w y) (joined w x y) (free_e t)
      (free-E t h.1) (small-E t h.1) (small-B x h.2) (small-B y h.3) (free-B w x h.2) (free-B w y h.3)
      (arm-from-test true w x) (arm-from-test false w y) (joined-lacks w t x y h)

-- ---- what a let or a for binds is used, and a body has the trigger
size-pos : (n k : ℕ) (f : Names) → k < n → f k ≡ true → 1 ≤ size_from n f
size-pos n k f l h =
    let e : size_from (suc k) f ≡ size_from k f + 1 = size_from-suc k f ∙ ap (λ (b : Bool). size_from k f + bit b) h in
    omega (arith, size_from-mono (suc k) n f l)

-- "Each bound identifier must be free in row d."
pub covered : (f : Names) (a b : ℕ) → a + b ≤ 32 → covers f a b ≡ true → (k : ℕ) → range a b k ≡ true → k < 33 → f k ≡ true
unfolding covers size
covered f a b s h k r l = go (f k) refl
  where
    go : (t : Bool) → f k ≡ t → t ≡ true
    go true e = refl
    go false e =
        let p : 1 ≤ size_from 33 (without (range a b) f) = size-pos 33 k (without (range a b) f) l (rw (r, e) refl) in
        absurd (omega (arith, p, eqb-true (size_from 33 (without (range a b) f)) 0 h))

pub body-triggered : (y : Body) → AdmittedB y → free_b y trigger ≡ true
unfolding free_b
body-triggered (ret x) h = refl
body-triggered (iter x) h = refl
body-triggered (let_b a b x y) h =
    or_right (free_e x trigger) (free_b y trigger && not (range a b trigger))
    (kept (free_b y trigger) (range a b trigger) (sym (member-up_from a b trigger) ∙ go h.1) ∙ body-triggered y h.3)
  where
    go : (1 ≤ b) × (a + b ≤ 32) → member_of (up_from a b) trigger ≡ false
    go z = above-up_from a b trigger (omega arith)
body-triggered (if_b t x y) h =
    or_right (free_e t trigger) (free_b x trigger || free_b y trigger) (or_left (free_b x trigger) (free_b y trigger) (body-triggered x h.2))
