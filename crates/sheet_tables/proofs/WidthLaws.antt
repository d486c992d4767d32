-- The widths of a row's node from those of the nodes of the rows that it names.
use Prim.Native.Nat.{ℕ, ◌+◌, ◌-◌, ◌≤◌, ◌<◌}
use mathlib.Core.Path.{◌≡◌, refl, sym, ap, subst, ◌∙◌}
use mathlib.Core.Bool.{Bool, true, false, ◌&&◌}
use mathlib.Core.List.{List}
use native.Mathlib.Omega.{arith}
use lib.Dec.{leb}
use lib.ListN.{get_or}
use Rattle.formula.specs.declared.Shape.{Shape}
use Rattle.formula.specs.declared.Shape.TheVariants.{Identifier, Constant, Pair, Operator, Let, If, For, Iter}
use Rattle.formula.specs.Sheet.{shape_at, named_in}
use Rattle.formula.specs.Tree.{Exp, Body, exp_node, body_node, exp_of, body_of}
use Rattle.formula.specs.Places.{Node, is_in_body}
use Rattle.formula.specs.Widths.{width, iterated, fitting_e, fitting_b, wide_e, wide_b}
use Rattle.formula.specs.Tests.{wide_node, widths_well}
use borrow.Author.Tests.{leb-true}
use Rattle.formula.specs.TreeLaws.{AllBetween}
use Rattle.formula.proofs.TreeLaws.{and-true}
use Rattle.sheet_tables.specs.declared.widths.Widths.{Widths}
use Rattle.sheet_tables.specs.Nodes.{node_at, returned_in, iterated_in, Holds}
use Rattle.sheet_tables.specs.Ready.{Ready}
use Rattle.sheet_tables.specs.Widths.{widths_by, well_by}
use Rattle.sheet_tables.proofs.NodeLaws.{node_by, Parts, node_at_lem, parts_at}

-- What a table has to say of a node.
pub record Tells (node : Node) (w : Widths) : Type 0 where
  pub returns : returned_in node ≡ w.returned
  pub iterates : iterated_in node ≡ w.iterated
  pub rules : wide_node node ≡ well_by w

module _ (N : ℕ → Node) (E : ℕ → Exp) (B : ℕ → Body) where
  R : ℕ → ℕ
  R k = returned_in (N k)

  I : ℕ → ℕ
  I k = iterated_in (N k)

  pub tells : (b : Bool) (s : Shape) → Parts N E B b s → Tells (node_by b E B s) (widths_by b (λ k. returned_in (N k)) (λ k. iterated_in (N k)) s)
  unfolding widths_by exp_node body_node width iterated wide_node wide_e wide_b fitting_e fitting_b
  tells true (Identifier a) h = record { returns = refl; iterates = refl; rules = refl }
  tells false (Identifier a) h = record { returns = refl; iterates = refl; rules = refl }
  tells true (Constant k a) h = record { returns = refl; iterates = refl; rules = refl }
  tells false (Constant k a) h = record { returns = refl; iterates = refl; rules = refl }
  tells true (Pair x y) h = rw (h.0, h.1) (record { returns = refl; iterates = refl; rules = refl })
  tells false (Pair x y) h = rw (h.0, h.1) (record { returns = refl; iterates = refl; rules = refl })
  tells true (Operator k x) h = rw h (record { returns = refl; iterates = refl; rules = refl })
  tells false (Operator k x) h = rw h (record { returns = refl; iterates = refl; rules = refl })
  tells true (Let a k x y) h = rw (h.0, h.1) (record { returns = refl; iterates = refl; rules = refl })
  tells false (Let a k x y) h = rw (h.0, h.1) (record { returns = refl; iterates = refl; rules = refl })
  tells true (If x y z) h = rw (h.0, h.1, h.2) (record { returns = refl; iterates = refl; rules = refl })
  tells false (If x y z) h = rw (h.0, h.1, h.2) (record { returns = refl; iterates = refl; rules = refl })
  tells true (For a k x y) h = rw (h.0, h.1) (record { returns = refl; iterates = refl; rules = refl })
  tells false (For a k x y) h = rw (h.0, h.1) (record { returns = refl; iterates = refl; rules = refl })
  tells true (Iter x) h = rw h.1 (record { returns = refl; iterates = refl; rules = refl })
  tells false (Iter x) h = let z : ◌≡◌ {A = ℕ} 0 1 = cc h.0 in absurd (omega arith)

-- A row's widths by tables that hold those of the earlier rows.
pub same-widths : (b : Bool) (r : ℕ) (R I J K : ℕ → ℕ) (s : Shape) → AllBetween r (named_in s)
    → ((k : ℕ) → 1 ≤ k → k < r → J k ≡ R k) → ((k : ℕ) → 1 ≤ k → k < r → K k ≡ I k) → widths_by b J K s ≡ widths_by b R I s
unfolding widths_by named_in
same-widths b r R I J K (Identifier a) h u v = refl
same-widths b r R I J K (Constant k a) h u v = refl
same-widths b r R I J K (Pair x y) h u v = rw (u x h.0.0 h.0.1, u y h.1.0.0 h.1.0.1) refl
same-widths b r R I J K (Operator k x) h u v = rw (u x h.0.0 h.0.1) refl
same-widths b r R I J K (Let a k x y) h u v = rw (u x h.0.0 h.0.1, u y h.1.0.0 h.1.0.1, v y h.1.0.0 h.1.0.1) refl
same-widths true r R I J K (If x y z) h u v =
    rw (u x h.0.0 h.0.1, u y h.1.0.0 h.1.0.1, v y h.1.0.0 h.1.0.1, u z h.1.1.0.0 h.1.1.0.1, v z h.1.1.0.0 h.1.1.0.1) refl
same-widths false r R I J K (If x y z) h u v =
    rw (u x h.0.0 h.0.1, u y h.1.0.0 h.1.0.1, u z h.1.1.0.0 h.1.1.0.1) refl
same-widths b r R I J K (For a k x y) h u v = rw (u x h.0.0 h.0.1, u y h.1.0.0 h.1.0.1, v y h.1.0.0 h.1.0.1) refl
same-widths b r R I J K (Iter x) h u v = rw (u x h.0.0 h.0.1) refl

module _ (t : List ℕ) (n : ℕ) (p : List Bool) (ok : Ready t n p) (i : ℕ) (l : i < n) (J K : List ℕ)
    (hu : Holds 0 J i (λ k. returned_in (node_at t p k))) (hv : Holds 0 K i (λ k. iterated_in (node_at t p k)))
  where
    -- Row i + 1 by the tables of the rows before it.
    pub row-widths : Tells (node_at t p (i + 1)) (widths_by (is_in_body p (i + 1)) (λ k. get_or J (k - 1) 0) (λ k. get_or K (k - 1) 0) (shape_at t (i + 1)))
    row-widths =
        let q = tells (node_at t p) (exp_of t) (body_of t) (is_in_body p (i + 1)) (shape_at t (i + 1)) (parts_at t n p ok (i + 1) (omega arith) (omega arith)) in
        let e = node_at_lem t n p ok (i + 1) (omega arith) (omega arith) in
        let f = same-widths (is_in_body p (i + 1)) (i + 1) (λ k. returned_in (node_at t p k)) (λ k. iterated_in (node_at t p k)) (λ k. get_or J (k - 1) 0) (λ k. get_or K (k - 1) 0) (shape_at t (i + 1))
        (ok.sound.named.names (i + 1) (omega arith) (omega arith)) (λ k a b. hu.entry k a (omega arith)) (λ k a b. hv.entry k a (omega arith)) in
        subst (λ (w : Widths). Tells (node_at t p (i + 1)) w) (sym f) (subst (λ (m : Node). Tells m (widths_by (is_in_body p (i + 1)) (λ k. returned_in (node_at t p k)) (λ k. iterated_in (node_at t p k)) (shape_at t (i + 1)))) (sym e) q)

pub well-node : (t : List ℕ) (p : List Bool) (r : ℕ) → widths_well t p r ≡ wide_node (node_at t p r)
unfolding widths_well
well-node t p r = refl

-- What the code computes of row i + 1.
pub row_told : (t : List ℕ) (n : ℕ) (p : List Bool) → Ready t n p → (i : ℕ) → i < n → (J K : List ℕ)
    → Holds 0 J i (λ k. returned_in (node_at t p k)) → Holds 0 K i (λ k. iterated_in (node_at t p k))
    → (s : Shape) → s ≡ shape_at t (i + 1) → (w : Widths) → w ≡ widths_by (get_or p i false) (λ k. get_or J (k - 1) 0) (λ k. get_or K (k - 1) 0) s
    → Tells (node_at t p (i + 1)) w
row_told t n p ok i l J K hj hk s e w d =
    let z : i ≡ i + 1 - 1 = omega arith in
    subst (λ (v : Widths). Tells (node_at t p (i + 1)) v)
    (sym (d ∙ ap (λ j. widths_by (get_or p j false) (λ k. get_or J (k - 1) 0) (λ k. get_or K (k - 1) 0) s) z ∙ ap (widths_by (is_in_body p (i + 1)) (λ k. get_or J (k - 1) 0) (λ k. get_or K (k - 1) 0)) e))
    (row-widths t n p ok i l J K hj hk)

pub well-bounds : (w : Widths) → well_by w ≡ true → (w.iterated ≤ 16) × (w.returned ≤ 16)
well-bounds w h =
    let both = and-true (leb w.iterated 16 && leb w.returned 16) w.fits h in
    let each = and-true (leb w.iterated 16) (leb w.returned 16) both.0 in
    (leb-true w.iterated 16 each.0, leb-true w.returned 16 each.1)
