-- The mask of a row's free names from those of the rows that it names, and test 9 by masks.
use Prim.Native.Nat.{ℕ, ◌+◌, ◌-◌, ◌^◌, ◌≤◌, ◌<◌}
use mathlib.Core.Path.{◌≡◌, refl, sym, ap, subst, ◌∙◌}
use mathlib.Core.Bool.{Bool, true, false, cond, ◌&&◌, false≢true}
use mathlib.Core.List.{List}
use native.Mathlib.Omega.{arith}
use lib.Dec.{leb, eqb}
use lib.ListN.{get_or}
use lib.Bits.{bit_and, bit_or}
use borrow.Author.Tests.{leb-true}
use Rattle.names.specs.Names.{Names, mask, one, union, without, range, trigger, size}
use Rattle.names.proofs.Sets.{mask_one, mask-range, known-union, known-minus, known-count}
use Rattle.formula.specs.declared.Shape.{Shape}
use Rattle.formula.specs.declared.Shape.TheVariants.{Identifier, Constant, Pair, Operator, Let, If, For, Iter}
use Rattle.formula.specs.Sheet.{shape_at, shape_of, named_in, field}
use Rattle.formula.specs.Tree.{Exp, Body, exp_node, body_node, exp_of, body_of}
use Rattle.formula.specs.Places.{Node, expression, body, is_in_body}
use Rattle.formula.specs.Free.{free_e, free_b, covers, bound_e, bound_b}
use Rattle.formula.specs.Tests.{bound_node, bound_well, in_range, ranges_well, binds_well}
use Rattle.formula.specs.TreeLaws.{AllBetween}
use Rattle.formula.proofs.TreeLaws.{and-true}
use Rattle.sheet_tables.specs.Nodes.{node_at, free_in, Holds}
use Rattle.sheet_tables.specs.Ready.{Ready}
use Rattle.sheet_tables.specs.Masks.{trigger_mask, range_mask, outside, plain_mask, mask_by, missing, bound_by, Ranged}
use Rattle.sheet_tables.proofs.NodeLaws.{node_by, Parts, node_at_lem, parts_at}

trigger-mask : trigger_mask ≡ mask (one trigger)
trigger-mask = sym (mask_one 32 (omega arith))

with-trigger : (m : ℕ) (f : Names) → m ≡ mask f → bit_or trigger_mask m ≡ mask (union (one trigger) f)
with-trigger m f e = known-union trigger_mask m (one trigger) f trigger-mask e

-- A row c beside a row d in which the identifiers a to a + k - 1 are bound.
bound-mask : (m d : ℕ) (f g : Names) (a k : ℕ) → a + k ≤ 32 → m ≡ mask f → d ≡ mask g → bit_or m (outside d a k) ≡ mask (union f (without g (range a k)))
bound-mask m d f g a k h e i =
    known-union m (outside d a k) f (without g (range a k)) e (known-minus d (range_mask a k) g (range a k) i (sym (mask-range a k (omega arith))))

three-masks : (m c d : ℕ) (f g h : Names) → m ≡ mask f → c ≡ mask g → d ≡ mask h → bit_or m (bit_or c d) ≡ mask (union f (union g h))
three-masks m c d f g h i j k = known-union m (bit_or c d) f (union g h) i (known-union c d g h j k)

missing-size : (d : ℕ) (g : Names) (a k : ℕ) → a + k ≤ 32 → d ≡ mask g → missing d a k ≡ size (without (range a k) g)
missing-size d g a k h e =
    known-count (bit_and (range_mask a k) ((2 ^ 64 - 1) - d)) (without (range a k) g)
    (known-minus (range_mask a k) d (range a k) g (sym (mask-range a k (omega arith))) e)

module _ (N : ℕ → Node) (E : ℕ → Exp) (B : ℕ → Body) (M : ℕ → ℕ) (r : ℕ)
    (known : (k : ℕ) → 1 ≤ k → k < r → M k ≡ mask (free_in (N k)))
  where
    as-exp : (x : ℕ) → (1 ≤ x) × (x < r) → N x ≡ expression (E x) → M x ≡ mask (free_e (E x))
    as-exp x h e = known x h.0 h.1 ∙ ap (λ n. mask (free_in n)) e

    as-body : (x : ℕ) → (1 ≤ x) × (x < r) → N x ≡ body (B x) → M x ≡ mask (free_b (B x))
    as-body x h e = known x h.0 h.1 ∙ ap (λ n. mask (free_in n)) e

    pub masked : (b : Bool) (s : Shape) → Parts N E B b s → Ranged s → AllBetween r (named_in s) → mask_by b M s ≡ mask (free_in (node_by b E B s))
    unfolding plain_mask named_in exp_node body_node free_e
    masked true (Identifier a) h q l = with-trigger (2 ^ a) (one a) (sym (mask_one a (omega arith)))
    masked false (Identifier a) h q l = sym (mask_one a (omega arith))
    masked true (Constant k a) h q l = with-trigger trigger_mask (one trigger) trigger-mask
    masked false (Constant k a) h q l = trigger-mask
    masked true (Pair x y) h q l =
        with-trigger (bit_or (M x) (M y)) (union (free_e (E x)) (free_e (E y)))
        (known-union (M x) (M y) (free_e (E x)) (free_e (E y)) (as-exp x l.0 h.0) (as-exp y l.1.0 h.1))
    masked false (Pair x y) h q l = known-union (M x) (M y) (free_e (E x)) (free_e (E y)) (as-exp x l.0 h.0) (as-exp y l.1.0 h.1)
    masked true (Operator k x) h q l = with-trigger (M x) (free_e (E x)) (as-exp x l.0 h)
    masked false (Operator k x) h q l = as-exp x l.0 h
    masked true (Let a k x y) h q l = bound-mask (M x) (M y) (free_e (E x)) (free_b (B y)) a k q (as-exp x l.0 h.0) (as-body y l.1.0 h.1)
    masked false (Let a k x y) h q l = bound-mask (M x) (M y) (free_e (E x)) (free_e (E y)) a k q (as-exp x l.0 h.0) (as-exp y l.1.0 h.1)
    masked true (If x y z) h q l =
        three-masks (M x) (M y) (M z) (free_e (E x)) (free_b (B y)) (free_b (B z)) (as-exp x l.0 h.0) (as-body y l.1.0 h.1) (as-body z l.1.1.0 h.2)
    masked false (If x y z) h q l =
        three-masks (M x) (M y) (M z) (free_e (E x)) (free_e (E y)) (free_e (E z)) (as-exp x l.0 h.0) (as-exp y l.1.0 h.1) (as-exp z l.1.1.0 h.2)
    masked true (For a k x y) h q l =
        with-trigger (bit_or (M x) (outside (M y) a k)) (union (free_e (E x)) (without (free_b (B y)) (range a k)))
        (bound-mask (M x) (M y) (free_e (E x)) (free_b (B y)) a k q (as-exp x l.0 h.0) (as-body y l.1.0 h.1))
    masked false (For a k x y) h q l = bound-mask (M x) (M y) (free_e (E x)) (free_b (B y)) a k q (as-exp x l.0 h.0) (as-body y l.1.0 h.1)
    masked true (Iter x) h q l = with-trigger (M x) (free_e (E x)) (as-exp x l.0 h.1)
    masked false (Iter x) h q l = absurd (false≢true h.0)

    pub bound : (b : Bool) (s : Shape) → Parts N E B b s → Ranged s → AllBetween r (named_in s) → bound_node (node_by b E B s) ≡ bound_by M s
    unfolding bound_node bound_e bound_b bound_by named_in exp_node body_node covers
    bound true (Identifier a) h q l = refl
    bound false (Identifier a) h q l = refl
    bound true (Constant k a) h q l = refl
    bound false (Constant k a) h q l = refl
    bound true (Pair x y) h q l = refl
    bound false (Pair x y) h q l = refl
    bound true (Operator k x) h q l = refl
    bound false (Operator k x) h q l = refl
    bound true (Let a k x y) h q l = ap (λ j. eqb j 0) (sym (missing-size (M y) (free_b (B y)) a k q (as-body y l.1.0 h.1)))
    bound false (Let a k x y) h q l = ap (λ j. eqb j 0) (sym (missing-size (M y) (free_e (E y)) a k q (as-exp y l.1.0 h.1)))
    bound true (If x y z) h q l = refl
    bound false (If x y z) h q l = refl
    bound true (For a k x y) h q l = ap (λ j. eqb j 0) (sym (missing-size (M y) (free_b (B y)) a k q (as-body y l.1.0 h.1)))
    bound false (For a k x y) h q l = ap (λ j. eqb j 0) (sym (missing-size (M y) (free_b (B y)) a k q (as-body y l.1.0 h.1)))
    bound true (Iter x) h q l = refl
    bound false (Iter x) h q l = absurd (false≢true h.0)

-- ---- what test 4 says of a shape

low_part : (a b c : Bool) → a && b && c ≡ true → a ≡ true
low_part a b c h = (and-true a b (and-true (a && b) c h).0).0

binds : (a b : ℕ) → binds_well a b ≡ true → a + b ≤ 32
binds a b h = leb-true (a + b) 32 (and-true (leb 1 b) (leb (a + b) 32) h).1

ranged-by : (a b c d : ℕ) (k1 k2 k3 k4 k5 k6 k7 k8 k9 k10 : Bool)
    → cond k1 (leb a 31 && eqb b 0 && eqb c 0 && eqb d 0)
    (cond k2 (leb a 999999 && eqb b 0 && eqb c 0 && eqb d 0)
    (cond k3 (leb a 1 && eqb b 0 && eqb c 0 && eqb d 0)
    (cond k4 (eqb c 0 && eqb d 0)
    (cond k5 (leb 1 a && leb a 11 && eqb c 0 && eqb d 0)
    (cond k6 (binds_well a b)
    (cond k7 (eqb d 0)
    (cond k8 (binds_well a b)
    (cond k9 (eqb b 0 && eqb c 0 && eqb d 0)
    (cond k10 (leb a 999999 && eqb b 0 && eqb c 0 && eqb d 0)
    false))))))))) ≡ true
    → Ranged
    (cond k1 (Identifier a)
    (cond k2 (Constant 2 a)
    (cond k3 (Constant 3 a)
    (cond k4 (Pair a b)
    (cond k5 (Operator a b)
    (cond k6 (Let a b c d)
    (cond k7 (If a b c)
    (cond k8 (For a b c d)
    (cond k9 (Iter a)
    (cond k10 (Constant 10 a)
    (Constant 2 0)))))))))))
ranged-by a b c d true k2 k3 k4 k5 k6 k7 k8 k9 k10 h =
    let e : a ≤ 31 = leb-true a 31 (low_part (leb a 31) (eqb b 0) (eqb c 0) (and-true (leb a 31 && eqb b 0 && eqb c 0) (eqb d 0) h).0) in omega arith
ranged-by a b c d false true k3 k4 k5 k6 k7 k8 k9 k10 h = tt
ranged-by a b c d false false true k4 k5 k6 k7 k8 k9 k10 h = tt
ranged-by a b c d false false false true k5 k6 k7 k8 k9 k10 h = tt
ranged-by a b c d false false false false true k6 k7 k8 k9 k10 h = tt
ranged-by a b c d false false false false false true k7 k8 k9 k10 h = binds a b h
ranged-by a b c d false false false false false false true k8 k9 k10 h = tt
ranged-by a b c d false false false false false false false true k9 k10 h = binds a b h
ranged-by a b c d false false false false false false false false true k10 h = tt
ranged-by a b c d false false false false false false false false false true h = tt
ranged-by a b c d false false false false false false false false false false h = tt

pub ranged-row : (t : List ℕ) (r : ℕ) → ranges_well t r ≡ true → Ranged (shape_at t r)
unfolding shape_at shape_of ranges_well in_range
ranged-row t r h =
    ranged-by (field t r 1) (field t r 2) (field t r 3) (field t r 4) (eqb (field t r 0) 1) (eqb (field t r 0) 2) (eqb (field t r 0) 3)
    (eqb (field t r 0) 4) (eqb (field t r 0) 5) (eqb (field t r 0) 6) (eqb (field t r 0) 7) (eqb (field t r 0) 8) (eqb (field t r 0) 9) (eqb (field t r 0) 10) h

module _ (t : List ℕ) (n : ℕ) (p : List Bool) (ok : Ready t n p) where
  pub ranged-at : (r : ℕ) → 1 ≤ r → r ≤ n → Ranged (shape_at t r)
  ranged-at r a b = ranged-row t r (ok.ranges r a b)

  module _ (i : ℕ) (l : i < n) (m : List ℕ) (hm : Holds 0 m i (λ k. mask (free_in (node_at t p k)))) (s : Shape) (e : s ≡ shape_at t (i + 1)) where
    pub names_of : AllBetween (i + 1) (named_in s)
    names_of = subst (λ (z : Shape). AllBetween (i + 1) (named_in z)) (sym e) (ok.sound.named.names (i + 1) (omega arith) (omega arith))

    pub ranged-of : Ranged s
    ranged-of = subst (λ (z : Shape). Ranged z) (sym e) (ranged-at (i + 1) (omega arith) (omega arith))

    place_is : is_in_body p (i + 1) ≡ get_or p i false
    place_is = let z : i + 1 - 1 ≡ i = omega arith in ap (λ j. get_or p j false) z

    node_of : node_at t p (i + 1) ≡ node_by (get_or p i false) (exp_of t) (body_of t) s
    node_of =
        node_at_lem t n p ok (i + 1) (omega arith) (omega arith)
        ∙ ap (λ (b : Bool). node_by b (exp_of t) (body_of t) (shape_at t (i + 1))) place_is
        ∙ ap (node_by (get_or p i false) (exp_of t) (body_of t)) (sym e)

    parts-of : Parts (node_at t p) (exp_of t) (body_of t) (get_or p i false) s
    parts-of =
        subst (λ (z : Shape). Parts (node_at t p) (exp_of t) (body_of t) (get_or p i false) z) (sym e)
        (subst (λ (b : Bool). Parts (node_at t p) (exp_of t) (body_of t) b (shape_at t (i + 1))) place_is (parts_at t n p ok (i + 1) (omega arith) (omega arith)))

    pub row-mask : mask_by (get_or p i false) (λ k. get_or m (k - 1) 0) s ≡ mask (free_in (node_at t p (i + 1)))
    row-mask =
        masked (node_at t p) (exp_of t) (body_of t) (λ k. get_or m (k - 1) 0) (i + 1) (λ k a b. hm.entry k a (omega arith)) (get_or p i false) s parts-of ranged-of names_of
        ∙ ap (λ (x : Node). mask (free_in x)) (sym node_of)

    pub row-bound : bound_well t p (i + 1) ≡ bound_by (λ k. get_or m (k - 1) 0) s
    unfolding bound_well
    row-bound =
        ap bound_node node_of
        ∙ bound (node_at t p) (exp_of t) (body_of t) (λ k. get_or m (k - 1) 0) (i + 1) (λ k a b. hm.entry k a (omega arith)) (get_or p i false) s parts-of ranged-of names_of
