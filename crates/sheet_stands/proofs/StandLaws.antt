-- Laws of one further row: whether it stands behind rows that stand, by the tables of their widths and masks, and its own entries there. Assumes nothing.
use Prim.Native.Nat.{ℕ, zero, suc, ◌+◌, ◌-◌, ◌≤◌, ◌<◌}
use mathlib.Core.Path.{◌≡◌, refl, sym, ap, subst, ◌∙◌}
use mathlib.Core.Bool.{Bool, true, false, cond}
use mathlib.Core.List.{List}
use native.Mathlib.Omega.{arith}
use native.Mathlib.Decide.{ℕ_discrete}
use lib.Dec.{eqb}
use lib.ListN.{get_or, set, replicate, length-set}
use borrow.Author.Tests.{le-leb, ne_eqb}
use Rattle.names.specs.Names.{mask}
use Rattle.std.specs.Prelude.{Ok}
use Rattle.formula.specs.declared.Shape.{Shape}
use Rattle.formula.specs.declared.Shape.TheVariants.{Identifier, Constant, Pair, Operator, Let, If, For, Iter}
use Rattle.formula.specs.Sheet.{field, shape_of, shape_at, named_in}
use Rattle.formula.specs.Tree.{Exp, Body, exp_node, exp_of, body_of}
use Rattle.formula.specs.Places.{expression}
use Rattle.formula.specs.Tests.{all_between, lowest, names_well, all_named, ranges_well, wide_node, bound_node}
use Rattle.formula.proofs.TestLaws.{each-passed}
use Rattle.formula.specs.Widths.{width, wide_e}
use Rattle.formula.specs.Free.{free_e, bound_e}
use Rattle.formula.specs.TreeLaws.{AllBetween}
use Rattle.formula.proofs.TreeLaws.{all-between, exp-at}
use Rattle.sheet_tables.specs.Nodes.{Holds}
use Rattle.sheet_tables.specs.Widths.{widths_by, well_by}
use Rattle.sheet_tables.specs.Masks.{plain_mask, bound_by, Ranged}
use Rattle.sheet_tables.specs.declared.widths.Widths.{Widths}
use Rattle.sheet_tables.proofs.NodeLaws.{Parts, holds_more}
use Rattle.sheet_tables.proofs.WidthLaws.{Tells, tells, same-widths}
use Rattle.sheet_tables.proofs.MaskLaws.{ranged-row, masked, bound}
use Rattle.sheet_listed.specs.Search.{once_each, stands_at}
use Rattle.sheet_listed.specs.Texts.{field_row}
use Rattle.sheet_stands.specs.Fronts.{Content, Front}
use Rattle.sheet_stands.proofs.ContentLaws.{content-kind, content-range}
use Rattle.sheet_stands.proofs.FrontLaws.{stands-says, rows_named}

-- A row that is no for and no iter.
abbrev Plain : Shape → Type 0
Plain (Identifier a) = Unit {0}
Plain (Constant k a) = Unit {0}
Plain (Pair x y) = Unit {0}
Plain (Operator k x) = Unit {0}
Plain (Let a k x y) = Unit {0}
Plain (If x y z) = Unit {0}
Plain (For a k x y) = ⊥
Plain (Iter x) = ⊥

plain_by : (a b c d : ℕ) (k1 k2 k3 k4 k5 k6 k7 k10 : Bool)
    → Plain
    (cond k1 (Identifier a)
    (cond k2 (Constant 2 a)
    (cond k3 (Constant 3 a)
    (cond k4 (Pair a b)
    (cond k5 (Operator a b)
    (cond k6 (Let a b c d)
    (cond k7 (If a b c)
    (cond k10 (Constant 10 a)
    (Constant 2 0)))))))))
plain_by a b c d true k2 k3 k4 k5 k6 k7 k10 = tt
plain_by a b c d false true k3 k4 k5 k6 k7 k10 = tt
plain_by a b c d false false true k4 k5 k6 k7 k10 = tt
plain_by a b c d false false false true k5 k6 k7 k10 = tt
plain_by a b c d false false false false true k6 k7 k10 = tt
plain_by a b c d false false false false false true k7 k10 = tt
plain_by a b c d false false false false false false true k10 = tt
plain_by a b c d false false false false false false false true = tt
plain_by a b c d false false false false false false false false = tt

plain_row : (t : List ℕ) (r : ℕ) → field t r 0 ≤ 7 → Plain (shape_at t r)
unfolding shape_at shape_of
plain_row t r h =
    let kind : ℕ = field t r 0 in
    rw (ne_eqb kind 8 (λ (e : kind ≡ 8). omega arith), ne_eqb kind 9 (λ (e : kind ≡ 9). omega arith))
    (plain_by (field t r 1) (field t r 2) (field t r 3) (field t r 4) (eqb kind 1) (eqb kind 2) (eqb kind 3) (eqb kind 4) (eqb kind 5) (eqb kind 6) (eqb kind 7) (eqb kind 10))

-- All rows are read as expressions.
plain-parts : (E : ℕ → Exp) (B : ℕ → Body) (s : Shape) → Plain s → Parts (λ k. expression (E k)) E B false s
plain-parts E B (Identifier a) h = tt
plain-parts E B (Constant k a) h = tt
plain-parts E B (Pair x y) h = (refl, refl)
plain-parts E B (Operator k x) h = refl
plain-parts E B (Let a k x y) h = (refl, refl)
plain-parts E B (If x y z) h = (refl, refl, refl)
plain-parts E B (For a k x y) h = absurd h
plain-parts E B (Iter x) h = absurd h

-- A table that has 0 everywhere.
pub zeros-at : (n k : ℕ) → ◌≡◌ {A = ℕ} (get_or (replicate n 0) k 0) 0
zeros-at zero k = refl
zeros-at (suc n) zero = refl
zeros-at (suc n) (suc k) = zeros-at n k

-- Row r of shape s behind the rows before it.
module _ (t w m : List ℕ) (r : ℕ) (a : 1 ≤ r) (q : Content (field_row t r)) (f : Front t w m (r - 1)) (s : Shape) (shaped : s ≡ shape_at t r) where
  kind-low : field t r 0 ≤ 7
  kind-low = content-kind (field_row t r) q

  pub ranged : Ranged s
  unfolding ranges_well
  ranged = rw shaped (ranged-row t r (content-range (field_row t r) q))

  names-as : (b : Bool) → all_between r (named_in s) ≡ b → names_well t r ≡ b
  unfolding names_well
  names-as b h = ap (λ (x : Shape). all_between r (named_in x)) (sym shaped) ∙ h

  pub names-wrongly : all_between r (named_in s) ≡ false → false ≡ stands_at t r
  unfolding stands_at
  names-wrongly h = rw (le-leb (field t r 0) 7 kind-low, names-as false h) refl

  module _ (names : all_between r (named_in s) ≡ true) where
    all-well : (k : ℕ) → 1 ≤ k → k ≤ r → names_well t k ≡ true
    all-well k b c = go (ℕ_discrete k r)
      where
        go : Dec (k ≡ r) → names_well t k ≡ true
        go (yes e) = ap (names_well t) e ∙ names-as true names
        go (no e) = (stands-says t k (f.stand k b (omega arith))).names

    pub all-name-well : lowest r (names_well t) ≡ Ok tt
    all-name-well = each-passed r (names_well t) all-well

    pub between : AllBetween r (named_in s)
    between = all-between r (named_in s) names

    tree : exp_of t r ≡ exp_node (exp_of t) (body_of t) s
    tree = exp-at t r (rows_named t r all-well) r a (omega arith) ∙ ap (exp_node (exp_of t) (body_of t)) (sym shaped)

    parts : Parts (λ k. expression (exp_of t k)) (exp_of t) (body_of t) false s
    parts = plain-parts (exp_of t) (body_of t) s (rw shaped (plain_row t r kind-low))

    known-mask : (k : ℕ) → 1 ≤ k → k < r → get_or m (k - 1) 0 ≡ mask (free_e (exp_of t k))
    known-mask k b c = f.masks.entry k b (omega arith)

    pub mask-told : plain_mask (λ k. get_or m (k - 1) 0) s ≡ mask (free_e (exp_of t r))
    mask-told =
        masked (λ k. expression (exp_of t k)) (exp_of t) (body_of t) (λ k. get_or m (k - 1) 0) r known-mask false s parts ranged between
        ∙ ap (λ (x : Exp). mask (free_e x)) (sym tree)

    pub names-again : once_each (named_in (shape_at t r)) (all_named t r) ≡ false → false ≡ stands_at t r
    unfolding stands_at
    names-again h = rw (le-leb (field t r 0) 7 kind-low, names-as true names, h) refl

    -- Its widths are those by the rows before it, none of which iterates.
    module _ (z : List ℕ) (none : (k : ℕ) → get_or z k 0 ≡ 0) (x : Widths) (h : x ≡ widths_by false (λ k. get_or w (k - 1) 0) (λ k. get_or z (k - 1) 0) s) where
      told : Tells (expression (exp_of t r)) x
      told =
          let e = h ∙ same-widths false r (λ k. width (exp_of t k)) (λ k. 0) (λ k. get_or w (k - 1) 0) (λ k. get_or z (k - 1) 0) s between
          (λ k b c. f.widths.entry k b (omega arith)) (λ k b c. none (k - 1)) in
          subst (λ (y : Exp). Tells (expression y) x) (sym tree)
          (subst (λ (y : Widths). Tells (expression (exp_node (exp_of t) (body_of t) s)) y) (sym e)
          (tells (λ k. expression (exp_of t k)) (exp_of t) (body_of t) false s parts))

      pub width-told : x.returned ≡ width (exp_of t r)
      width-told = sym told.returns

      wide-told : wide_e (exp_of t r) ≡ well_by x
      unfolding wide_node
      wide-told = told.rules

      module _ (once : once_each (named_in (shape_at t r)) (all_named t r) ≡ true) where
        pub too_wide : well_by x ≡ false → false ≡ stands_at t r
        unfolding stands_at
        too_wide i = rw (le-leb (field t r 0) 7 kind-low, names-as true names, once, wide-told ∙ i) refl

        -- The last test is that of bound identifiers.
        pub bound-decides : well_by x ≡ true → bound_by (λ k. get_or m (k - 1) 0) s ≡ stands_at t r
        unfolding stands_at bound_node
        bound-decides i =
            rw (le-leb (field t r 0) 7 kind-low, names-as true names, once, wide-told ∙ i)
            (sym (ap bound_e tree ∙ bound (λ k. expression (exp_of t k)) (exp_of t) (body_of t) (λ k. get_or m (k - 1) 0) r known-mask false s parts ranged between))

  -- With its own entries the tables go up to it.
  pub front-more : stands_at t r ≡ true → r ≤ 5 → (x y : ℕ) → x ≡ width (exp_of t r) → y ≡ mask (free_e (exp_of t r)) → Front t (set w (r - 1) x) (set m (r - 1) y) r
  front-more h few x y d e =
      let z : r - 1 + 1 ≡ r = omega arith in
      record {
        content = λ k b c. each k b c (ℕ_discrete k r);
        stand = λ k b c. stands k b c (ℕ_discrete k r);
        widths = subst (λ (i : ℕ). Holds 0 (set w (r - 1) x) i (λ k. width (exp_of t k))) z
            (holds_more 0 w (r - 1) (λ k. width (exp_of t k)) x f.widths (omega (arith, f.widths-size)) (rw z d));
        masks = subst (λ (i : ℕ). Holds 0 (set m (r - 1) y) i (λ k. mask (free_e (exp_of t k)))) z
            (holds_more 0 m (r - 1) (λ k. mask (free_e (exp_of t k))) y f.masks (omega (arith, f.masks-size)) (rw z e));
        widths-size = length-set w (r - 1) x ∙ f.widths-size;
        masks-size = length-set m (r - 1) y ∙ f.masks-size;
      }
    where
      each : (k : ℕ) → 1 ≤ k → k ≤ r → Dec (k ≡ r) → Content (field_row t k)
      each k b c (yes i) = rw i q
      each k b c (no i) = f.content k b (omega arith)

      stands : (k : ℕ) → 1 ≤ k → k ≤ r → Dec (k ≡ r) → stands_at t k ≡ true
      stands k b c (yes i) = ap (stands_at t) i ∙ h
      stands k b c (no i) = f.stand k b (omega arith)
