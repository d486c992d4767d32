-- Laws of specs/Admitting.antt, and what only they need.
use Prim.Native.Nat.{ℕ, zero, suc, ◌+◌, ◌-◌, ◌≤◌, ◌<◌}
use Rattle.std.specs.Prelude.{◌≡◌, Bool, cond, ◌&&◌, ◌||◌, List, eqb, leb, length, get_or}
use Rattle.std.proofs.Math.Path.{refl, ap, subst}
use Rattle.std.proofs.Common.{sym, ◌∙◌, leb-true}
use Rattle.std.proofs.Math.Bool.{true, false, not}
use Rattle.std.proofs.lemmas.Bool.{false≢true}
use native.Mathlib.Omega.{arith}
use Rattle.std.proofs.Math.Decide.{dec_le}
use Rattle.formula.specs.declared.Shape.{Shape}
use Rattle.formula.specs.declared.Shape.TheVariants.{Identifier, Constant, Pair, Operator, Let, If, For, Iter}
use Rattle.formula.specs.Sheet.{row_count, fields_of, field, shape_of, shape_at, named_in}
use Rattle.formula.specs.Tree.{Exp, Body, ret, exp_node, body_node, exp_of, body_of, formula_of}
use Rattle.formula.specs.TreeLaws.{AllBetween}
use Rattle.formula.proofs.TreeLaws.{and-true, exp-as, body-as, between-as}
use Rattle.formula.specs.Places.{is_in_body, places_of, node_in}
use Rattle.formula.proofs.PlaceLaws.{last-place}
use Rattle.formula.specs.Widths.{wide_b}
use Rattle.formula.specs.Free.{bound_e, bound_b}
use Rattle.formula.specs.Count.{count_e}
use Rattle.formula.specs.Tests.{in_range, ranges_well, placed_well, is_iter, wide_node, widths_well, bound_node, bound_well, operators_of}
use Rattle.formula.specs.Acceptance.{Admissible}
use Rattle.formula.specs.Admitted.{Binds, FineE, FineB, AdmittedE, AdmittedB}
use Rattle.meaning.proofs.WidthLaws.{ret-fits}
use Rattle.meaning.specs.Rows.{Placed, Plain, Accepted, width_in}
use Rattle.meaning.proofs.Rows.{plain-as}
use Rattle.meaning.proofs.Accepted.{accepted}
use Rattle.theory_verdicts.specs.Admitting.{Ranged, Checked, ReadAs, table_from}

first-of-four : (x y z w : Bool) → x && y && z && w ≡ true → (x ≡ true) × (y ≡ true)
first-of-four x y z w h = and-true x y (and-true (x && y) z (and-true (x && y && z) w h).0).0

binds : (a b : ℕ) → leb 1 b && leb (a + b) 32 ≡ true → Binds a b
binds a b h = let t = and-true (leb 1 b) (leb (a + b) 32) h in (leb-true 1 b t.0, leb-true (a + b) 32 t.1)

ranged-shape : (kind a b c d : ℕ) → in_range kind a b c d ≡ true → Ranged (shape_of kind a b c d)
unfolding in_range shape_of
ranged-shape kind a b c d =
    go (eqb kind 1) (eqb kind 2) (eqb kind 3) (eqb kind 4) (eqb kind 5) (eqb kind 6) (eqb kind 7) (eqb kind 8) (eqb kind 9) (eqb kind 10)
  where
    go : (k1 k2 k3 k4 k5 k6 k7 k8 k9 k10 : Bool)
        → cond k1 (leb a 31 && eqb b 0 && eqb c 0 && eqb d 0)
        (cond k2 (leb a 999999 && eqb b 0 && eqb c 0 && eqb d 0)
        (cond k3 (leb a 1 && eqb b 0 && eqb c 0 && eqb d 0)
        (cond k4 (eqb c 0 && eqb d 0)
        (cond k5 (leb 1 a && leb a 11 && eqb c 0 && eqb d 0)
        (cond k6 (leb 1 b && leb (a + b) 32)
        (cond k7 (eqb d 0)
        (cond k8 (leb 1 b && leb (a + b) 32)
        (cond k9 (eqb b 0 && eqb c 0 && eqb d 0)
        (cond k10 (leb a 999999 && eqb b 0 && eqb c 0 && eqb d 0)
        false))))))))) ≡ true
        → Ranged
        (cond k1 (Identifier a)
        (cond k2 (Constant 2 a)
        (cond k3 (Constant 3 a)
        (cond k4 (Pair a b)
        (cond k5 (Operator a b)
        (cond k6 (Let a b c d)
        (cond k7 (If a b c)
        (cond k8 (For a b c d)
        (cond k9 (Iter a)
        (cond k10 (Constant 10 a)
        (Constant 2 0)))))))))))
    go true k2 k3 k4 k5 k6 k7 k8 k9 k10 h = let i = leb-true a 31 (first-of-four (leb a 31) (eqb b 0) (eqb c 0) (eqb d 0) h).0 in omega arith
    go false true k3 k4 k5 k6 k7 k8 k9 k10 h = leb-true a 999999 (first-of-four (leb a 999999) (eqb b 0) (eqb c 0) (eqb d 0) h).0
    go false false true k4 k5 k6 k7 k8 k9 k10 h = leb-true a 1 (first-of-four (leb a 1) (eqb b 0) (eqb c 0) (eqb d 0) h).0
    go false false false true k5 k6 k7 k8 k9 k10 h = tt
    go false false false false true k6 k7 k8 k9 k10 h =
        let t = first-of-four (leb 1 a) (leb a 11) (eqb c 0) (eqb d 0) h in (leb-true 1 a t.0, leb-true a 11 t.1)
    go false false false false false true k7 k8 k9 k10 h = binds a b h
    go false false false false false false true k8 k9 k10 h = tt
    go false false false false false false false true k9 k10 h = binds a b h
    go false false false false false false false false true k10 h = tt
    go false false false false false false false false false true h = leb-true a 999999 (first-of-four (leb a 999999) (eqb b 0) (eqb c 0) (eqb d 0) h).0
    go false false false false false false false false false false h = absurd (false≢true h)

ret-bound : (x : Exp) → bound_b (ret x) ≡ true → bound_e x ≡ true
unfolding bound_b
ret-bound x h = h

module _ (t : List ℕ) (n : ℕ) (ok : Checked t n) where
  abbrev p : List Bool
  p = places_of t n

  abbrev E : ℕ → Exp
  E = exp_of t

  abbrev B : ℕ → Body
  B = body_of t

  ranged-as : (r : ℕ) → 1 ≤ r → r ≤ n → (s : Shape) → shape_at t r ≡ s → Ranged s
  unfolding shape_at ranges_well
  ranged-as r l u s e =
      subst Ranged e (ranged-shape (field t r 0) (field t r 1) (field t r 2) (field t r 3) (field t r 4) (ok.ranged r l u))

  -- tests 8 and 9 of a row in its place
  fine-E : (r : ℕ) → 1 ≤ r → r ≤ n → (b : Bool) → is_in_body p r ≡ b → ReadAs b (shape_at t r) → FineE (E r)
  unfolding widths_well wide_node bound_well bound_node node_in
  fine-E r l u true q i =
      let e : body_of t r ≡ ret (exp_of t r) = plain-as t n ok.named r l u i in
      let w : wide_b (body_of t r) ≡ true = subst (λ (b : Bool). wide_node (node_in b t r) ≡ true) q (ok.wide r l u) in
      let f : bound_b (body_of t r) ≡ true = subst (λ (b : Bool). bound_node (node_in b t r) ≡ true) q (ok.bound r l u) in
      (ret-fits (exp_of t r) (subst (λ (y : Body). wide_b y ≡ true) e w), ret-bound (exp_of t r) (subst (λ (y : Body). bound_b y ≡ true) e f))
  fine-E r l u false q i = (
    subst (λ (b : Bool). wide_node (node_in b t r) ≡ true) q (ok.wide r l u),
    subst (λ (b : Bool). bound_node (node_in b t r) ≡ true) q (ok.bound r l u),
  )

  fine-B : (r : ℕ) → 1 ≤ r → r ≤ n → is_in_body p r ≡ true → FineB (B r)
  unfolding widths_well wide_node bound_well bound_node node_in
  fine-B r l u q = (
    subst (λ (b : Bool). wide_node (node_in b t r) ≡ true) q (ok.wide r l u),
    subst (λ (b : Bool). bound_node (node_in b t r) ≡ true) q (ok.bound r l u),
  )

  not-stray : (r : ℕ) → 1 ≤ r → r ≤ n → (b : Bool) → is_in_body p r ≡ b → (s : Shape) → shape_at t r ≡ s → not (is_iter s) || b ≡ true
  unfolding placed_well
  not-stray r l u b q s e =
      subst (λ (z : Shape). not (is_iter z) || b ≡ true) e (subst (λ (c : Bool). not (is_iter (shape_at t r)) || c ≡ true) q (ok.iters r l u))

  abbrev AsExp : ℕ → Type 0
  AsExp r = 1 ≤ r → r ≤ n → (b : Bool) → is_in_body p r ≡ b → ReadAs b (shape_at t r) → AdmittedE (E r)

  abbrev AsBody : ℕ → Type 0
  AsBody r = 1 ≤ r → r ≤ n → is_in_body p r ≡ true → AdmittedB (B r)

  exp-admitted : (r : ℕ) → ((k : ℕ) → k < r → AsExp k) → ((k : ℕ) → k < r → AsBody k) → AsExp r
  unfolding exp_node named_in
  exp-admitted r below inner l u b q i =
      subst AdmittedE (sym tree)
      (go b q (shape_at t r) refl (subst FineE tree (fine-E r l u b q i)) (ranged-as r l u (shape_at t r) refl) (between-as t n ok.named r l u (shape_at t r) refl)
      (subst (λ (c : Bool). Placed p c (shape_at t r)) q (ok.placed r l u)) i (not-stray r l u b q (shape_at t r) refl))
    where
      tree : E r ≡ exp_node E B (shape_at t r)
      tree = exp-as t n ok.named r l u (shape_at t r) refl

      at : (k : ℕ) → (1 ≤ k) × (k < r) → is_in_body p k ≡ false → AdmittedE (E k)
      at k c f = below k c.1 c.0 (omega arith) false f tt

      in_body : (k : ℕ) → (1 ≤ k) × (k < r) → is_in_body p k ≡ true → AdmittedB (B k)
      in_body k c f = inner k c.1 c.0 (omega arith) f

      go : (b : Bool) → is_in_body p r ≡ b → (s : Shape) → shape_at t r ≡ s → FineE (exp_node E B s) → Ranged s → AllBetween r (named_in s) → Placed p b s → ReadAs b s
          → not (is_iter s) || b ≡ true → AdmittedE (exp_node E B s)
      go b q (Identifier a) e f g j k i m = g
      go b q (Constant kind a) e f g j k i m = g
      go b q (Pair x y) e f g j k i m = (f, at x j.0 k.0, at y j.1.0 k.1)
      go b q (Operator c x) e f g j k i m = (f, g, at x j.0 k)
      go true q (Let a c x y) e f g j k i m = absurd i
      go false q (Let a c x y) e f g j k i m = (f, g, at x j.0 k.0, at y j.1.0 k.1)
      go true q (If x y z) e f g j k i m = absurd i
      go false q (If x y z) e f g j k i m = (f, at x j.0 k.0, at y j.1.0 k.1, at z j.1.1.0 k.2)
      go b q (For a c x y) e f g j k i m = (f, g, at x j.0 k.0, in_body y j.1.0 k.1)
      go true q (Iter x) e f g j k i m = absurd i
      go false q (Iter x) e f g j k i m = absurd (false≢true m)

  body-admitted : (r : ℕ) → ((k : ℕ) → k < r → AsExp k) → ((k : ℕ) → k < r → AsBody k) → AsExp r → AsBody r
  unfolding body_node named_in
  body-admitted r below inner here l u q =
      subst AdmittedB (sym tree)
      (go (shape_at t r) refl (subst FineB tree (fine-B r l u q)) (ranged-as r l u (shape_at t r) refl) (between-as t n ok.named r l u (shape_at t r) refl)
      (subst (λ (c : Bool). Placed p c (shape_at t r)) q (ok.placed r l u)))
    where
      tree : B r ≡ body_node E B (shape_at t r)
      tree = body-as t n ok.named r l u (shape_at t r) refl

      at : (k : ℕ) → (1 ≤ k) × (k < r) → is_in_body p k ≡ false → AdmittedE (E k)
      at k c f = below k c.1 c.0 (omega arith) false f tt

      in_body : (k : ℕ) → (1 ≤ k) × (k < r) → is_in_body p k ≡ true → AdmittedB (B k)
      in_body k c f = inner k c.1 c.0 (omega arith) f

      ends : (s : Shape) → shape_at t r ≡ s → Plain s → AdmittedE (exp_node E B s)
      ends s e i = subst AdmittedE (exp-as t n ok.named r l u s e) (here l u true q (subst Plain (sym e) i))

      go : (s : Shape) → shape_at t r ≡ s → FineB (body_node E B s) → Ranged s → AllBetween r (named_in s) → Placed p true s → AdmittedB (body_node E B s)
      go (Identifier a) e f g j k = (f, ends (Identifier a) e tt)
      go (Constant kind a) e f g j k = (f, ends (Constant kind a) e tt)
      go (Pair x y) e f g j k = (f, ends (Pair x y) e tt)
      go (Operator c x) e f g j k = (f, ends (Operator c x) e tt)
      go (Let a c x y) e f g j k = (f, g, at x j.0 k.0, in_body y j.1.0 k.1)
      go (If x y z) e f g j k = (f, at x j.0 k.0, in_body y j.1.0 k.1, in_body z j.1.1.0 k.2)
      go (For a c x y) e f g j k = (f, ends (For a c x y) e tt)
      go (Iter x) e f g j k = (f, at x j.0 k)

  both-admitted : (depth r : ℕ) → r < depth → AsExp r × AsBody r
  both-admitted zero r l = absurd (omega arith)
  both-admitted (suc depth) r l =
      let below : (k : ℕ) → k < r → AsExp k = λ k i. (both-admitted depth k (omega arith)).0 in
      let inner : (k : ℕ) → k < r → AsBody k = λ k i. (both-admitted depth k (omega arith)).1 in
      (exp-admitted r below inner, body-admitted r below inner (exp-admitted r below inner))

length-table : (r k : ℕ) (f : ℕ → ℕ) → length (table_from r k f) ≡ k
unfolding table_from
length-table r zero f = refl
length-table r (suc k) f = ap suc (length-table (suc r) k f)

table_at : (r k i : ℕ) (f : ℕ → ℕ) → i < k → get_or (table_from r k f) i 0 ≡ f (r + i)
unfolding table_from
table_at r zero i f h = absurd (omega arith)
table_at r (suc k) zero f h = ap f (omega arith)
table_at r (suc k) (suc i) f h = table_at (suc r) k i f (omega arith) ∙ ap f (omega arith)

module _ (s : List ℕ) (h : Admissible s) where
  widths-of : ℕ → ℕ
  widths-of r = width_in (is_in_body (places_of (fields_of s) (row_count s)) r) (fields_of s) r

  rows : Accepted (fields_of s) (table_from 1 (row_count s) widths-of) (row_count s)
  unfolding widths-of
  rows =
      accepted s h (table_from 1 (row_count s) widths-of) (let e = length-table 1 (row_count s) widths-of in omega arith)
      (λ r l u. table_at 1 (row_count s) (r - 1) widths-of (omega arith) ∙ ap widths-of (omega arith))

  checked-rows : Checked (fields_of s) (row_count s)
  checked-rows =
      record {
        named = rows.named;
        ranged = rows.ranged;
        placed = rows.placed;
        iters = rows.iters;
        wide = rows.wide;
        bound = h.bound;
      }

  -- "A formula sheet is accepted if and only if document 01's rules admit it": what the tests give.
  pub accepted-admitted : AdmittedE (formula_of s)
  unfolding formula_of exp_of
  accepted-admitted = go (row_count s) checked-rows (dec_le 1 (row_count s))
    where
      go : (n : ℕ) → Checked (fields_of s) n → Dec (1 ≤ n) → AdmittedE (exp_of (fields_of s) n)
      go zero c d = omega arith
      go (suc n) c (yes l) = (both-admitted (fields_of s) (suc n) c (suc (suc n)) (suc n) (omega arith)).0 l (omega arith) false (last-place (fields_of s) (suc n) c.named l) tt
      go (suc n) c (no l) = absurd (l (omega arith))

  -- 10 "over 1,024 operators" is refused.
  pub accepted-operators : (count_e (formula_of s)).operators ≤ 1024
  unfolding formula_of operators_of
  accepted-operators = h.operators
