-- Laws of specs/Kinded.antt, and what only they need.
use Prim.Native.Nat.{ℕ, zero, suc, ◌≤◌, ◌<◌}
use Rattle.std.specs.Prelude.{◌≡◌, ◌↔◌, Bool, cond, Ok}
use Rattle.std.proofs.Math.Path.{refl, subst}
use Rattle.std.proofs.Common.{sym, ap, arith}
use Rattle.std.proofs.Math.Bool.{true, false}
use mathlib.Core.List.{List, [], ◌∷◌, ◌++◌}
use Rattle.formula.specs.declared.Shape.{Shape}
use Rattle.formula.specs.declared.Shape.TheVariants.{Identifier, Constant, Pair, Operator, Let, If, For, Iter}
use Rattle.formula.specs.Sheet.{shape_at, named_in}
use Rattle.formula.specs.Tree.{Exp, identifier, constant, pair, operator, let_e, if_e, for_e, Body, ret, iter, let_b, if_b, exp_node, body_node, exp_of, body_of}
use Rattle.formula.specs.TreeLaws.{AllBetween, Named}
use Rattle.formula.proofs.TreeLaws.{exp-at, body_at}
use Rattle.formula.specs.Places.{node_in}
use Rattle.formula.specs.Kinds.{Kinds, bind_kinds, kinds_e, kinded_e, kinded_b, kinded}
use Rattle.formula.specs.Faults.{faults_below, faults_in, lowest_of, kind_check}
use Rattle.formula.proofs.FaultRows.{none-lowest}
use Rattle.theory_kinds.specs.Kinded.{AllE, AllB, AllNode, Some}

rule-kept : (x : Exp) (kinds : Kinds) → AllE x kinds → kinded_e x kinds ≡ true
rule-kept (identifier a) kinds h = h
rule-kept (constant k a) kinds h = h
rule-kept (pair x y) kinds h = h.0
rule-kept (operator k x) kinds h = h.0
rule-kept (let_e a b x y) kinds h = h.0
rule-kept (if_e t x y) kinds h = h.0
rule-kept (for_e a b x y) kinds h = h.0

rule-kept-B : (y : Body) (kinds : Kinds) → AllB y kinds → kinded_b y kinds ≡ true
unfolding kinded_b
rule-kept-B (ret x) kinds h = rule-kept x kinds h
rule-kept-B (iter x) kinds h = h.0
rule-kept-B (let_b a b x y) kinds h = h.0
rule-kept-B (if_b t x y) kinds h = h.0

none_in : (xs ys : List ℕ) → xs ++ ys ≡ [] → (xs ≡ []) × (ys ≡ [])
none_in [] ys h = (refl, h)
none_in (x ∷ xs) ys h = absurd (subst Some h tt)

none-joined : (xs ys : List ℕ) → xs ≡ [] → ys ≡ [] → xs ++ ys ≡ []
none-joined xs ys h i = rw (h, i) refl

not-at-fault : (b : Bool) (r : ℕ) → cond b [] (r ∷ []) ≡ [] → b ≡ true
not-at-fault true r h = refl
not-at-fault false r h = absurd (subst Some h tt)

-- ---- one row, from the rows that it names
module _ (t : List ℕ) (r : ℕ) (F : Bool → Kinds → ℕ → List ℕ) where
  abbrev E : ℕ → Exp
  E = exp_of t

  abbrev B : ℕ → Body
  B = body_of t

  -- The kinds of the identifiers in row d of a let or for.
  abbrev inner : ℕ → ℕ → ℕ → Kinds → Kinds
  inner a b c kinds = bind_kinds a b (kinds_e (E c) kinds) kinds

  -- The rows before r without a fault keep the rule.
  module _ (below : (b : Bool) (kinds : Kinds) (k : ℕ) → (1 ≤ k) × (k < r) → F b kinds k ≡ [] → AllNode (node_in b t k) kinds) where
    exp-all : (s : Shape) (kinds : Kinds) → AllBetween r (named_in s)
        → kinded_e (exp_node E B s) kinds ≡ true → faults_below F t false kinds s ≡ [] → AllE (exp_node E B s) kinds
    unfolding exp_node named_in faults_below node_in
    exp-all (Identifier a) kinds n k h = k
    exp-all (Constant c a) kinds n k h = k
    exp-all (Pair a b) kinds n k h =
        let i = none_in (F false kinds a) (F false kinds b) h in
        (k, below false kinds a n.0 i.0, below false kinds b n.1.0 i.1)
    exp-all (Operator c a) kinds n k h = (k, below false kinds a n.0 h)
    exp-all (Let a b c d) kinds n k h =
        let i = none_in (F false kinds c) (F false (inner a b c kinds) d) h in
        (k, below false kinds c n.0 i.0, below false (inner a b c kinds) d n.1.0 i.1)
    exp-all (If a b c) kinds n k h =
        let i = none_in (F false kinds a) (F false kinds b ++ F false kinds c) h in
        let j = none_in (F false kinds b) (F false kinds c) i.1 in
        (k, below false kinds a n.0 i.0, below false kinds b n.1.0 j.0, below false kinds c n.1.1.0 j.1)
    exp-all (For a b c d) kinds n k h =
        let i = none_in (F false kinds c) (F true (inner a b c kinds) d) h in
        (k, below false kinds c n.0 i.0, below true (inner a b c kinds) d n.1.0 i.1)
    exp-all (Iter a) kinds n k h = below false kinds a n.0 h

    body-all : (s : Shape) (kinds : Kinds) → AllBetween r (named_in s)
        → kinded_b (body_node E B s) kinds ≡ true → faults_below F t true kinds s ≡ [] → AllB (body_node E B s) kinds
    unfolding body_node named_in faults_below node_in kinded_b
    body-all (Identifier a) kinds n k h = exp-all (Identifier a) kinds n k h
    body-all (Constant c a) kinds n k h = exp-all (Constant c a) kinds n k h
    body-all (Pair a b) kinds n k h = exp-all (Pair a b) kinds n k h
    body-all (Operator c a) kinds n k h = exp-all (Operator c a) kinds n k h
    body-all (Let a b c d) kinds n k h =
        let i = none_in (F false kinds c) (F true (inner a b c kinds) d) h in
        (k, below false kinds c n.0 i.0, below true (inner a b c kinds) d n.1.0 i.1)
    body-all (If a b c) kinds n k h =
        let i = none_in (F false kinds a) (F true kinds b ++ F true kinds c) h in
        let j = none_in (F true kinds b) (F true kinds c) i.1 in
        (k, below false kinds a n.0 i.0, below true kinds b n.1.0 j.0, below true kinds c n.1.1.0 j.1)
    body-all (For a b c d) kinds n k h = exp-all (For a b c d) kinds n k h
    body-all (Iter a) kinds n k h = (k, below false kinds a n.0 h)

  -- And back: the rows before r that keep the rule are without a fault.
  module _ (below : (b : Bool) (kinds : Kinds) (k : ℕ) → (1 ≤ k) × (k < r) → AllNode (node_in b t k) kinds → F b kinds k ≡ []) where
    exp-none : (s : Shape) (kinds : Kinds) → AllBetween r (named_in s) → AllE (exp_node E B s) kinds → faults_below F t false kinds s ≡ []
    unfolding exp_node named_in faults_below node_in
    exp-none (Identifier a) kinds n h = refl
    exp-none (Constant c a) kinds n h = refl
    exp-none (Pair a b) kinds n h =
        none-joined (F false kinds a) (F false kinds b) (below false kinds a n.0 h.1) (below false kinds b n.1.0 h.2)
    exp-none (Operator c a) kinds n h = below false kinds a n.0 h.1
    exp-none (Let a b c d) kinds n h =
        none-joined (F false kinds c) (F false (inner a b c kinds) d) (below false kinds c n.0 h.1) (below false (inner a b c kinds) d n.1.0 h.2)
    exp-none (If a b c) kinds n h =
        none-joined (F false kinds a) (F false kinds b ++ F false kinds c) (below false kinds a n.0 h.1)
        (none-joined (F false kinds b) (F false kinds c) (below false kinds b n.1.0 h.2) (below false kinds c n.1.1.0 h.3))
    exp-none (For a b c d) kinds n h =
        none-joined (F false kinds c) (F true (inner a b c kinds) d) (below false kinds c n.0 h.1) (below true (inner a b c kinds) d n.1.0 h.2)
    exp-none (Iter a) kinds n h = below false kinds a n.0 h

    body-none : (s : Shape) (kinds : Kinds) → AllBetween r (named_in s) → AllB (body_node E B s) kinds → faults_below F t true kinds s ≡ []
    unfolding body_node named_in faults_below node_in
    body-none (Identifier a) kinds n h = refl
    body-none (Constant c a) kinds n h = refl
    body-none (Pair a b) kinds n h = exp-none (Pair a b) kinds n h
    body-none (Operator c a) kinds n h = exp-none (Operator c a) kinds n h
    body-none (Let a b c d) kinds n h =
        none-joined (F false kinds c) (F true (inner a b c kinds) d) (below false kinds c n.0 h.1) (below true (inner a b c kinds) d n.1.0 h.2)
    body-none (If a b c) kinds n h =
        none-joined (F false kinds a) (F true kinds b ++ F true kinds c) (below false kinds a n.0 h.1)
        (none-joined (F true kinds b) (F true kinds c) (below true kinds b n.1.0 h.2) (below true kinds c n.1.1.0 h.3))
    body-none (For a b c d) kinds n h = exp-none (For a b c d) kinds n h
    body-none (Iter a) kinds n h = below false kinds a n.0 h.1

-- ---- all rows
module _ (t : List ℕ) (n : ℕ) (ok : Named t n) where
  -- The faults below a row, so deep.
  abbrev deep : ℕ → Bool → Kinds → ℕ → List ℕ
  deep depth b kinds k = faults_in kinded depth t b kinds k

  -- Any depth from the row's number on serves.
  faultless-all : (depth r : ℕ) → (1 ≤ r) × (r ≤ n) → r ≤ depth → (b : Bool) (kinds : Kinds) → deep depth b kinds r ≡ [] → AllNode (node_in b t r) kinds
  unfolding faults_in kinded node_in
  faultless-all zero r l d b kinds h = absurd (omega arith)
  faultless-all (suc depth) r l d false kinds h =
      let i = none_in (cond (kinded_e (exp_of t r) kinds) [] (r ∷ [])) (faults_below (deep depth) t false kinds (shape_at t r)) h in
      let e = exp-at t n ok r l.0 l.1 in
      subst (λ (x : Exp). AllE x kinds) (sym e)
      (exp-all t r (deep depth) (λ b ks k p. faultless-all depth k (p.0, omega arith) (omega arith) b ks) (shape_at t r) kinds (ok.names r l.0 l.1)
      (subst (λ (x : Exp). kinded_e x kinds ≡ true) e (not-at-fault (kinded_e (exp_of t r) kinds) r i.0)) i.1)
  faultless-all (suc depth) r l d true kinds h =
      let i = none_in (cond (kinded_b (body_of t r) kinds) [] (r ∷ [])) (faults_below (deep depth) t true kinds (shape_at t r)) h in
      let e = body_at t n ok r l.0 l.1 in
      subst (λ (y : Body). AllB y kinds) (sym e)
      (body-all t r (deep depth) (λ b ks k p. faultless-all depth k (p.0, omega arith) (omega arith) b ks) (shape_at t r) kinds (ok.names r l.0 l.1)
      (subst (λ (y : Body). kinded_b y kinds ≡ true) e (not-at-fault (kinded_b (body_of t r) kinds) r i.0)) i.1)

  all-faultless : (depth r : ℕ) → (1 ≤ r) × (r ≤ n) → r ≤ depth → (b : Bool) (kinds : Kinds) → AllNode (node_in b t r) kinds → deep depth b kinds r ≡ []
  unfolding faults_in kinded node_in
  all-faultless zero r l d b kinds h = absurd (omega arith)
  all-faultless (suc depth) r l d false kinds h =
      none-joined (cond (kinded_e (exp_of t r) kinds) [] (r ∷ [])) (faults_below (deep depth) t false kinds (shape_at t r))
      (rw (rule-kept (exp_of t r) kinds h) refl)
      (exp-none t r (deep depth) (λ b ks k p. all-faultless depth k (p.0, omega arith) (omega arith) b ks) (shape_at t r) kinds (ok.names r l.0 l.1)
      (subst (λ (x : Exp). AllE x kinds) (exp-at t n ok r l.0 l.1) h))
  all-faultless (suc depth) r l d true kinds h =
      none-joined (cond (kinded_b (body_of t r) kinds) [] (r ∷ [])) (faults_below (deep depth) t true kinds (shape_at t r))
      (rw (rule-kept-B (body_of t r) kinds h) refl)
      (body-none t r (deep depth) (λ b ks k p. all-faultless depth k (p.0, omega arith) (omega arith) b ks) (shape_at t r) kinds (ok.names r l.0 l.1)
      (subst (λ (y : Body). AllB y kinds) (body_at t n ok r l.0 l.1) h))

  -- A row, in either place, is without a fault if and only if every node of its tree keeps the rule.
  pub faultless-iff : (r : ℕ) → 1 ≤ r → r ≤ n → (b : Bool) (kinds : Kinds) → (faults_in kinded r t b kinds r ≡ []) ↔ AllNode (node_in b t r) kinds
  faultless-iff r l u b kinds = (faultless-all r r (l, u) (omega arith) b kinds, all-faultless r r (l, u) (omega arith) b kinds)

-- ---- the test of a sheet
-- Test 18 passes a formula if and only if every node of its tree keeps the rule.
pub passes-iff : (t : List ℕ) (n : ℕ) → Named t n → 1 ≤ n → (kinds : Kinds) → (kind_check kinded t n kinds ≡ Ok tt) ↔ AllE (exp_of t n) kinds
unfolding kind_check lowest_of node_in
passes-iff t n ok l kinds =
    let both = faultless-iff t n ok n l (omega arith) false kinds in
    (λ h. both.0 (none-lowest _ h), λ h. ap lowest_of (both.1 h))
