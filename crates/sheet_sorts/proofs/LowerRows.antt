-- The rows at fault below a row are lower than it, whatever the rule; so where there are some, it is the same to the lowest whether the row itself
-- is at fault. Rests on test 5: a row names only rows from 1 to the one before it.
use Prim.Native.Nat.{ℕ, zero, suc, ◌≤◌, ◌<◌}
use mathlib.Core.Path.{◌≡◌, refl, sym, ap, ◌∙◌, subst}
use mathlib.Core.Bool.{Bool, true, false, cond}
use mathlib.Core.List.{List, ◌++◌}
use lib.Dec.{leb}
use borrow.Author.Tests.{lt-leb}
use native.Mathlib.Omega.{arith}
use Rattle.formula.specs.declared.Shape.{Shape}
use Rattle.formula.specs.declared.Shape.TheVariants.{Identifier, Constant, Pair, Operator, Let, If, For, Iter}
use Rattle.formula.specs.Results.{Check}
use Rattle.std.specs.Prelude.{Ok, Err}
use Rattle.formula.specs.Sheet.{shape_at, named_in}
use Rattle.formula.specs.TreeLaws.{AllBetween, Named}
use Rattle.formula.proofs.TreeLaws.{between-as}
use Rattle.formula.specs.Places.{node_in}
use Rattle.formula.specs.Kinds.{Kinds, Rule}
use Rattle.formula.specs.Faults.{faults_below, lowest_of}
use Rattle.formula.specs.FaultLaws.{faults_at}
use Rattle.formula.proofs.FaultLaws.{faults-as}
use Rattle.sheet_kinds.specs.Checks.{lesser, own, lowest-append}
use Rattle.sheet_kinds.specs.Walk.{parted}

-- No row at fault from row r on.
abbrev Before : ℕ → Check → Type 0
Before r (Ok _) = Unit {0}
Before r (Err k) = k < r

before_more : (k r : ℕ) → k ≤ r → (c : Check) → Before k c → Before r c
before_more k r l (Ok _) h = tt
before_more k r l (Err j) h = omega arith

before-both : (r : ℕ) (x y : Check) → Before r x → Before r y → Before r (lesser x y)
before-both r (Ok _) y p q = q
before-both r (Err a) (Ok _) p q = p
before-both r (Err a) (Err b) p q = go (leb a b)
  where
    go : (z : Bool) → cond z a b < r
    go true = p
    go false = q

before-own : (r : ℕ) (ok : Bool) → Before (suc r) (own r ok)
before-own r true = tt
before-own r false = omega arith

before-append : (r : ℕ) (xs ys : List ℕ) → Before r (lowest_of xs) → Before r (lowest_of ys) → Before r (lowest_of (xs ++ ys))
before-append r xs ys p q = subst (Before r) (sym (lowest-append xs ys)) (before-both r (lowest_of xs) (lowest_of ys) p q)

before-below : (r : ℕ) (F : Bool → Kinds → ℕ → List ℕ)
    → ((b : Bool) (ks : Kinds) (k : ℕ) → (1 ≤ k) × (k < r) → Before r (lowest_of (F b ks k)))
    → (t : List ℕ) (b : Bool) (ks : Kinds) (s : Shape) → AllBetween r (named_in s) → Before r (lowest_of (faults_below F t b ks s))
unfolding faults_below named_in lowest_of
before-below r F p t b ks (Identifier a) h = tt
before-below r F p t b ks (Constant k a) h = tt
before-below r F p t b ks (Pair x y) h = before-append r (F false ks x) (F false ks y) (p false ks x h.0) (p false ks y h.1.0)
before-below r F p t b ks (Operator k x) h = p false ks x h.0
before-below r F p t b ks (Let a n x y) h = before-append r (F false ks x) (F b _ y) (p false ks x h.0) (p b _ y h.1.0)
before-below r F p t b ks (If x y z) h =
    before-append r (F false ks x) (F b ks y ++ F b ks z) (p false ks x h.0)
    (before-append r (F b ks y) (F b ks z) (p b ks y h.1.0) (p b ks z h.1.1.0))
before-below r F p t b ks (For a n x y) h = before-append r (F false ks x) (F true _ y) (p false ks x h.0) (p true _ y h.1.0)
before-below r F p t b ks (Iter x) h = p false ks x h.0

-- A row's own fault counts where nothing below it is at fault.
settled : (r : ℕ) (sort ok : Bool) (below : Check) → Before r below → (below ≡ Ok tt → ok ≡ sort) → lesser (own r sort) below ≡ lesser (own r ok) below
settled r sort ok (Ok _) l h = ap (λ (z : Bool). lesser (own r z) (Ok tt)) (sym (h refl))
settled r sort ok (Err k) l h = same sort ∙ sym (same ok)
  where
    same : (z : Bool) → lesser (own r z) (Err k) ≡ Err k
    same true = refl
    same false = ap (λ (x : Bool). Err (cond x r k)) (lt-leb r k l)

abbrev Passes : Check → Type 0
Passes (Ok _) = Unit {0}
Passes (Err r) = ⊥

own-passed : (r : ℕ) (ok : Bool) (below : Check) → Passes (lesser (own r ok) below) → ok ≡ true
own-passed r true below h = refl
own-passed r false (Ok _) h = absurd h
own-passed r false (Err k) h = absurd h

pub both-passed : (x y : Check) → lesser x y ≡ Ok tt → (x ≡ Ok tt) × (y ≡ Ok tt)
both-passed x y h = go x y (subst Passes (sym h) tt)
  where
    go : (u v : Check) → Passes (lesser u v) → (u ≡ Ok tt) × (v ≡ Ok tt)
    go (Ok _) (Ok _) p = (refl, refl)
    go (Ok _) (Err k) p = absurd p
    go (Err a) (Ok _) p = absurd p
    go (Err a) (Err k) p = absurd p

module _ (rule : Rule) (t : List ℕ) (n : ℕ) (ok : Named t n) where
  abbrev below : Bool → Kinds → Shape → Check
  below b ks s = lowest_of (faults_below (faults_at rule t) t b ks s)

  -- What a row and then what is below it say.
  row-parted : (r : ℕ) → 1 ≤ r → r ≤ n → (b : Bool) (ks : Kinds) (s : Shape) → shape_at t r ≡ s
      → lowest_of (faults_at rule t b ks r) ≡ lesser (own r (rule (node_in b t r) ks)) (below b ks s)
  row-parted r l u b ks s e =
      ap lowest_of (faults-as rule t n ok r l u b ks s e) ∙ parted r (rule (node_in b t r) ks) (faults_below (faults_at rule t) t b ks s)

  none-behind : (d r : ℕ) → r < d → 1 ≤ r → r ≤ n → (b : Bool) (ks : Kinds) → Before (suc r) (lowest_of (faults_at rule t b ks r))
  none-behind zero r i l u b ks = absurd (omega arith)
  none-behind (suc d) r i l u b ks =
      subst (Before (suc r)) (sym (row-parted r l u b ks (shape_at t r) refl))
      (before-both (suc r) (own r (rule (node_in b t r) ks)) (below b ks (shape_at t r)) (before-own r (rule (node_in b t r) ks))
      (before_more r (suc r) (omega arith) (below b ks (shape_at t r))
      (before-below r (faults_at rule t)
      (λ c ls k h. before_more (suc k) r (omega (arith, h.1)) (lowest_of (faults_at rule t c ls k))
      (none-behind d k (omega (arith, h.1)) h.0 (omega (arith, h.1)) c ls))
      t b ks (shape_at t r) (ok.names r l u))))

  below-before : (r : ℕ) → 1 ≤ r → r ≤ n → (b : Bool) (ks : Kinds) (s : Shape) → shape_at t r ≡ s → Before r (below b ks s)
  below-before r l u b ks s e =
      before-below r (faults_at rule t)
      (λ c ls k h. before_more (suc k) r (omega (arith, h.1)) (lowest_of (faults_at rule t c ls k))
      (none-behind (suc k) k (omega arith) h.0 (omega (arith, h.1)) c ls))
      t b ks s (between-as t n ok r l u s e)

  -- A part of the rule serves for it, where the rest holds as long as nothing below the row is at fault.
  pub row_settled : (r : ℕ) → 1 ≤ r → r ≤ n → (b : Bool) (ks : Kinds) (s : Shape) → shape_at t r ≡ s → (sort : Bool)
      → (below b ks s ≡ Ok tt → rule (node_in b t r) ks ≡ sort)
      → lesser (own r sort) (below b ks s) ≡ lowest_of (faults_at rule t b ks r)
  row_settled r l u b ks s e sort h =
      settled r sort (rule (node_in b t r) ks) (below b ks s) (below-before r l u b ks s e) h ∙ sym (row-parted r l u b ks s e)

  -- A row with no fault keeps the rule.
  pub row_kept : (r : ℕ) → 1 ≤ r → r ≤ n → (b : Bool) (ks : Kinds) → lowest_of (faults_at rule t b ks r) ≡ Ok tt → rule (node_in b t r) ks ≡ true
  row_kept r l u b ks h =
      own-passed r (rule (node_in b t r) ks) (below b ks (shape_at t r))
      (subst Passes (sym (sym (row-parted r l u b ks (shape_at t r) refl) ∙ h)) tt)
