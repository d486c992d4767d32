-- Laws of specs/FaultLaws.antt, and what only they need.
use Prim.Native.Nat.{ℕ, zero, suc, ◌≤◌, ◌<◌}
use Rattle.std.specs.Prelude.{◌≡◌, refl, Bool, true, false}
use Rattle.std.proofs.Math.Path.{ap}
use Rattle.std.proofs.Common.{◌∙◌, arith}
use mathlib.Core.List.{List, ◌++◌}
use Rattle.formula.specs.declared.Shape.{Shape}
use Rattle.formula.specs.declared.Shape.TheVariants.{Identifier, Constant, Pair, Operator, Let, If, For, Iter}
use Rattle.formula.specs.Sheet.{shape_at, named_in}
use Rattle.formula.specs.Places.{node_in}
use Rattle.formula.specs.TreeLaws.{AllBetween, Named}
use Rattle.formula.specs.Kinds.{Kinds, Rule}
use Rattle.formula.specs.Faults.{faults_below, own_fault, faults_in}
use Rattle.formula.specs.FaultLaws.{faults_at}

-- What is below a row depends only on the rows that it names.
below_alike : (r : ℕ) (F G : Bool → Kinds → ℕ → List ℕ)
    → ((b : Bool) (kinds : Kinds) (k : ℕ) → 1 ≤ k → k < r → F b kinds k ≡ G b kinds k)
    → (t : List ℕ) (b : Bool) (kinds : Kinds) (s : Shape) → AllBetween r (named_in s)
    → faults_below F t b kinds s ≡ faults_below G t b kinds s
unfolding faults_below named_in
below_alike r F G p t b kinds (Identifier a) h = refl
below_alike r F G p t b kinds (Constant k a) h = refl
below_alike r F G p t b kinds (Pair x y) h = cc (p false kinds x h.0.0 h.0.1, p false kinds y h.1.0.0 h.1.0.1)
below_alike r F G p t b kinds (Operator a x) h = p false kinds x h.0.0 h.0.1
below_alike r F G p t b kinds (Let a n x y) h = cc (p false kinds x h.0.0 h.0.1, p b _ y h.1.0.0 h.1.0.1)
below_alike r F G p t b kinds (If x y z) h =
    cc (p false kinds x h.0.0 h.0.1, p b kinds y h.1.0.0 h.1.0.1, p b kinds z h.1.1.0.0 h.1.1.0.1)
below_alike r F G p t b kinds (For a n x y) h = cc (p false kinds x h.0.0 h.0.1, p true _ y h.1.0.0 h.1.0.1)
below_alike r F G p t b kinds (Iter x) h = p false kinds x h.0.0 h.0.1

module _ (rule : Rule) (t : List ℕ) (n : ℕ) (ok : Named t n) where
  -- Any depth from the row's number on serves.
  steady : (f g r : ℕ) → 1 ≤ r → r ≤ n → r ≤ f → r ≤ g → (b : Bool) (kinds : Kinds)
      → faults_in rule f t b kinds r ≡ faults_in rule g t b kinds r
  unfolding faults_in
  steady zero g r l u h i b kinds = absurd (omega arith)
  steady (suc f) zero r l u h i b kinds = absurd (omega arith)
  steady (suc f) (suc g) r l u h i b kinds =
      ap (λ (xs : List ℕ). own_fault r (rule (node_in b t r) kinds) ++ xs)
      (below_alike r (λ c ks k. faults_in rule f t c ks k) (λ c ks k. faults_in rule g t c ks k)
      (λ c ks k x y. steady f g k x (omega arith) (omega arith) (omega arith) c ks)
      t b kinds (shape_at t r) (ok.names r l u))

  -- A row whose shape is known.
  pub faults-as : (r : ℕ) → 1 ≤ r → r ≤ n → (b : Bool) (kinds : Kinds) (s : Shape) → shape_at t r ≡ s
      → faults_at rule t b kinds r
      ≡ own_fault r (rule (node_in b t r) kinds) ++ faults_below (faults_at rule t) t b kinds s
  unfolding faults_in
  faults-as zero l u b kinds s e = absurd (omega arith)
  faults-as (suc d) l u b kinds s e =
      ap (λ (xs : List ℕ). own_fault (suc d) (rule (node_in b t (suc d)) kinds) ++ xs)
      (below_alike (suc d) (λ c ks k. faults_in rule d t c ks k) (faults_at rule t)
      (λ c ks k x y. steady d k k x (omega arith) (omega arith) (omega arith) c ks)
      t b kinds (shape_at t (suc d)) (ok.names (suc d) l u)
      ∙ ap (faults_below (faults_at rule t) t b kinds) e)
