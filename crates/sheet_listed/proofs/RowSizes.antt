-- Laws of specs/RowSizes.antt, and what only they need.
use Prim.Native.Nat.{ℕ, zero, suc, ◌+◌, ◌≤◌, ◌<◌}
use Rattle.std.specs.Prelude.{◌≡◌, refl, false, List, [], ◌∷◌, ◌++◌, ◌⊎◌, eqb}
use Rattle.std.proofs.Common.{sym, ap, ◌∙◌, mul-le-mul_right, add-mul, eq-or-lt_of_le, inl, inr, eq-eqb, ne_eqb}
use native.Mathlib.Omega.{arith}
use Rattle.formula.specs.Sheet.{shape_at, named_in}
use Rattle.formula.specs.Tests.{occurrences, all_named}
use Rattle.formula.specs.TreeLaws.{AllBetween}
use Rattle.sheet_listed.specs.RowSizes.{sum_over, sum_to, weighed}

sum-append : (f : ℕ → ℕ) (l m : List ℕ) → sum_over f (l ++ m) ≡ sum_over f l + sum_over f m
sum-append f [] m = omega arith
sum-append f (x ∷ l) m = omega (arith, sum-append f l m)

none-weighed : (f : ℕ → ℕ) (m : ℕ) → weighed f [] m ≡ 0
unfolding occurrences
none-weighed f zero = refl
none-weighed f (suc m) = omega (arith, none-weighed f m)

-- A number above m is not weighed up to m.
not_yet : (f : ℕ → ℕ) (x : ℕ) (l : List ℕ) (m : ℕ) → m < x → weighed f (x ∷ l) m ≡ weighed f l m
unfolding occurrences
not_yet f x l zero h = refl
not_yet f x l (suc m) h =
    let e : eqb x (suc m) ≡ false = ne_eqb x (suc m) (omega arith) in
    rw (e, not_yet f x l m (omega arith)) (omega arith)

-- One more number x adds f x once.
one_more : (f : ℕ → ℕ) (x : ℕ) (l : List ℕ) (m : ℕ) → 1 ≤ x → x ≤ m → weighed f (x ∷ l) m ≡ f x + weighed f l m
unfolding occurrences
one_more f x l zero h k = absurd (omega arith)
one_more f x l (suc m) h k = go (eq-or-lt_of_le k) (λ j. one_more f x l m h j)
  where
    go : (x ≡ suc m) ⊎ (x < suc m) → (x ≤ m → weighed f (x ∷ l) m ≡ f x + weighed f l m) → weighed f (x ∷ l) (suc m) ≡ f x + weighed f l (suc m)
    go (inl e) more =
        rw (eq-eqb x (suc m) e, not_yet f x l m (omega arith)) (omega (arith, ap f e, add-mul 1 (occurrences (suc m) l) (f (suc m))))
    go (inr j) more =
        let e : eqb x (suc m) ≡ false = ne_eqb x (suc m) (omega arith) in
        rw (e, more (omega arith)) (omega arith)

-- A list of numbers 1 to m sums to what its occurrences weigh.
sum-weighed : (f : ℕ → ℕ) (l : List ℕ) (m : ℕ) → AllBetween (suc m) l → sum_over f l ≡ weighed f l m
sum-weighed f [] m h = sym (none-weighed f m)
sum-weighed f (x ∷ l) m h = ap (λ (k : ℕ). f x + k) (sum-weighed f l m h.1) ∙ sym (one_more f x l m h.0.0 (omega (arith, h.0.1)))

-- Row sizes: at most a row and the sizes of the rows that it names.
module _ (t : List ℕ) (size : ℕ → ℕ) (n : ℕ) (at : (r : ℕ) → 1 ≤ r → r ≤ n → size r ≤ 1 + sum_over size (named_in (shape_at t r))) where
  pub sizes-together : (k : ℕ) → k ≤ n → sum_to size k ≤ k + sum_over size (all_named t k)
  unfolding all_named
  sizes-together zero h = omega arith
  sizes-together (suc k) h = omega (arith, sizes-together k (omega arith), at (suc k) (omega arith) h, sum-append size (all_named t k) (named_in (shape_at t (suc k))))

  -- Where each row below k is named at most once by the rows up to k.
  light : (k m : ℕ) → ((x : ℕ) → 1 ≤ x → x ≤ m → occurrences x (all_named t k) ≤ 1) → weighed size (all_named t k) m ≤ sum_to size m
  light k zero once = omega arith
  light k (suc m) once =
      omega (arith, light k m (λ x h j. once x h (omega arith)), mul-le-mul_right (size (suc m)) (once (suc m) (omega arith) (omega arith)))

  pub size-bound : (k : ℕ) → suc k ≤ n → AllBetween (suc k) (all_named t (suc k)) → ((x : ℕ) → 1 ≤ x → x ≤ k → occurrences x (all_named t (suc k)) ≤ 1) → size (suc k) ≤ suc k
  size-bound k h b once =
      omega (arith, sizes-together (suc k) h, sum-weighed size (all_named t (suc k)) k b, light (suc k) k once)
