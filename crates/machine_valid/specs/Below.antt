-- A test of every number below another, with the laws by which a loop makes it and by which it is used. Assumes nothing.
use Rattle.std.specs.Prelude.{ℕ, zero, suc, ◌+◌, ◌<◌, ◌≡◌, refl, Bool, true, false, ◌&&◌}
use Rattle.std.proofs.Common.{arith}
use Rattle.std.proofs.Math.Decide.{ℕ_discrete}

unfoldable pub all_below : ℕ → (ℕ → Bool) → Bool
all_below zero f = true
all_below (suc k) f = all_below k f && f k

pub and_left : (a b : Bool) → a && b ≡ true → a ≡ true
and_left true b e = refl
and_left false b e = e

pub and_right : (a b : Bool) → a && b ≡ true → b ≡ true
and_right true b e = e
and_right false b e = absurd (let z : ◌≡◌ {A = ℕ} 0 1 = cc in omega arith)

pub and_both : {a b : Bool} → a ≡ true → b ≡ true → a && b ≡ true
and_both p q = rw (p, q) refl

and-false-right : (a b : Bool) → b ≡ false → a && b ≡ false
and-false-right true b e = e
and-false-right false b e = refl

pub below-zero : (f : ℕ → Bool) → all_below 0 f ≡ true
unfolding all_below
below-zero f = refl

pub below_step : (k : ℕ) (f : ℕ → Bool) → all_below k f ≡ true → f k ≡ true → all_below (k + 1) f ≡ true
unfolding all_below
below_step k f p q = let e : k + 1 ≡ suc k = omega arith in rw (e, p, q) refl

pub below-fail : (n : ℕ) (f : ℕ → Bool) (i : ℕ) → i < n → f i ≡ false → all_below n f ≡ false
unfolding all_below
below-fail zero f i h e = absurd (omega arith)
below-fail (suc n) f i h e = go (ℕ_discrete i n) (λ k. below-fail n f i k e)
  where
    go : Dec (i ≡ n) → (i < n → all_below n f ≡ false) → all_below n f && f n ≡ false
    go (yes p) ih = and-false-right (all_below n f) (f n) (rw p at e)
    go (no q) ih = rw (ih (omega arith)) refl

pub below_at : (n : ℕ) (f : ℕ → Bool) → all_below n f ≡ true → (i : ℕ) → i < n → f i ≡ true
unfolding all_below
below_at zero f h i k = absurd (omega arith)
below_at (suc n) f h i k = go (ℕ_discrete i n) (λ l. below_at n f (and_left (all_below n f) (f n) h) i l)
  where
    go : Dec (i ≡ n) → (i < n → f i ≡ true) → f i ≡ true
    go (yes p) ih = rw p (and_right (all_below n f) (f n) h)
    go (no q) ih = ih (omega arith)

pub below_all : (n : ℕ) (f : ℕ → Bool) → ((i : ℕ) → i < n → f i ≡ true) → all_below n f ≡ true
unfolding all_below
below_all zero f h = refl
below_all (suc n) f h = and_both (below_all n f (λ i k. h i (omega arith))) (h n (omega arith))
