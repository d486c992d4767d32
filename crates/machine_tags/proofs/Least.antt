-- Laws of specs/Least.antt, and what only they need.
use Rattle.std.specs.Prelude.{ℕ, zero, suc, ◌+◌, ◌<◌, ◌≡◌, refl, Bool, true, false}
use Rattle.std.proofs.Common.{sym, ap, ◌∙◌, arith}
use Rattle.std.proofs.Math.Decide.{ℕ_discrete}
use Rattle.value.specs.Operators.{pick}
use Rattle.machine_tags.specs.Least.{first_passing, least, NoneBelow, Least}

first_says : (f : ℕ → Bool) (k i n : ℕ) → i + k ≡ n → NoneBelow f i → Least f n (first_passing f k i)
unfolding first_passing
first_says f zero i n e none = record { upto = omega arith; passes = λ h. absurd (omega arith); none = none }
first_says f (suc k) i n e none = go (f i) refl (first_says f k (suc i) n (omega arith))
  where
    more : f i ≡ false → NoneBelow f (suc i)
    more q j h = both (ℕ_discrete j i)
      where
        both : Dec (j ≡ i) → f j ≡ false
        both (yes p) = rw p q
        both (no p) = none j (omega arith)

    go : (b : Bool) → f i ≡ b → (NoneBelow f (suc i) → Least f n (first_passing f k (suc i))) → Least f n (pick b i (first_passing f k (suc i)))
    go true q further = record { upto = omega arith; passes = λ h. q; none = none }
    go false q further = further (more q)

pub least-says : (f : ℕ → Bool) (n : ℕ) → Least f n (least f n)
unfolding least
least-says f n = first_says f n 0 n (omega arith) (λ j h. absurd (omega arith))

-- there is one such number only
pub least-is : (f : ℕ → Bool) (n i : ℕ) → Least f n i → least f n ≡ i
least-is f n i l = go (least f n) (least-says f n)
  where
    clash : (j : ℕ) → f j ≡ true → f j ≡ false → ⊥
    clash j p q = let z : ◌≡◌ {A = ℕ} (pick true 1 0) (pick false 1 0) = ap (λ (b : Bool). pick b 1 0) (sym p ∙ q) in omega arith

    go : (k : ℕ) → Least f n k → k ≡ i
    go k m = order (ℕ_discrete k i)
      where
        order : Dec (k ≡ i) → k ≡ i
        order (yes e) = e
        order (no d) = absurd (apart (k-below d))
          where
            k-below : (k ≡ i → ⊥) → (k < i → ⊥) × (i < k → ⊥)
            k-below d = ((λ h. clash k (m.passes (omega (arith, l.upto))) (l.none k h)), (λ h. clash i (l.passes (omega (arith, m.upto))) (m.none i h)))

            apart : (k < i → ⊥) × (i < k → ⊥) → ⊥
            apart p = d (omega (arith, p.0, p.1))

pub least_at : (f : ℕ → Bool) (n i : ℕ) → i < n → NoneBelow f i → f i ≡ true → least f n ≡ i
least_at f n i h none p = least-is f n i (record { upto = omega arith; passes = λ k. p; none = none })

pub least-none : (f : ℕ → Bool) (n : ℕ) → NoneBelow f n → least f n ≡ n
least-none f n none = least-is f n n (record { upto = omega arith; passes = λ h. absurd (omega arith); none = none })
