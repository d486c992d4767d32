-- Laws of `apply`: document 01, "Values and operators". The table of codes is gone through once, in
-- `apply-cases`; every other law is an instance of it. Assumes nothing.
use mathlib.Core.Path.{◌≡◌, refl}
use mathlib.Core.Logic.{⊎_elim, ◌⊎◌, inl, inr}
use mathlib.Core.Bool.{Bool, true, false}
use Prim.Native.Nat.{ℕ, zero, suc, ◌≤◌, ◌<◌}
use native.Mathlib.Omega.{arith}
use borrow.Author.Tests.{eqb-true, eqb-false}
use lib.Dec.{eqb}
use lib.IntN.{ℤ, neg_ℤ, ◌+ℤ◌, ◌-ℤ◌, ◌*ℤ◌}
use lib.Signed.{quot_z, rem_z}
use lib.Ieee.{Float, binary32, add, sub, mul, div, neg}
use Rattle.value.proofs.Whole.{fit-in-range, divided-in-range}
use Rattle.value.proofs.Floats.{real-in-range}
use Rattle.value.specs.declared.Reason.{Reason}
use Rattle.value.specs.declared.Reason.TheVariants.{ZeroDivisor}
use Rattle.value.specs.declared.Value.{Value}
use Rattle.value.specs.declared.Value.TheVariants.{Whole, Truth, Err, Real}
use Rattle.value.specs.Bytes.{InRange}
use Rattle.value.specs.Senses.{err}
use Rattle.value.specs.Operators.{pick, apply, NoWhole, is_zero_real, real_of, hand_on, hand_on_one, wholes, numbers, beside_err, logical, truth, number, add_of, subtract_of, multiply_of, divide_of, remainder_of, less_of, equal_of, and_of, or_of, not_of, negate_of, add_real, subtract_real, multiply_real, divide_real, less_real, equal_real, negate_real}

by-test : (P : Value → Type 0) (t : Bool) (x y : Value) → (t ≡ true → P x) → (t ≡ false → P y) → P (pick t x y)
by-test P true x y h k = h refl
by-test P false x y h k = k refl

-- the next code, where this one was tested and is not it
next : (c k : ℕ) → k ≤ c → eqb c k ≡ false → suc k ≤ c
next c k h e = let n = eqb-false c k e in omega (arith, n)

divided-real-in-range : (x y : Float) → InRange (divide_real x y)
unfolding divide_real
divided-real-in-range x y = go (is_zero_real y)
  where
    go : (t : Bool) → InRange (pick t (Err ZeroDivisor) (real_of (div binary32 x y)))
    go true = tt
    go false = real-in-range (div binary32 x y)

-- What holds of the answer whichever operator the code has: the operators of two numbers (1 to 4, 6, 7), remainder, and, or
-- (8 and 9), not, negate, and none. Each operator's own answers are in range.
pub apply-cases : (P : Value → Type 0) (c : ℕ) (a b : Value)
    → (1 ≤ c → c ≤ 7 → (f : ℤ → ℤ → Value) (g : Float → Float → Value) → ((x y : ℤ) → InRange (f x y)) → ((x y : Float) → InRange (g x y)) → P (numbers f g a b))
    → (c ≡ 5 → P (wholes remainder_of a b))
    → (8 ≤ c → c ≤ 9 → (d : Bool) (f : Bool → Bool → Value) → ((x y : Bool) → InRange (f x y)) → P (logical d f a b))
    → (c ≡ 10 → P (truth not_of a)) → (c ≡ 11 → P (number negate_of negate_real a)) → ((c < 1) ⊎ (12 ≤ c) → P err)
    → P (apply c a b)
unfolding apply add_real subtract_real multiply_real less_real equal_real
apply-cases P zero a b w r t n g z = z (inl (omega arith))
apply-cases P (suc d) a b w r t n g z =
    let c : ℕ = suc d in
    let h1 : 1 ≤ c = omega arith in
    by-test P (eqb c 1) _ _ (λ e. w h1 (omega (arith, eqb-true c 1 e)) add_of add_real (λ x y. fit-in-range (x +ℤ y)) (λ x y. real-in-range (add binary32 x y))) (λ e1. let h2 = next c 1 h1 e1 in
    by-test P (eqb c 2) _ _ (λ e. w h1 (omega (arith, eqb-true c 2 e)) subtract_of subtract_real (λ x y. fit-in-range (x -ℤ y)) (λ x y. real-in-range (sub binary32 x y))) (λ e2. let h3 = next c 2 h2 e2 in
    by-test P (eqb c 3) _ _ (λ e. w h1 (omega (arith, eqb-true c 3 e)) multiply_of multiply_real (λ x y. fit-in-range (x *ℤ y)) (λ x y. real-in-range (mul binary32 x y))) (λ e3. let h4 = next c 3 h3 e3 in
    by-test P (eqb c 4) _ _ (λ e. w h1 (omega (arith, eqb-true c 4 e)) divide_of divide_real (λ x y. divided-in-range y (quot_z x y)) divided-real-in-range) (λ e4. let h5 = next c 4 h4 e4 in
    by-test P (eqb c 5) _ _ (λ e. r (eqb-true c 5 e)) (λ e5. let h6 = next c 5 h5 e5 in
    by-test P (eqb c 6) _ _ (λ e. w h1 (omega (arith, eqb-true c 6 e)) less_of less_real (λ x y. tt) (λ x y. tt)) (λ e6. let h7 = next c 6 h6 e6 in
    by-test P (eqb c 7) _ _ (λ e. w h1 (omega (arith, eqb-true c 7 e)) equal_of equal_real (λ x y. tt) (λ x y. tt)) (λ e7. let h8 = next c 7 h7 e7 in
    by-test P (eqb c 8) _ _ (λ e. t h8 (omega (arith, eqb-true c 8 e)) false and_of (λ x y. tt)) (λ e8. let h9 = next c 8 h8 e8 in
    by-test P (eqb c 9) _ _ (λ e. t h8 (omega (arith, eqb-true c 9 e)) true or_of (λ x y. tt)) (λ e9. let h10 = next c 9 h9 e9 in
    by-test P (eqb c 10) _ _ (λ e. n (eqb-true c 10 e)) (λ e10. let h11 = next c 10 h10 e10 in
    by-test P (eqb c 11) _ _ (λ e. g (eqb-true c 11 e)) (λ e11. z (inr (next c 11 h11 e11)))))))))))))

known : {c : ℕ} → (c < 1) ⊎ (12 ≤ c) → 1 ≤ c → c ≤ 11 → ⊥
known h l u = ⊎_elim (λ e. omega arith) (λ e. omega arith) h

-- a code that has no operator
pub apply-unknown : (c : ℕ) (a b : Value) → (c < 1) ⊎ (12 ≤ c) → apply c a b ≡ err
apply-unknown c a b h =
    apply-cases (λ (v : Value). v ≡ err) c a b (λ l u f g _ _. absurd (known h l (omega arith))) (λ e. absurd (known h (omega arith) (omega arith)))
    (λ l u d f _. absurd (known h (omega arith) (omega arith))) (λ e. absurd (known h (omega arith) (omega arith)))
    (λ e. absurd (known h (omega arith) (omega arith))) (λ _. refl)

remainder-in-range : (a b : Value) → InRange (wholes remainder_of a b)
unfolding wholes hand_on remainder_of
remainder-in-range (Whole x) (Whole y) = divided-in-range y (rem_z x y)
remainder-in-range (Whole x) (Truth y) = tt
remainder-in-range (Whole x) (Real y) = tt
remainder-in-range (Whole x) (Err s) = tt
remainder-in-range (Truth x) b = tt
remainder-in-range (Real x) b = tt
remainder-in-range (Err r) b = tt

numbers-in-range : (f : ℤ → ℤ → Value) (g : Float → Float → Value) → ((x y : ℤ) → InRange (f x y)) → ((x y : Float) → InRange (g x y)) → (a b : Value)
    → InRange (numbers f g a b)
unfolding numbers hand_on
numbers-in-range f g h i (Whole x) (Whole y) = h x y
numbers-in-range f g h i (Real x) (Real y) = i x y
numbers-in-range f g h i (Whole x) (Real y) = tt
numbers-in-range f g h i (Real x) (Whole y) = tt
numbers-in-range f g h i (Whole x) (Truth y) = tt
numbers-in-range f g h i (Real x) (Truth y) = tt
numbers-in-range f g h i (Whole x) (Err s) = tt
numbers-in-range f g h i (Real x) (Err s) = tt
numbers-in-range f g h i (Truth x) b = tt
numbers-in-range f g h i (Err r) b = tt

beside-err-in-range : (d a : Bool) (r : Reason) → InRange (beside_err d a r)
unfolding beside_err
beside-err-in-range false false r = tt
beside-err-in-range true true r = tt
beside-err-in-range false true r = tt
beside-err-in-range true false r = tt

logical-in-range : (d : Bool) (f : Bool → Bool → Value) → ((x y : Bool) → InRange (f x y)) → (a b : Value) → InRange (logical d f a b)
unfolding logical hand_on
logical-in-range d f h (Truth x) (Truth y) = h x y
logical-in-range d f h (Truth x) (Err s) = beside-err-in-range d x s
logical-in-range d f h (Err r) (Truth y) = beside-err-in-range d y r
logical-in-range d f h (Err r) (Err s) = tt
logical-in-range d f h (Whole x) b = tt
logical-in-range d f h (Real x) b = tt
logical-in-range d f h (Truth x) (Whole y) = tt
logical-in-range d f h (Truth x) (Real y) = tt
logical-in-range d f h (Err r) (Whole y) = tt
logical-in-range d f h (Err r) (Real y) = tt

not-in-range : (a : Value) → InRange (truth not_of a)
unfolding truth not_of hand_on_one
not-in-range (Truth x) = tt
not-in-range (Whole x) = tt
not-in-range (Real x) = tt
not-in-range (Err r) = tt

negate-in-range : (a : Value) → InRange (number negate_of negate_real a)
unfolding number negate_of negate_real hand_on_one
negate-in-range (Whole x) = fit-in-range (neg_ℤ x)
negate-in-range (Real x) = real-in-range (neg x)
negate-in-range (Truth x) = tt
negate-in-range (Err r) = tt

-- whatever the operands, an operator's answer is in range
pub apply-in-range : (c : ℕ) (a b : Value) → InRange (apply c a b)
apply-in-range c a b =
    apply-cases InRange c a b (λ _ _ f g h i. numbers-in-range f g h i a b) (λ _. remainder-in-range a b) (λ _ _ d f h. logical-in-range d f h a b)
    (λ _. not-in-range a) (λ _. negate-in-range a) (λ _. tt)

-- ---- what this crate's functions cite: a value whose variant was tested and is not the one wanted

-- Values of any variant but one.
abbrev NotWhole : Value → Type 0
NotWhole v = (x : ℤ) → v ≡ Whole x → ⊥

abbrev NotReal : Value → Type 0
NotReal v = (x : Float) → v ≡ Real x → ⊥

abbrev NotTruth : Value → Type 0
NotTruth v = (x : Bool) → v ≡ Truth x → ⊥

abbrev NotErr : Value → Type 0
NotErr v = (r : Reason) → v ≡ Err r → ⊥

module _ (c : ℕ) (a b : Value) where
  -- Operands that no operator of two numbers takes.
  pub numbers-err : 1 ≤ c → c ≤ 7 → ((f : ℤ → ℤ → Value) (g : Float → Float → Value) → numbers f g a b ≡ hand_on a b) → wholes remainder_of a b ≡ hand_on a b
      → apply c a b ≡ hand_on a b
  numbers-err l u h k =
      apply-cases (λ (v : Value). v ≡ hand_on a b) c a b (λ _ _ f g _ _. h f g) (λ _. k) (λ low high d f _. absurd (omega arith)) (λ e. absurd (omega arith)) (λ e. absurd (omega arith))
      (λ n. absurd (known n (omega arith) (omega arith)))

  pub logical-err : 8 ≤ c → c ≤ 9 → ((d : Bool) (f : Bool → Bool → Value) → logical d f a b ≡ hand_on a b) → apply c a b ≡ hand_on a b
  logical-err l u h =
      apply-cases (λ (v : Value). v ≡ hand_on a b) c a b (λ low high f g _ _. absurd (omega arith)) (λ e. absurd (omega arith)) (λ _ _ d f _. h d f) (λ e. absurd (omega arith)) (λ e. absurd (omega arith))
      (λ n. absurd (known n (omega arith) (omega arith)))

module _ (c : ℕ) (l : 1 ≤ c) (u : c ≤ 7) where
  pub whole-beside : (x : ℤ) (b : Value) → NotWhole b → apply c (Whole x) b ≡ hand_on (Whole x) b
  unfolding numbers wholes
  whole-beside x (Whole y) h = absurd (h y refl)
  whole-beside x (Truth y) h = numbers-err c (Whole x) (Truth y) l u (λ f g. refl) refl
  whole-beside x (Err s) h = numbers-err c (Whole x) (Err s) l u (λ f g. refl) refl
  whole-beside x (Real y) h = numbers-err c (Whole x) (Real y) l u (λ f g. refl) refl

  pub real-beside : (x : Float) (b : Value) → NotReal b → apply c (Real x) b ≡ hand_on (Real x) b
  unfolding numbers wholes
  real-beside x (Real y) h = absurd (h y refl)
  real-beside x (Truth y) h = numbers-err c (Real x) (Truth y) l u (λ f g. refl) refl
  real-beside x (Err s) h = numbers-err c (Real x) (Err s) l u (λ f g. refl) refl
  real-beside x (Whole y) h = numbers-err c (Real x) (Whole y) l u (λ f g. refl) refl

  pub no-number-first : (a b : Value) → NotWhole a → NotReal a → apply c a b ≡ hand_on a b
  unfolding numbers wholes
  no-number-first (Whole x) b n m = absurd (n x refl)
  no-number-first (Real x) b n m = absurd (m x refl)
  no-number-first (Truth x) b n m = numbers-err c (Truth x) b l u (λ f g. refl) refl
  no-number-first (Err r) b n m = numbers-err c (Err r) b l u (λ f g. refl) refl

module _ (c : ℕ) (l : 8 ≤ c) (u : c ≤ 9) where
  pub truth-beside : (x : Bool) (b : Value) → NotTruth b → NotErr b → apply c (Truth x) b ≡ hand_on (Truth x) b
  unfolding logical
  truth-beside x (Truth y) n m = absurd (n y refl)
  truth-beside x (Err r) n m = absurd (m r refl)
  truth-beside x (Whole y) n m = logical-err c (Truth x) (Whole y) l u (λ d f. refl)
  truth-beside x (Real y) n m = logical-err c (Truth x) (Real y) l u (λ d f. refl)

  pub err-beside : (r : Reason) (b : Value) → NotTruth b → apply c (Err r) b ≡ hand_on (Err r) b
  unfolding logical
  err-beside r (Truth y) n = absurd (n y refl)
  err-beside r (Err s) n = logical-err c (Err r) (Err s) l u (λ d f. refl)
  err-beside r (Whole y) n = logical-err c (Err r) (Whole y) l u (λ d f. refl)
  err-beside r (Real y) n = logical-err c (Err r) (Real y) l u (λ d f. refl)

  pub no-truth-first : (a b : Value) → NotTruth a → NotErr a → apply c a b ≡ hand_on a b
  unfolding logical
  no-truth-first (Truth x) b n m = absurd (n x refl)
  no-truth-first (Err r) b n m = absurd (m r refl)
  no-truth-first (Whole x) b n m = logical-err c (Whole x) b l u (λ d f. refl)
  no-truth-first (Real x) b n m = logical-err c (Real x) b l u (λ d f. refl)

pub not-no-truth : (a b : Value) → NotTruth a → apply 10 a b ≡ hand_on_one a
unfolding apply
not-no-truth (Truth x) b h = absurd (h x refl)
not-no-truth (Whole x) b h = refl
not-no-truth (Real x) b h = refl
not-no-truth (Err r) b h = refl

-- what is neither a whole number nor a float
pub negate-no-number : (a : Value) → NoWhole a → NotReal a → number negate_of negate_real a ≡ hand_on_one a
unfolding number
negate-no-number (Truth x) n h = refl
negate-no-number (Err r) n h = refl
negate-no-number (Whole x) n h = absurd n
negate-no-number (Real x) n h = absurd (h x refl)

pub not-whole : (a : Value) → NotWhole a → NoWhole a
not-whole (Whole x) h = absurd (h x refl)
not-whole (Truth x) h = tt
not-whole (Real x) h = tt
not-whole (Err r) h = tt
