-- Laws of 32-bit whole numbers inside 64 bits: sums, products and quotients fit, and the range test is the tests of the code.
use mathlib.Core.Path.{◌≡◌, refl, sym, ap, ◌∙◌}
use mathlib.Core.Bool.{Bool, true, false, cond, ◌&&◌}
use Prim.Native.Nat.{ℕ, zero, suc, ◌*◌, ◌-◌, ◌/◌, ◌^◌, ◌≤◌, ◌<◌}
use native.Mathlib.Omega.{arith}
use native.Mathlib.Nat.{mul-le-mul, div-le_self, lt_of_le_of_lt}
use lib.IntN.{ℤ, pos, negsuc, ◌+ℤ◌, ◌-ℤ◌, ◌*ℤ◌, neg_ℤ}
use lib.Signed.{quot_z, rem_z, mag, mag_rem}
use lib.Dec.{ltb, leb, eqb}
use Rattle.std.specs.Prelude.{Result, Ok, OkIff, Some, None}
use Rattle.std.specs.Prelude.{Err as Failed}
use Rattle.std.specs.Result.{result_ok}
use Rattle.std.proofs.lemmas.Option.{same_Some, none-some}
use borrow.Author.Tests.{le-leb, ne_eqb, eqb-true, eqb-false, leb-true}
use mir.Syntax.{w32, w64}
use mir.Val.{SFits, to_z, of_z}
use mir.Facts.{to_z-of_z, sfits_widen}
use Rattle.value.specs.declared.Reason.TheVariants.{ZeroDivisor, OutOfRange}
use Rattle.value.specs.declared.Value.TheVariants.{Whole, Err}
use Rattle.value.specs.Bytes.{InRange}
use Rattle.value.specs.Operators.{pick, in_range, fit_of, divided_by, is_zero, eq_z}

-- a signed local holds bits: what is read back is the number
pub back : {z : ℤ} → SFits w32 z → to_z w32 (of_z w32 z) ≡ z
back f = to_z-of_z f

pub back64 : {z : ℤ} → SFits w32 z → to_z w64 (of_z w64 z) ≡ z
back64 f = to_z-of_z {w = w64} (sfits_widen {w = w32} {w' = w64} tt f)

-- a number cast from 32 bits to 64 is itself
pub there : {z : ℤ} → SFits w32 z → to_z w64 (of_z w64 (to_z w32 (of_z w32 z))) ≡ z
there f = rw (back f) (back64 f)

mag-cond : (t : Bool) (a b : ℕ) → a ≤ 4294967296 → b ≤ 4294967296 → mag (cond t (negsuc (b - suc a)) (pos (a - b))) < 2 ^ 63
mag-cond true a b h k = omega arith
mag-cond false a b h k = omega arith

mag-neg : (n : ℕ) → mag (neg_ℤ (pos n)) ≤ n
mag-neg zero = omega arith
mag-neg (suc n) = omega arith

pub neg-fits : {z : ℤ} → SFits w32 z → SFits w64 (neg_ℤ z)
neg-fits {z = pos zero} f = record { sfits = omega arith }
neg-fits {z = pos (suc n)} f = record { sfits = omega (arith, f.sfits) }
neg-fits {z = negsuc n} f = record { sfits = omega (arith, f.sfits) }

pub sum_fits : (a b : ℤ) → mag a < 2147483648 → mag b ≤ 2147483648 → SFits w64 (a +ℤ b)
sum_fits (pos a) (pos b) f g = record { sfits = omega arith }
sum_fits (pos a) (negsuc b) f g = record { sfits = mag-cond (ltb a (suc b)) a (suc b) (omega arith) (omega arith) }
sum_fits (negsuc a) (pos b) f g = record { sfits = mag-cond (ltb b (suc a)) b (suc a) (omega arith) (omega arith) }
sum_fits (negsuc a) (negsuc b) f g = record { sfits = omega arith }

mag-of-neg : (b : ℤ) → mag b < 2147483648 → mag (neg_ℤ b) ≤ 2147483648
mag-of-neg (pos zero) h = omega arith
mag-of-neg (pos (suc n)) h = omega arith
mag-of-neg (negsuc n) h = omega arith

pub difference-fits : (a b : ℤ) → mag a < 2147483648 → mag b < 2147483648 → SFits w64 (a -ℤ b)
difference-fits a b f g = sum_fits a (neg_ℤ b) f (mag-of-neg b g)

prod : {x y : ℕ} → x ≤ 2147483648 → y ≤ 2147483648 → x * y < 2 ^ 63
prod {x} {y} h k = let p : x * y ≤ 4611686018427387904 = mul-le-mul h k in omega arith

pub product-fits : (a b : ℤ) → mag a < 2147483648 → mag b < 2147483648 → SFits w64 (a *ℤ b)
product-fits (pos a) (pos b) f g = record { sfits = prod (omega arith) (omega arith) }
product-fits (pos a) (negsuc b) f g = record { sfits = lt_of_le_of_lt (mag-neg (a * suc b)) (prod (omega arith) (omega arith)) }
product-fits (negsuc a) (pos b) f g = record { sfits = lt_of_le_of_lt (mag-neg (suc a * b)) (prod (omega arith) (omega arith)) }
product-fits (negsuc a) (negsuc b) f g = record { sfits = prod (omega arith) (omega arith) }

pub quotient_fits : (a b : ℤ) → mag a < 2147483648 → SFits w64 (quot_z a b)
quotient_fits (pos a) (pos b) f = record { sfits = omega (arith, div-le_self a b) }
quotient_fits (pos a) (negsuc b) f = record { sfits = omega (arith, mag-neg (a / suc b), div-le_self a (suc b)) }
quotient_fits (negsuc a) (pos b) f = record { sfits = omega (arith, mag-neg (suc a / b), div-le_self (suc a) b) }
quotient_fits (negsuc a) (negsuc b) f = record { sfits = omega (arith, div-le_self (suc a) (suc b)) }

pub rem-fits : (a b : ℤ) → mag a < 2147483648 → SFits w64 (rem_z a b)
rem-fits a b f = record { sfits = omega (arith, mag_rem a b) }

-- the range test
and-true : (t : Bool) → t && true ≡ t
and-true true = refl
and-true false = refl

inside : (z : ℤ) → mag z < 2147483648 → Whole z ≡ fit_of z
unfolding fit_of
inside (pos n) h = simp (le-leb n 2147483647 (omega arith))
inside (negsuc n) h = simp (le-leb n 2147483647 (omega arith))

fitted : (z : ℤ) (t : Bool) → in_range z ≡ t → InRange (pick t (Whole z) (Err OutOfRange))
fitted z false e = tt
fitted (pos n) true e = omega (arith, leb-true n 2147483647 e)
fitted (negsuc n) true e = omega (arith, leb-true n 2147483647 (sym (and-true (leb n 2147483647)) ∙ e))

-- an answer that was fitted into the range is in it
pub fit-in-range : (z : ℤ) → InRange (fit_of z)
unfolding fit_of
fit-in-range z = fitted z (in_range z) refl

pub divided-in-range : (b z : ℤ) → InRange (divided_by b z)
unfolding divided_by
divided-in-range b z = go (is_zero b)
  where
    go : (t : Bool) → InRange (pick t (Err ZeroDivisor) (fit_of z))
    go true = tt
    go false = fit-in-range z

-- an answer that fits no 32 bits is the err
pub outside : (z : ℤ) → (SFits w32 z → ⊥) → Err OutOfRange ≡ fit_of z
unfolding fit_of
outside z n = go (in_range z) refl
  where
    go : (t : Bool) → in_range z ≡ t → Err OutOfRange ≡ pick t (Whole z) (Err OutOfRange)
    go true e = absurd (n (record { sfits = fitted z true e }))
    go false e = refl

pub whole_is : (z : ℤ) → SFits w32 z → Whole z ≡ fit_of z
whole_is z f = inside z f.sfits

-- the zero test, on bits
pub zero_bits : (z : ℤ) → SFits w32 z → of_z w32 z ≡ 0 → is_zero z ≡ true
zero_bits (pos zero) f h = refl
zero_bits (pos (suc n)) f h = absurd (omega arith)
zero_bits (negsuc n) f h = absurd (omega (arith, f.sfits))

pub nonzero-bits : (z : ℤ) → (of_z w32 z ≡ 0 → ⊥) → is_zero z ≡ false
nonzero-bits (pos zero) h = absurd (h refl)
nonzero-bits (pos (suc n)) h = refl
nonzero-bits (negsuc n) h = refl

-- equality, on bits
pub eq-bits : (a b : ℤ) → SFits w32 a → SFits w32 b → eqb (of_z w32 a) (of_z w32 b) ≡ eq_z a b
eq-bits (pos a) (pos b) f g = refl
eq-bits (pos a) (negsuc b) f g = ne_eqb a (of_z w32 (negsuc b)) (λ e. omega (arith, f.sfits, g.sfits))
eq-bits (negsuc a) (pos b) f g = ne_eqb (of_z w32 (negsuc a)) b (λ e. omega (arith, f.sfits, g.sfits))
eq-bits (negsuc a) (negsuc b) f g = go (eqb (of_z w32 (negsuc a)) (of_z w32 (negsuc b))) refl (eqb a b) refl
  where
    go : (s : Bool) → eqb (of_z w32 (negsuc a)) (of_z w32 (negsuc b)) ≡ s → (t : Bool) → eqb a b ≡ t → eqb (of_z w32 (negsuc a)) (of_z w32 (negsuc b)) ≡ eqb a b
    go true p true q = p ∙ sym q
    go false p false q = p ∙ sym q
    go true p false q = absurd (eqb-false a b q (omega (arith, f.sfits, g.sfits, eqb-true (of_z w32 (negsuc a)) (of_z w32 (negsuc b)) p)))
    go false p true q = absurd (eqb-false (of_z w32 (negsuc a)) (of_z w32 (negsuc b)) p (ap (λ (n : ℕ). of_z w32 (negsuc n)) (eqb-true a b q)))

-- ---- what a number tried in fewer bits is read as
pub read : {E P : Type 0} {n w : ℕ} (r : Result ℕ E) → OkIff r P n → Some w ≡ result_ok r → P × (w ≡ n)
read {w = w} (Ok x) h e = (h.0, same_Some w x e ∙ h.1)
read {w = w} (Failed x) h e = absurd (none-some w (sym e))

pub unread : {E P : Type 0} (r : Result ℕ E) (n : ℕ) → OkIff r P n → None ≡ result_ok r → P → ⊥
unread (Ok x) n h e = absurd (none-some x e)
unread (Failed x) n h e = h
