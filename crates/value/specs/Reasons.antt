-- Which err an operator gives: document 02, Job 5, sentence by sentence, and of floats Job 9, apart from the operators' table; and that
-- every operator's answer has just that reason. Assumes nothing.
use Rattle.std.specs.Prelude.{ℕ, zero, suc, ◌≤◌, ◌<◌, ◌≡◌, ◌⊎◌, Bool, true, false, ◌&&◌, ◌||◌, not, List, [], ◌∷◌, ℤ, pos, ◌+ℤ◌, ◌-ℤ◌, ◌*ℤ◌, neg_ℤ, eqb, leb, Float}
use Rattle.std.proofs.Math.Path.{refl}
use Rattle.std.proofs.Common.{sym, ◌∙◌, subst, inl, inr, ⊎_elim, eqb-true, ne_eqb, arith}
use Rattle.std.specs.Bool.{beq}
use Rattle.std.proofs.Math.Option.{Option, some, none}
use Rattle.std.specs.Int.Signed.{quot_z, rem_z}
use Rattle.std.specs.Float.{binary32}
use Rattle.std.specs.Float.Ieee.{fits, add, sub, mul, div, neg}
use Rattle.std.proofs.lemmas.Bool.{eqb-false, lt-leb}
use Rattle.value.specs.declared.Reason.{Reason}
use Rattle.value.specs.declared.Reason.TheVariants.{ZeroDivisor, OutOfRange, Other}
use Rattle.value.specs.declared.Value.{Value}
use Rattle.value.specs.declared.Value.TheVariants.{Whole, Truth, Err, Real}
use Rattle.value.specs.Operators.{pick, in_range, is_zero, is_real, zero_float, is_zero_real, operands, fit_of, divided_by, add_of, subtract_of, multiply_of, divide_of, remainder_of, less_of, equal_of, and_of, or_of, real_of, add_real, subtract_real, multiply_real, divide_real, less_real, equal_real, negate_real, hand_on, wholes, numbers, beside_err, logical, apply}

-- "An err now has a reason": that of a value, if it is an err.
abbrev pub reason_in : Value → Option Reason
reason_in (Whole z) = none
reason_in (Truth a) = none
reason_in (Real x) = none
reason_in (Err r) = some r

abbrev pub is_whole : Value → Bool
is_whole (Whole z) = true
is_whole (Truth a) = false
is_whole (Real x) = false
is_whole (Err r) = false

abbrev pub is_truth : Value → Bool
is_truth (Whole z) = false
is_truth (Truth a) = true
is_truth (Real x) = false
is_truth (Err r) = false

abbrev pub is_float : Value → Bool
is_float (Whole z) = false
is_float (Truth a) = false
is_float (Real x) = true
is_float (Err r) = false

abbrev pub is_err : Value → Bool
is_err (Whole z) = false
is_err (Truth a) = false
is_err (Real x) = false
is_err (Err r) = true

-- the truth d
abbrev is_the : Bool → Value → Bool
is_the d (Whole z) = false
is_the d (Truth a) = beq a d
is_the d (Real x) = false
is_the d (Err r) = false

-- the whole number of a value, 0 where it is none
abbrev pub whole_in : Value → ℤ
whole_in (Whole z) = z
whole_in (Truth a) = pos 0
whole_in (Real x) = pos 0
whole_in (Err r) = pos 0

-- the float of a value, +0 where it is none
abbrev pub float_in : Value → Float
float_in (Whole z) = zero_float
float_in (Truth a) = zero_float
float_in (Real x) = x
float_in (Err r) = zero_float

-- "10 and 11 take one operand, the rest two", from left to right.
abbrev pub taken : ℕ → Value → Value → List Value
taken c a b = pick (eqb (operands c) 1) (a ∷ []) (a ∷ b ∷ [])

-- "Where false or true decides in Job 2's rule, it still decides": false an and, true an or, both operands truths or errs.
abbrev decided_by : Bool → Value → Value → Bool
decided_by d a b = (is_the d a && (is_truth b || is_err b)) || (is_the d b && (is_truth a || is_err a))

abbrev pub decided : ℕ → Value → Value → Bool
decided c a b = pick (eqb c 8) (decided_by false a b) (pick (eqb c 9) (decided_by true a b) false)

-- "hands on the leftmost err"
abbrev pub leftmost : List Value → Option Reason → Option Reason
leftmost [] otherwise = otherwise
leftmost (Whole z ∷ vs) otherwise = leftmost vs otherwise
leftmost (Truth a ∷ vs) otherwise = leftmost vs otherwise
leftmost (Real x ∷ vs) otherwise = leftmost vs otherwise
leftmost (Err r ∷ vs) otherwise = some r

abbrev pub all : (Value → Bool) → List Value → Bool
all p [] = true
all p (v ∷ vs) = p v && all p vs

-- "8 to 10 want truths, the others whole numbers"; "Codes 1 to 4, 6, 7 and 11 take" floats too; "Whole numbers and floats in one operator are
-- a wrong kind".
abbrev pub all_wanted : ℕ → List Value → Bool
all_wanted c vs = pick (leb 8 c && leb c 10) (all is_truth vs) (pick (eqb c 5) (all is_whole vs) (all is_whole vs || all is_float vs))

-- "Z zero divisor"
abbrev zero_divisor : ℕ → ℤ → Bool
zero_divisor c y = (eqb c 4 || eqb c 5) && is_zero y

-- The exact answer of the operators that give a number; 0, which is in range, for those that give a truth.
abbrev exact : ℕ → ℤ → ℤ → ℤ
exact c x y =
    pick (eqb c 1) (x +ℤ y)
    (pick (eqb c 2) (x -ℤ y)
    (pick (eqb c 3) (x *ℤ y)
    (pick (eqb c 4) (quot_z x y)
    (pick (eqb c 5) (rem_z x y)
    (pick (eqb c 11) (neg_ℤ x)
    (pos 0))))))

-- "V answer out of range"
abbrev out_of_range : ℕ → ℤ → ℤ → Bool
out_of_range c x y = not (in_range (exact c x y))

-- Of whole numbers.
abbrev pub of_wholes : ℕ → ℤ → ℤ → Option Reason
of_wholes c x y =
    pick (zero_divisor c y) (some ZeroDivisor)
    (pick (out_of_range c x y) (some OutOfRange)
    none)

-- The answer "as IEEE 754 does" of the operators that give a float; +0, which is finite, for the others.
abbrev ieee : ℕ → Float → Float → Float
ieee c x y =
    pick (eqb c 1) (add binary32 x y)
    (pick (eqb c 2) (sub binary32 x y)
    (pick (eqb c 3) (mul binary32 x y)
    (pick (eqb c 4) (div binary32 x y)
    (pick (eqb c 11) (neg x)
    zero_float))))

-- Of floats: "a zero divisor, also -0, gives Z, and another result that is no finite number gives V".
abbrev pub of_floats : ℕ → Float → Float → Option Reason
of_floats c x y =
    pick (eqb c 4 && is_zero_real y) (some ZeroDivisor)
    (pick (not (is_real (ieee c x y))) (some OutOfRange)
    none)

-- Of operands that are wanted.
abbrev pub of_wanted : ℕ → Value → Value → Option Reason
of_wanted c a b = pick (is_float a) (of_floats c (float_in a) (float_in b)) (of_wholes c (whole_in a) (whole_in b))

-- The reason that an operator's answer has, or none.
unfoldable pub reason_of : ℕ → Value → Value → Option Reason
reason_of c a b =
    -- no operator: "E all else"
    pick (not (leb 1 c && leb c 11)) (some Other)
    (pick (decided c a b) none
    (leftmost (taken c a b)
    -- "a wrong kind gives E even beside a zero divisor"
    (pick (not (all_wanted c (taken c a b))) (some Other)
    (of_wanted c a b))))

-- ---- every operator's answer has just that reason

fitted : (z : ℤ) → reason_in (fit_of z) ≡ pick (not (in_range z)) (some OutOfRange) none
unfolding fit_of
fitted z = go (in_range z)
  where
    go : (t : Bool) → reason_in (pick t (Whole z) (Err OutOfRange)) ≡ pick (not t) (some OutOfRange) none
    go true = refl
    go false = refl

divided : (b z : ℤ) → reason_in (divided_by b z) ≡ pick (is_zero b) (some ZeroDivisor) (pick (not (in_range z)) (some OutOfRange) none)
unfolding divided_by
divided b z = go (is_zero b)
  where
    go : (t : Bool) → reason_in (pick t (Err ZeroDivisor) (fit_of z)) ≡ pick t (some ZeroDivisor) (pick (not (in_range z)) (some OutOfRange) none)
    go true = refl
    go false = fitted z

real-reason : (x : Float) → reason_in (real_of x) ≡ pick (not (is_real x)) (some OutOfRange) none
unfolding real_of
real-reason x = go (is_real x)
  where
    go : (t : Bool) → reason_in (pick t (Real x) (Err OutOfRange)) ≡ pick (not t) (some OutOfRange) none
    go true = refl
    go false = refl

divided-real : (x y : Float) → reason_in (divide_real x y) ≡ of_floats 4 x y
unfolding divide_real
divided-real x y = go (is_zero_real y)
  where
    go : (t : Bool) → reason_in (pick t (Err ZeroDivisor) (real_of (div binary32 x y)))
        ≡ pick t (some ZeroDivisor) (pick (not (is_real (div binary32 x y))) (some OutOfRange) none)
    go true = refl
    go false = real-reason (div binary32 x y)

of-wholes : (f : ℤ → ℤ → Value) (g : ℤ → ℤ → Option Reason) (o : Value → Value → Option Reason) → ((x y : ℤ) → reason_in (f x y) ≡ g x y)
    → (a b : Value)
    → reason_in (wholes f a b) ≡ leftmost (a ∷ b ∷ []) (pick (not (is_whole a && (is_whole b && true))) (some Other) (pick (is_float a) (o a b) (g (whole_in a) (whole_in b))))
unfolding wholes hand_on
of-wholes f g o h (Whole x) (Whole y) = h x y
of-wholes f g o h (Whole x) (Truth y) = refl
of-wholes f g o h (Whole x) (Real y) = refl
of-wholes f g o h (Whole x) (Err s) = refl
of-wholes f g o h (Truth x) (Whole y) = refl
of-wholes f g o h (Truth x) (Truth y) = refl
of-wholes f g o h (Truth x) (Real y) = refl
of-wholes f g o h (Truth x) (Err s) = refl
of-wholes f g o h (Real x) (Whole y) = refl
of-wholes f g o h (Real x) (Truth y) = refl
of-wholes f g o h (Real x) (Real y) = refl
of-wholes f g o h (Real x) (Err s) = refl
of-wholes f g o h (Err r) b = refl

of-numbers : (f : ℤ → ℤ → Value) (g : Float → Float → Value) (p : ℤ → ℤ → Option Reason) (q : Float → Float → Option Reason)
    → ((x y : ℤ) → reason_in (f x y) ≡ p x y) → ((x y : Float) → reason_in (g x y) ≡ q x y) → (a b : Value)
    → reason_in (numbers f g a b) ≡ leftmost (a ∷ b ∷ []) (pick (not ((is_whole a && (is_whole b && true)) || (is_float a && (is_float b && true)))) (some Other)
    (pick (is_float a) (q (float_in a) (float_in b)) (p (whole_in a) (whole_in b))))
unfolding numbers hand_on
of-numbers f g p q h i (Whole x) (Whole y) = h x y
of-numbers f g p q h i (Whole x) (Truth y) = refl
of-numbers f g p q h i (Whole x) (Real y) = refl
of-numbers f g p q h i (Whole x) (Err s) = refl
of-numbers f g p q h i (Truth x) (Whole y) = refl
of-numbers f g p q h i (Truth x) (Truth y) = refl
of-numbers f g p q h i (Truth x) (Real y) = refl
of-numbers f g p q h i (Truth x) (Err s) = refl
of-numbers f g p q h i (Real x) (Whole y) = refl
of-numbers f g p q h i (Real x) (Truth y) = refl
of-numbers f g p q h i (Real x) (Real y) = i x y
of-numbers f g p q h i (Real x) (Err s) = refl
of-numbers f g p q h i (Err r) b = refl

none-either : (t : Bool) (o : Option Reason) → o ≡ none → none ≡ pick t none o
none-either true o e = refl
none-either false o e = sym e

of-truths : (d : Bool) (f : Bool → Bool → Value) (o : Value → Value → Option Reason) → ((x y : Bool) → reason_in (f x y) ≡ none)
    → ((x y : Bool) → o (Truth x) (Truth y) ≡ none) → (a b : Value)
    → reason_in (logical d f a b) ≡ pick (decided_by d a b) none (leftmost (a ∷ b ∷ []) (pick (not (is_truth a && (is_truth b && true))) (some Other) (o a b)))
unfolding logical beside_err hand_on
of-truths d f o h n (Truth x) (Truth y) = h x y ∙ none-either (beq x d && true || beq y d && true) (o (Truth x) (Truth y)) (n x y)
of-truths true f o h n (Truth true) (Err s) = refl
of-truths true f o h n (Truth false) (Err s) = refl
of-truths false f o h n (Truth true) (Err s) = refl
of-truths false f o h n (Truth false) (Err s) = refl
of-truths true f o h n (Err r) (Truth true) = refl
of-truths true f o h n (Err r) (Truth false) = refl
of-truths false f o h n (Err r) (Truth true) = refl
of-truths false f o h n (Err r) (Truth false) = refl
of-truths true f o h n (Whole x) (Truth true) = refl
of-truths true f o h n (Whole x) (Truth false) = refl
of-truths false f o h n (Whole x) (Truth true) = refl
of-truths false f o h n (Whole x) (Truth false) = refl
of-truths true f o h n (Truth true) (Whole y) = refl
of-truths true f o h n (Truth false) (Whole y) = refl
of-truths false f o h n (Truth true) (Whole y) = refl
of-truths false f o h n (Truth false) (Whole y) = refl
of-truths true f o h n (Real x) (Truth true) = refl
of-truths true f o h n (Real x) (Truth false) = refl
of-truths false f o h n (Real x) (Truth true) = refl
of-truths false f o h n (Real x) (Truth false) = refl
of-truths true f o h n (Truth true) (Real y) = refl
of-truths true f o h n (Truth false) (Real y) = refl
of-truths false f o h n (Truth true) (Real y) = refl
of-truths false f o h n (Truth false) (Real y) = refl
of-truths d f o h n (Whole x) (Whole y) = refl
of-truths d f o h n (Whole x) (Real y) = refl
of-truths d f o h n (Whole x) (Err s) = refl
of-truths d f o h n (Real x) (Whole y) = refl
of-truths d f o h n (Real x) (Real y) = refl
of-truths d f o h n (Real x) (Err s) = refl
of-truths d f o h n (Err r) (Whole y) = refl
of-truths d f o h n (Err r) (Real y) = refl
of-truths d f o h n (Err r) (Err s) = refl

abbrev Has-reason : ℕ → Type 0
Has-reason c = (a b : Value) → reason_in (apply c a b) ≡ reason_of c a b

of-one-truth : Has-reason 10
unfolding apply reason_of operands
of-one-truth (Whole x) b = refl
of-one-truth (Truth x) b = refl
of-one-truth (Real x) b = refl
of-one-truth (Err r) b = refl

of-one-number : Has-reason 11
unfolding apply reason_of operands negate_real
of-one-number (Whole x) b = fitted (neg_ℤ x)
of-one-number (Truth x) b = refl
of-one-number (Real x) b = real-reason (neg x)
of-one-number (Err r) b = refl

of-add : Has-reason 1
unfolding apply reason_of operands add_of add_real
of-add a b = of-numbers add_of add_real (of_wholes 1) (of_floats 1) (λ x y. fitted (x +ℤ y)) (λ x y. real-reason (add binary32 x y)) a b

of-subtract : Has-reason 2
unfolding apply reason_of operands subtract_of subtract_real
of-subtract a b = of-numbers subtract_of subtract_real (of_wholes 2) (of_floats 2) (λ x y. fitted (x -ℤ y)) (λ x y. real-reason (sub binary32 x y)) a b

of-multiply : Has-reason 3
unfolding apply reason_of operands multiply_of multiply_real
of-multiply a b = of-numbers multiply_of multiply_real (of_wholes 3) (of_floats 3) (λ x y. fitted (x *ℤ y)) (λ x y. real-reason (mul binary32 x y)) a b

of-divide : Has-reason 4
unfolding apply reason_of operands divide_of
of-divide a b = of-numbers divide_of divide_real (of_wholes 4) (of_floats 4) (λ x y. divided y (quot_z x y)) divided-real a b

of-remainder : Has-reason 5
unfolding apply reason_of operands remainder_of
of-remainder a b = of-wholes remainder_of (of_wholes 5) (λ x y. of_floats 5 (float_in x) (float_in y)) (λ x y. divided y (rem_z x y)) a b

of-less : Has-reason 6
unfolding apply reason_of operands less_of equal_of less_real equal_real fits
of-less a b = of-numbers _ _ (of_wholes 6) (of_floats 6) (λ x y. refl) (λ x y. refl) a b

of-equal : Has-reason 7
unfolding apply reason_of operands less_of equal_of less_real equal_real fits
of-equal a b = of-numbers _ _ (of_wholes 7) (of_floats 7) (λ x y. refl) (λ x y. refl) a b

of_and : Has-reason 8
unfolding apply reason_of operands and_of
of_and a b = of-truths false and_of (of_wanted 8) (λ x y. refl) (λ x y. refl) a b

of_or : Has-reason 9
unfolding apply reason_of operands or_of
of_or a b = of-truths true or_of (of_wanted 9) (λ x y. refl) (λ x y. refl) a b

-- A code that is none of these.
module _ (c : ℕ) (h : (c < 1) ⊎ (12 ≤ c)) where
  not_code : (k : ℕ) → 1 ≤ k → k ≤ 11 → eqb c k ≡ false
  not_code k l u = ne_eqb c k (λ e. ⊎_elim (λ (x : c < 1). omega arith) (λ (x : 12 ≤ c). omega arith) h)

  outside : leb 1 c && leb c 11 ≡ false
  outside = ⊎_elim (λ (x : c < 1). rw (lt-leb 1 c x) refl) (λ (x : 12 ≤ c). rw (lt-leb c 11 (omega arith)) (and-false (leb 1 c))) h
    where
      and-false : (t : Bool) → t && false ≡ false
      and-false true = refl
      and-false false = refl

  of_none : Has-reason c
  unfolding apply reason_of
  of_none a b =
      rw (
        outside,
        not_code 1 (omega arith) (omega arith),
        not_code 2 (omega arith) (omega arith),
        not_code 3 (omega arith) (omega arith),
        not_code 4 (omega arith) (omega arith),
        not_code 5 (omega arith) (omega arith),
        not_code 6 (omega arith) (omega arith),
        not_code 7 (omega arith) (omega arith),
        not_code 8 (omega arith) (omega arith),
        not_code 9 (omega arith) (omega arith),
        not_code 10 (omega arith) (omega arith),
        not_code 11 (omega arith) (omega arith),
      ) refl

-- Whichever code it is: k, or one above it.
from : (c k : ℕ) → k ≤ c → Has-reason k → (suc k ≤ c → Has-reason c) → Has-reason c
from c k l h above = go (eqb c k) refl
  where
    go : (t : Bool) → eqb c k ≡ t → Has-reason c
    go true e = subst Has-reason (sym (eqb-true c k e)) h
    go false e = let n = eqb-false c k e in above (omega (arith, n))

-- The reason of every operator's answer, whatever its operands, is the one that the request's sentences give.
pub answer-reason : (c : ℕ) (a b : Value) → reason_in (apply c a b) ≡ reason_of c a b
answer-reason zero = of_none 0 (inl (omega arith))
answer-reason (suc c) =
    from (suc c) 1 (omega arith) of-add (λ l2.
    from (suc c) 2 l2 of-subtract (λ l3.
    from (suc c) 3 l3 of-multiply (λ l4.
    from (suc c) 4 l4 of-divide (λ l5.
    from (suc c) 5 l5 of-remainder (λ l6.
    from (suc c) 6 l6 of-less (λ l7.
    from (suc c) 7 l7 of-equal (λ l8.
    from (suc c) 8 l8 of_and (λ l9.
    from (suc c) 9 l9 of_or (λ l10.
    from (suc c) 10 l10 of-one-truth (λ l11.
    from (suc c) 11 l11 of-one-number (λ l12.
    of_none (suc c) (inr l12))))))))))))
