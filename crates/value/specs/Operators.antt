-- The meaning of each operator: document 01, "Values and operators", in its order; and, or with document 02, Job 2, errs with Job 5,
-- floats with Job 9, where "as IEEE 754 does, to nearest even" is the toolchain's `lib.Ieee` at binary32. Other crates ask `apply` (code, first operand, second operand) and cite its laws in AndOr, Reasons and proofs/Codes, or unfold it
-- to compute; the pieces before it are for this crate's functions. Assumes nothing.
use Rattle.std.specs.Prelude.{ℕ, zero, suc, Bool, true, false, ◌&&◌, not, ◌||◌, ℤ, pos, negsuc, ◌+ℤ◌, ◌-ℤ◌, ◌*ℤ◌, neg_ℤ, eqb, Float}
use Rattle.std.specs.Int.Signed.{le_z, lt_z, quot_z, rem_z}
use Rattle.std.specs.Float.{fin, binary32}
use Rattle.std.specs.Float.Ieee.{fits, add, sub, mul, div, neg, lt, eq}
use Rattle.std.specs.Float.Ieee.Scale.{finite}
use Rattle.value.specs.declared.Reason.{Reason}
use Rattle.value.specs.declared.Reason.TheVariants.{ZeroDivisor, OutOfRange, Other}
use Rattle.value.specs.declared.Value.{Value}
use Rattle.value.specs.declared.Value.TheVariants.{Whole, Truth, Err, Real}

-- the first where the test holds, else the second
abbrev pub pick {ℓ} : {A : Type ℓ} → Bool → A → A → A
pick true a b = a
pick false a b = b

-- "a whole number from -2,147,483,648 to 2,147,483,647"
abbrev pub in_range : ℤ → Bool
in_range z = le_z (negsuc 2147483647) z && le_z z (pos 2147483647)

-- "an exact answer outside the range gives err": "V answer out of range"
unfoldable pub fit_of : ℤ → Value
fit_of z = pick (in_range z) (Whole z) (Err OutOfRange)

abbrev pub is_zero : ℤ → Bool
is_zero (pos zero) = true
is_zero (pos (suc n)) = false
is_zero (negsuc n) = false

abbrev pub eq_z : ℤ → ℤ → Bool
eq_z (pos a) (pos b) = eqb a b
eq_z (pos a) (negsuc b) = false
eq_z (negsuc a) (pos b) = false
eq_z (negsuc a) (negsuc b) = eqb a b

-- "a zero divisor .. gives err": "Z zero divisor"
unfoldable pub divided_by : ℤ → ℤ → Value
divided_by b z = pick (is_zero b) (Err ZeroDivisor) (fit_of z)

-- The exact function of each operator, over all integers.
unfoldable pub add_of : ℤ → ℤ → Value
add_of a b = fit_of (a +ℤ b)

unfoldable pub subtract_of : ℤ → ℤ → Value
subtract_of a b = fit_of (a -ℤ b)

unfoldable pub multiply_of : ℤ → ℤ → Value
multiply_of a b = fit_of (a *ℤ b)

-- "cuts toward zero"
unfoldable pub divide_of : ℤ → ℤ → Value
divide_of a b = divided_by b (quot_z a b)

-- "has the dividend's sign"
unfoldable pub remainder_of : ℤ → ℤ → Value
remainder_of a b = divided_by b (rem_z a b)

-- "6 and 7 give a truth"
unfoldable pub less_of : ℤ → ℤ → Value
less_of a b = Truth (lt_z a b)

unfoldable pub equal_of : ℤ → ℤ → Value
equal_of a b = Truth (eq_z a b)

unfoldable pub and_of : Bool → Bool → Value
and_of a b = Truth (a && b)

unfoldable pub or_of : Bool → Bool → Value
or_of a b = Truth (a || b)

unfoldable pub not_of : Bool → Value
not_of a = Truth (not a)

unfoldable pub negate_of : ℤ → Value
negate_of a = fit_of (neg_ℤ a)

-- ---- floats

-- A finite number of the format. What the code has as a float is of the format by its type, and so is what the operators below give
-- (FloatBytes); asking for it here makes their answers' range a law without conditions.
abbrev pub is_real : Float → Bool
is_real x = finite x && fits binary32 x

-- "another result that is no finite number gives V"
unfoldable pub real_of : Float → Value
real_of x = pick (is_real x) (Real x) (Err OutOfRange)

unfoldable pub add_real : Float → Float → Value
unfolding real_of
add_real a b = real_of (add binary32 a b)

unfoldable pub subtract_real : Float → Float → Value
unfolding real_of
subtract_real a b = real_of (sub binary32 a b)

unfoldable pub multiply_real : Float → Float → Value
unfolding real_of
multiply_real a b = real_of (mul binary32 a b)

abbrev pub zero_float : Float
zero_float = fin false 0 (pos 0)

abbrev pub is_zero_real : Float → Bool
is_zero_real x = eq x zero_float

-- "a zero divisor, also -0, gives Z": both zeros are equal.
unfoldable pub divide_real : Float → Float → Value
unfolding real_of
divide_real a b = pick (is_zero_real b) (Err ZeroDivisor) (real_of (div binary32 a b))

unfoldable pub less_real : Float → Float → Value
less_real a b = Truth (lt a b)

unfoldable pub equal_real : Float → Float → Value
equal_real a b = Truth (eq a b)

-- "negate turning the sign"
unfoldable pub negate_real : Float → Value
unfolding real_of
negate_real a = real_of (neg a)

-- ---- operands

-- The reason of an operand that is an err, or the one given.
abbrev pub reason_or : Value → Reason → Reason
reason_or (Whole a) given = given
reason_or (Truth a) given = given
reason_or (Real a) given = given
reason_or (Err r) given = r

-- "An err operand, a wrong kind .. gives err": "hands on the leftmost err, also beside an operand of a wrong kind"; without an err
-- "a wrong kind gives E".
unfoldable pub hand_on : Value → Value → Value
hand_on a b = Err (reason_or a (reason_or b Other))

-- The same of the operators that take one operand.
unfoldable pub hand_on_one : Value → Value
hand_on_one a = Err (reason_or a Other)

-- The operands that an operator wants, and what it gives with others.
unfoldable pub wholes : (ℤ → ℤ → Value) → Value → Value → Value
wholes f (Whole a) (Whole b) = f a b
wholes f (Whole a) (Truth b) = hand_on (Whole a) (Truth b)
wholes f (Whole a) (Err s) = hand_on (Whole a) (Err s)
wholes f (Whole a) (Real b) = hand_on (Whole a) (Real b)
wholes f (Truth a) b = hand_on (Truth a) b
wholes f (Real a) b = hand_on (Real a) b
wholes f (Err r) b = hand_on (Err r) b

-- Two whole numbers or two floats: "Whole numbers and floats in one operator are a wrong kind".
unfoldable pub numbers : (ℤ → ℤ → Value) → (Float → Float → Value) → Value → Value → Value
numbers f g (Whole a) (Whole b) = f a b
numbers f g (Real a) (Real b) = g a b
numbers f g (Whole a) (Real b) = hand_on (Whole a) (Real b)
numbers f g (Real a) (Whole b) = hand_on (Real a) (Whole b)
numbers f g (Whole a) (Truth b) = hand_on (Whole a) (Truth b)
numbers f g (Real a) (Truth b) = hand_on (Real a) (Truth b)
numbers f g (Whole a) (Err s) = hand_on (Whole a) (Err s)
numbers f g (Real a) (Err s) = hand_on (Real a) (Err s)
numbers f g (Truth a) b = hand_on (Truth a) b
numbers f g (Err r) b = hand_on (Err r) b

-- A truth beside an err, where the truth d decides: document 02, Job 2.
unfoldable pub beside_err : Bool → Bool → Reason → Value
-- "false and err is false", "true or err is true"; "Where false or true decides in Job 2's rule, it still decides."
beside_err false false r = Truth false
beside_err true true r = Truth true
-- "Otherwise an err operand of codes 8 and 9 still gives err"
beside_err false true r = Err r
beside_err true false r = Err r

-- And, or: f of two truths; beside an err the truth d decides.
unfoldable pub logical : Bool → (Bool → Bool → Value) → Value → Value → Value
logical d f (Truth a) (Truth b) = f a b
-- "whichever side the err stands"
logical d f (Truth a) (Err s) = beside_err d a s
logical d f (Err r) (Truth b) = beside_err d b r
logical d f (Err r) (Err s) = hand_on (Err r) (Err s)
-- "Both operands must still be truths or err; a whole number gives err", and so does a float: the leftmost err, where there is one.
logical d f (Whole a) b = hand_on (Whole a) b
logical d f (Real a) b = hand_on (Real a) b
logical d f (Truth a) (Whole b) = hand_on (Truth a) (Whole b)
logical d f (Truth a) (Real b) = hand_on (Truth a) (Real b)
logical d f (Err r) (Whole b) = hand_on (Err r) (Whole b)
logical d f (Err r) (Real b) = hand_on (Err r) (Real b)

unfoldable pub truth : (Bool → Value) → Value → Value
truth f (Truth a) = f a
truth f (Whole a) = hand_on_one (Whole a)
truth f (Real a) = hand_on_one (Real a)
truth f (Err r) = hand_on_one (Err r)

-- Every case but a whole number.
abbrev pub NoWhole : Value → Type 0
NoWhole (Whole a) = ⊥
NoWhole (Truth a) = Unit {0}
NoWhole (Real a) = Unit {0}
NoWhole (Err r) = Unit {0}

unfoldable pub number : (ℤ → Value) → (Float → Value) → Value → Value
number f g (Whole a) = f a
number f g (Real a) = g a
number f g (Truth a) = hand_on_one (Truth a)
number f g (Err r) = hand_on_one (Err r)

-- "1 add, 2 subtract, 3 multiply, 4 divide, 5 remainder, 6 less, 7 equal, 8 and, 9 or, 10 not, 11 negate."
-- "8 to 10 want truths, the others whole numbers"; "Codes 1 to 4, 6, 7 and 11 take two (or one)" floats too. False decides and, true decides or. A code that is none of these has no operator: "E all else".
unfoldable pub apply : ℕ → Value → Value → Value
unfolding fit_of divided_by add_of subtract_of multiply_of divide_of remainder_of less_of equal_of and_of or_of not_of negate_of add_real subtract_real multiply_real divide_real less_real equal_real negate_real hand_on hand_on_one wholes numbers beside_err logical truth number
apply c a b =
    pick (eqb c 1) (numbers add_of add_real a b)
    (pick (eqb c 2) (numbers subtract_of subtract_real a b)
    (pick (eqb c 3) (numbers multiply_of multiply_real a b)
    (pick (eqb c 4) (numbers divide_of divide_real a b)
    (pick (eqb c 5) (wholes remainder_of a b)
    (pick (eqb c 6) (numbers less_of less_real a b)
    (pick (eqb c 7) (numbers equal_of equal_real a b)
    (pick (eqb c 8) (logical false and_of a b)
    (pick (eqb c 9) (logical true or_of a b)
    (pick (eqb c 10) (truth not_of a)
    (pick (eqb c 11) (number negate_of negate_real a)
    (Err Other)))))))))))

-- "10 and 11 take one operand, the rest two."
unfoldable pub operands : ℕ → ℕ
operands c = pick (eqb c 10 || eqb c 11) 1 2
