-- Kinds of values: document 02, Job 6, with floats Job 9. What kinds an operator and a test want, and which kind an operator gives, by
-- document 01, "Values and operators"; that an operator's answer is of that kind or an err, and that the kinds wanted are those of the
-- operators: where they are got, no err comes from a wrong kind. Assumes nothing.
use Rattle.std.specs.Prelude.{ℕ, ◌≡◌, Bool, cond, ◌&&◌, ◌||◌, not, List, [], ◌∷◌, ℤ, ◌+ℤ◌, ◌-ℤ◌, ◌*ℤ◌, neg_ℤ, eqb, Float}
use Rattle.std.proofs.Math.Path.{refl, ap}
use Rattle.std.proofs.Common.{sym, ◌∙◌, subst, eqb-true}
use Rattle.std.proofs.Math.Bool.{true, false}
use Rattle.std.proofs.lemmas.Bool.{false≢true}
use Rattle.std.proofs.Math.Option.{Option, some, none}
use Rattle.std.specs.Int.Signed.{quot_z, rem_z}
use Rattle.std.proofs.Math.Dec.{leb}
use Rattle.std.specs.Float.Ieee.{binary32, add, sub, mul, div, neg}
use Rattle.value.specs.declared.Reason.{Reason}
use Rattle.value.specs.declared.Reason.TheVariants.{ZeroDivisor, OutOfRange, Other}
use Rattle.value.specs.declared.Value.{Value}
use Rattle.value.specs.declared.Value.TheVariants.{Whole, Truth, Err, Real}
use Rattle.value.specs.declared.Sense.{Sense}
use Rattle.value.specs.declared.Sense.TheVariants.{True, False, Neither}
use Rattle.value.specs.declared.ValueKind.{ValueKind}
use Rattle.value.specs.declared.ValueKind.TheVariants.{Whole as whole-kind, Truth as truth-kind, Real as real-kind}
use Rattle.value.specs.Operators.{pick, in_range, is_zero, is_real, is_zero_real, operands, fit_of, divided_by, add_of, subtract_of, multiply_of, divide_of, remainder_of, less_of, equal_of, and_of, or_of, not_of, negate_of, real_of, add_real, subtract_real, multiply_real, divide_real, less_real, equal_real, negate_real, hand_on, hand_on_one, wholes, numbers, beside_err, logical, truth, number, apply}
use Rattle.value.specs.Reasons.{is_whole, is_truth, is_float, is_err, taken, decided, leftmost, all, all_wanted, of_wanted, reason_of}
use Rattle.value.specs.Senses.{sense}

abbrev pub same_kind : ValueKind → ValueKind → Bool
same_kind whole-kind whole-kind = true
same_kind whole-kind truth-kind = false
same_kind whole-kind real-kind = false
same_kind truth-kind whole-kind = false
same_kind truth-kind truth-kind = true
same_kind truth-kind real-kind = false
same_kind real-kind whole-kind = false
same_kind real-kind truth-kind = false
same_kind real-kind real-kind = true

-- "inputs of their kinds or errs"
abbrev pub suits : ValueKind → Value → Bool
suits whole-kind (Whole z) = true
suits truth-kind (Whole z) = false
suits real-kind (Whole z) = false
suits whole-kind (Truth a) = false
suits truth-kind (Truth a) = true
suits real-kind (Truth a) = false
suits whole-kind (Real x) = false
suits truth-kind (Real x) = false
suits real-kind (Real x) = true
suits k (Err r) = true

-- "one letter an input, W or T", "kind letter R"
abbrev pub is_letter : ℕ → Bool
is_letter b = eqb b 87 || (eqb b 84 || eqb b 82)

abbrev pub kind_of_letter : ℕ → ValueKind
kind_of_letter b = cond (eqb b 84) truth-kind (cond (eqb b 82) real-kind whole-kind)

-- A value that is of the kind of a letter or an err; "Sets with another kind are refused with 12".
unfoldable pub of_kind : ℕ → Option Value → Option Value
of_kind letter (some v) = pick (suits (kind_of_letter letter) v) (some v) none
of_kind letter none = none

abbrev pub all_of : ValueKind → List ValueKind → Bool
all_of k [] = true
all_of k (j ∷ js) = same_kind k j && all_of k js

-- Whether an operator gets the kinds that it wants: "8 to 10 want truths, the others whole numbers"; "Codes 1 to 4, 6, 7 and 11 take two (or
-- one)" floats; "Whole numbers and floats in one operator are a wrong kind".
unfoldable pub wanted : ℕ → List ValueKind → Bool
wanted c ks =
    pick (leb 8 c && leb c 10) (all_of truth-kind ks)
    (pick (eqb c 5) (all_of whole-kind ks)
    (all_of whole-kind ks || all_of real-kind ks))

-- A test wants a truth.
unfoldable pub wanted_test : List ValueKind → Bool
wanted_test ks = all_of truth-kind ks

-- "6 and 7 give a truth", and so do and, or, not; the others a number: a float where all operands are floats and the operator takes them;
-- else a whole number, also "after any wrong kind a number's kind goes on as W". An operator has operands, by test 8.
unfoldable pub given : ℕ → List ValueKind → ValueKind
given c ks = pick (leb 6 c && leb c 10) truth-kind (pick (not (eqb c 5) && all_of real-kind ks) real-kind whole-kind)

-- ---- operands of one kind

-- An operator that gets the kinds it wants gets operands of one kind, which it takes.
pub one-kind : (c : ℕ) (ks : List ValueKind) → wanted c ks ≡ true → (k : ValueKind) × (wanted c (k ∷ []) ≡ true) × (all_of k ks ≡ true)
unfolding wanted
one-kind c ks = go (leb 8 c && leb c 10) (eqb c 5) (all_of truth-kind ks) refl (all_of whole-kind ks) refl (all_of real-kind ks) refl
  where
    go : (t u : Bool) (x : Bool) → all_of truth-kind ks ≡ x → (y : Bool) → all_of whole-kind ks ≡ y → (z : Bool) → all_of real-kind ks ≡ z
        → pick t x (pick u y (y || z)) ≡ true
        → (k : ValueKind) × (pick t (all_of truth-kind (k ∷ [])) (pick u (all_of whole-kind (k ∷ [])) (all_of whole-kind (k ∷ []) || all_of real-kind (k ∷ []))) ≡ true) × (all_of k ks ≡ true)
    go true u x p y q z r h = (truth-kind, refl, p ∙ h)
    go false true x p y q z r h = (whole-kind, refl, q ∙ h)
    go false false x p true q z r h = (whole-kind, refl, q)
    go false false x p false q z r h = (real-kind, refl, r ∙ h)

-- What it gives then is by that kind.
pub given-one : (c : ℕ) (k j : ValueKind) (ks : List ValueKind) → all_of k (j ∷ ks) ≡ true → given c (j ∷ ks) ≡ given c (k ∷ [])
unfolding given
given-one c k j ks h = ap (λ (t : Bool). pick (leb 6 c && leb c 10) truth-kind (pick (not (eqb c 5) && t) real-kind whole-kind)) (reals k j ks h)
  where
    reals : (k j : ValueKind) (ls : List ValueKind) → all_of k (j ∷ ls) ≡ true → all_of real-kind (j ∷ ls) ≡ all_of real-kind (k ∷ [])
    reals whole-kind whole-kind ls e = refl
    reals whole-kind truth-kind ls e = absurd (false≢true e)
    reals whole-kind real-kind ls e = absurd (false≢true e)
    reals truth-kind whole-kind ls e = absurd (false≢true e)
    reals truth-kind truth-kind ls e = refl
    reals truth-kind real-kind ls e = absurd (false≢true e)
    reals real-kind whole-kind ls e = absurd (false≢true e)
    reals real-kind truth-kind ls e = absurd (false≢true e)
    reals real-kind real-kind ls e = e

-- ---- an operator on operands of one kind gives its kind or an err

fit_gives : (z : ℤ) → suits whole-kind (fit_of z) ≡ true
unfolding fit_of
fit_gives z = go (in_range z)
  where
    go : (t : Bool) → suits whole-kind (pick t (Whole z) (Err OutOfRange)) ≡ true
    go true = refl
    go false = refl

divided-gives : (b z : ℤ) → suits whole-kind (divided_by b z) ≡ true
unfolding divided_by
divided-gives b z = go (is_zero b)
  where
    go : (t : Bool) → suits whole-kind (pick t (Err ZeroDivisor) (fit_of z)) ≡ true
    go true = refl
    go false = fit_gives z

real-gives : (x : Float) → suits real-kind (real_of x) ≡ true
unfolding real_of
real-gives x = go (is_real x)
  where
    go : (t : Bool) → suits real-kind (pick t (Real x) (Err OutOfRange)) ≡ true
    go true = refl
    go false = refl

divided-real-gives : (a b : Float) → suits real-kind (divide_real a b) ≡ true
unfolding divide_real
divided-real-gives a b = go (is_zero_real b)
  where
    go : (t : Bool) → suits real-kind (pick t (Err ZeroDivisor) (real_of (div binary32 a b))) ≡ true
    go true = refl
    go false = real-gives (div binary32 a b)

wholes-give : (k : ValueKind) (f : ℤ → ℤ → Value) → ((x y : ℤ) → suits k (f x y) ≡ true) → (a b : Value) → suits k (wholes f a b) ≡ true
unfolding wholes hand_on
wholes-give k f h (Whole x) (Whole y) = h x y
wholes-give k f h (Whole x) (Truth y) = refl
wholes-give k f h (Whole x) (Real y) = refl
wholes-give k f h (Whole x) (Err s) = refl
wholes-give k f h (Truth x) b = refl
wholes-give k f h (Real x) b = refl
wholes-give k f h (Err r) b = refl

-- Two numbers of one kind: f of whole numbers, g of floats; the answer's kind is by that of the operands.
numbers-give : (to : ValueKind → ValueKind) (f : ℤ → ℤ → Value) (g : Float → Float → Value)
    → ((x y : ℤ) → suits (to whole-kind) (f x y) ≡ true) → ((x y : Float) → suits (to real-kind) (g x y) ≡ true)
    → (k : ValueKind) (a b : Value) → suits k a ≡ true → suits k b ≡ true → suits (to k) (numbers f g a b) ≡ true
unfolding numbers hand_on
numbers-give to f g p q whole-kind (Whole x) (Whole y) h i = p x y
numbers-give to f g p q truth-kind (Whole x) (Whole y) h i = absurd (false≢true h)
numbers-give to f g p q real-kind (Whole x) (Whole y) h i = absurd (false≢true h)
numbers-give to f g p q whole-kind (Real x) (Real y) h i = absurd (false≢true h)
numbers-give to f g p q truth-kind (Real x) (Real y) h i = absurd (false≢true h)
numbers-give to f g p q real-kind (Real x) (Real y) h i = q x y
numbers-give to f g p q k (Whole x) (Real y) h i = refl
numbers-give to f g p q k (Real x) (Whole y) h i = refl
numbers-give to f g p q k (Whole x) (Truth y) h i = refl
numbers-give to f g p q k (Real x) (Truth y) h i = refl
numbers-give to f g p q k (Whole x) (Err s) h i = refl
numbers-give to f g p q k (Real x) (Err s) h i = refl
numbers-give to f g p q k (Truth x) b h i = refl
numbers-give to f g p q k (Err r) b h i = refl

beside-err-gives : (d a : Bool) (r : Reason) → suits truth-kind (beside_err d a r) ≡ true
unfolding beside_err
beside-err-gives false false r = refl
beside-err-gives true true r = refl
beside-err-gives false true r = refl
beside-err-gives true false r = refl

logical-gives : (d : Bool) (f : Bool → Bool → Value) → ((x y : Bool) → suits truth-kind (f x y) ≡ true) → (a b : Value) → suits truth-kind (logical d f a b) ≡ true
unfolding logical hand_on
logical-gives d f h (Truth x) (Truth y) = h x y
logical-gives d f h (Truth x) (Err s) = beside-err-gives d x s
logical-gives d f h (Err r) (Truth y) = beside-err-gives d y r
logical-gives d f h (Err r) (Err s) = refl
logical-gives d f h (Whole x) b = refl
logical-gives d f h (Real x) b = refl
logical-gives d f h (Truth x) (Whole y) = refl
logical-gives d f h (Truth x) (Real y) = refl
logical-gives d f h (Err r) (Whole y) = refl
logical-gives d f h (Err r) (Real y) = refl

not_gives : (a : Value) → suits truth-kind (truth not_of a) ≡ true
unfolding truth not_of hand_on_one
not_gives (Truth x) = refl
not_gives (Whole x) = refl
not_gives (Real x) = refl
not_gives (Err r) = refl

-- The kind of the answer, by that of the operands, of the operators that give a number and take floats.
abbrev likewise : ValueKind → ValueKind
likewise whole-kind = whole-kind
likewise truth-kind = whole-kind
likewise real-kind = real-kind

negate-gives : (k : ValueKind) (a : Value) → suits k a ≡ true → suits (likewise k) (number negate_of negate_real a) ≡ true
unfolding number negate_of negate_real hand_on_one
negate-gives whole-kind (Whole x) h = fit_gives (neg_ℤ x)
negate-gives truth-kind (Whole x) h = absurd (false≢true h)
negate-gives real-kind (Whole x) h = absurd (false≢true h)
negate-gives whole-kind (Real x) h = absurd (false≢true h)
negate-gives truth-kind (Real x) h = absurd (false≢true h)
negate-gives real-kind (Real x) h = real-gives (neg x)
negate-gives k (Truth x) h = refl
negate-gives k (Err r) h = refl

given-likewise : (c : ℕ) (k : ValueKind) → leb 6 c && leb c 10 ≡ false → eqb c 5 ≡ false → given c (k ∷ []) ≡ likewise k
unfolding given
given-likewise c whole-kind p q = rw (p, q) refl
given-likewise c truth-kind p q = rw (p, q) refl
given-likewise c real-kind p q = rw (p, q) refl

module _ (c : ℕ) (k : ValueKind) (a b : Value) (h : suits k a ≡ true) (i : suits k b ≡ true) where
  -- The operator of code j, or what the codes behind it have.
  coded : (j : ℕ) (x y : Value) → suits (given j (k ∷ [])) x ≡ true → suits (given c (k ∷ [])) y ≡ true → suits (given c (k ∷ [])) (pick (eqb c j) x y) ≡ true
  coded j x y p others = go (eqb c j) refl
    where
      go : (t : Bool) → eqb c j ≡ t → suits (given c (k ∷ [])) (pick t x y) ≡ true
      go true e = subst (λ (z : ℕ). suits (given z (k ∷ [])) x ≡ true) (sym (eqb-true c j e)) p
      go false e = others

  -- A code that gives a number and takes floats.
  like : (j : ℕ) → leb 6 j && leb j 10 ≡ false → eqb j 5 ≡ false → (x : Value) → suits (likewise k) x ≡ true → suits (given j (k ∷ [])) x ≡ true
  like j p q x e = ap (λ (z : ValueKind). suits z x) (given-likewise j k p q) ∙ e

  pub gives-its-kind : suits (given c (k ∷ [])) (apply c a b) ≡ true
  unfolding apply given add_of subtract_of multiply_of divide_of remainder_of less_of equal_of and_of or_of add_real subtract_real multiply_real less_real equal_real
  gives-its-kind =
      coded 1 _ _ (like 1 refl refl (numbers add_of add_real a b) (numbers-give likewise add_of add_real (λ x y. fit_gives (x +ℤ y)) (λ x y. real-gives (add binary32 x y)) k a b h i))
      (coded 2 _ _ (like 2 refl refl (numbers subtract_of subtract_real a b) (numbers-give likewise subtract_of subtract_real (λ x y. fit_gives (x -ℤ y)) (λ x y. real-gives (sub binary32 x y)) k a b h i))
      (coded 3 _ _ (like 3 refl refl (numbers multiply_of multiply_real a b) (numbers-give likewise multiply_of multiply_real (λ x y. fit_gives (x *ℤ y)) (λ x y. real-gives (mul binary32 x y)) k a b h i))
      (coded 4 _ _ (like 4 refl refl (numbers divide_of divide_real a b) (numbers-give likewise divide_of divide_real (λ x y. divided-gives y (quot_z x y)) divided-real-gives k a b h i))
      (coded 5 _ _ (wholes-give whole-kind remainder_of (λ x y. divided-gives y (rem_z x y)) a b)
      (coded 6 _ _ (numbers-give (λ _. truth-kind) less_of less_real (λ x y. refl) (λ x y. refl) k a b h i)
      (coded 7 _ _ (numbers-give (λ _. truth-kind) equal_of equal_real (λ x y. refl) (λ x y. refl) k a b h i)
      (coded 8 _ _ (logical-gives false and_of (λ x y. refl) a b)
      (coded 9 _ _ (logical-gives true or_of (λ x y. refl) a b)
      (coded 10 _ _ (not_gives a)
      (coded 11 _ _ (like 11 refl refl (number negate_of negate_real a) (negate-gives k a h))
      refl))))))))))

-- ---- an operator that gets the kinds it wants gives no err from a wrong kind

abbrev All-suit : ValueKind → List Value → Type 0
All-suit k [] = Unit {0}
All-suit k (v ∷ vs) = (suits k v ≡ true) × All-suit k vs

abbrev No-err : List Value → Type 0
No-err [] = Unit {0}
No-err (v ∷ vs) = (is_err v ≡ false) × No-err vs

-- Behind the leftmost err nothing is asked.
behind-err : (vs : List Value) (t : Bool) (o : Option Reason) → (No-err vs → t ≡ true) → leftmost vs (pick (not t) (some Other) o) ≡ leftmost vs o
behind-err [] t o f = ap (λ (z : Bool). pick (not z) (some Other) o) (f tt)
behind-err (Err r ∷ vs) t o f = refl
behind-err (Whole z ∷ vs) t o f = behind-err vs t o (λ n. f (refl, n))
behind-err (Truth x ∷ vs) t o f = behind-err vs t o (λ n. f (refl, n))
behind-err (Real x ∷ vs) t o f = behind-err vs t o (λ n. f (refl, n))

-- Values of a kind that are no errs are of the values' case.
all_whole : (vs : List Value) → All-suit whole-kind vs → No-err vs → all is_whole vs ≡ true
all_whole [] s n = refl
all_whole (Whole z ∷ vs) s n = all_whole vs s.1 n.1
all_whole (Truth x ∷ vs) s n = absurd (false≢true s.0)
all_whole (Real x ∷ vs) s n = absurd (false≢true s.0)
all_whole (Err r ∷ vs) s n = absurd (false≢true (sym n.0))

all-truth : (vs : List Value) → All-suit truth-kind vs → No-err vs → all is_truth vs ≡ true
all-truth [] s n = refl
all-truth (Truth x ∷ vs) s n = all-truth vs s.1 n.1
all-truth (Whole z ∷ vs) s n = absurd (false≢true s.0)
all-truth (Real x ∷ vs) s n = absurd (false≢true s.0)
all-truth (Err r ∷ vs) s n = absurd (false≢true (sym n.0))

all-real : (vs : List Value) → All-suit real-kind vs → No-err vs → all is_float vs ≡ true
all-real [] s n = refl
all-real (Real x ∷ vs) s n = all-real vs s.1 n.1
all-real (Whole z ∷ vs) s n = absurd (false≢true s.0)
all-real (Truth x ∷ vs) s n = absurd (false≢true s.0)
all-real (Err r ∷ vs) s n = absurd (false≢true (sym n.0))

module _ (c : ℕ) where
  none-wrong : (k : ValueKind) → wanted c (k ∷ []) ≡ true → (vs : List Value) → All-suit k vs → No-err vs → all_wanted c vs ≡ true
  unfolding wanted
  none-wrong whole-kind w vs s n = go (leb 8 c && leb c 10) (eqb c 5) (all is_whole vs) (all_whole vs s n) w
    where
      go : (t u x : Bool) → x ≡ true → pick t false (pick u true true) ≡ true → pick t (all is_truth vs) (pick u x (x || all is_float vs)) ≡ true
      go true u x e h = absurd (false≢true h)
      go false true x e h = e
      go false false x e h = rw e refl
  none-wrong truth-kind w vs s n = go (leb 8 c && leb c 10) (eqb c 5) w
    where
      go : (t u : Bool) → pick t true (pick u false false) ≡ true → pick t (all is_truth vs) (pick u (all is_whole vs) (all is_whole vs || all is_float vs)) ≡ true
      go true u h = all-truth vs s n
      go false true h = absurd (false≢true h)
      go false false h = absurd (false≢true h)
  none-wrong real-kind w vs s n = go (leb 8 c && leb c 10) (eqb c 5) (all is_whole vs) (all is_float vs) (all-real vs s n) w
    where
      go : (t u x y : Bool) → y ≡ true → pick t false (pick u false true) ≡ true → pick t (all is_truth vs) (pick u x (x || y)) ≡ true
      go true u x y e h = absurd (false≢true h)
      go false true x y e h = absurd (false≢true h)
      go false false true y e h = refl
      go false false false y e h = e

  -- The reason of such an operator's answer (Reasons: answer-reason) is what it is without the sentence on wrong kinds.
  pub kinds-wanted : leb 1 c && leb c 11 ≡ true → (k : ValueKind) → wanted c (k ∷ []) ≡ true → (a b : Value) → suits k a ≡ true → suits k b ≡ true
      → reason_of c a b ≡ pick (decided c a b) none (leftmost (taken c a b) (of_wanted c a b))
  unfolding reason_of
  kinds-wanted code k w a b h i =
      ap (λ (t : Bool). pick (not t) (some Other) (pick (decided c a b) none (leftmost (taken c a b) (pick (not (all_wanted c (taken c a b))) (some Other) (of_wanted c a b))))) code
      ∙ ap (λ (o : Option Reason). pick (decided c a b) none o)
      (behind-err (taken c a b) (all_wanted c (taken c a b)) (of_wanted c a b) (none-wrong k w (taken c a b) (both (eqb (operands c) 1))))
    where
      both : (one : Bool) → All-suit k (pick one (a ∷ []) (a ∷ b ∷ []))
      both true = (h, tt)
      both false = (h, (i, tt))

-- ---- a test that gets a truth or an err

abbrev Is-neither : Sense → Type 0
Is-neither True = ⊥
Is-neither False = ⊥
Is-neither Neither = Unit {0}

-- "a test that is neither truth nor err": where the test is of its kind and is neither true nor false, it is an err.
pub test-wanted : (v : Value) → suits truth-kind v ≡ true → sense v ≡ Neither → is_err v ≡ true
test-wanted (Whole z) h e = absurd (false≢true h)
test-wanted (Real x) h e = absurd (false≢true h)
test-wanted (Truth true) h e = absurd (subst Is-neither (sym e) tt)
test-wanted (Truth false) h e = absurd (subst Is-neither (sym e) tt)
test-wanted (Err r) h e = refl
