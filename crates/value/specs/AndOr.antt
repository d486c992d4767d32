-- And, or beside an err: document 02, Job 2, as laws of `apply`, each for both codes and both orders of the operands.
-- Together they speak of every pair of operands, Job 9's floats among them, and name each err by its reason, as Job 5 asks. Assumes nothing.
use Rattle.std.specs.Prelude.{ℕ, ◌≡◌, refl, Bool, true, false, ◌&&◌, ◌||◌}
use Rattle.value.specs.declared.Reason.{Reason}
use Rattle.value.specs.declared.Reason.TheVariants.{Other}
use Rattle.value.specs.declared.Value.{Value}
use Rattle.value.specs.declared.Value.TheVariants.{Whole, Truth, Err, Real}
use Rattle.value.specs.Operators.{reason_or, apply}

pub data Connective : Type 0 where
  and or : Connective

-- "8 and, 9 or"
abbrev pub code : Connective → ℕ
code and = 8
code or = 9

-- The truth that decides beside an err.
abbrev pub deciding : Connective → Bool
deciding and = false
deciding or = true

abbrev pub combined : Connective → Bool → Bool → Bool
combined and a b = a && b
combined or a b = a || b

abbrev pub TruthOrErr : Value → Type 0
TruthOrErr (Truth a) = Unit {0}
TruthOrErr (Err r) = Unit {0}
TruthOrErr (Whole z) = ⊥
TruthOrErr (Real x) = ⊥

abbrev pub Number : Value → Type 0
Number (Whole z) = Unit {0}
Number (Real x) = Unit {0}
Number (Truth a) = ⊥
Number (Err r) = ⊥

abbrev pub NoErr : Value → Type 0
NoErr (Whole z) = Unit {0}
NoErr (Real x) = Unit {0}
NoErr (Truth a) = Unit {0}
NoErr (Err r) = ⊥

-- The two operands give r, in either order.
abbrev pub Give : Connective → Value → Value → Value → Type 0
Give o a b r = (apply (code o) a b ≡ r) × (apply (code o) b a ≡ r)

-- "false and err is false, true or err is true, whichever side the err stands": and beside a truth, as ever.
pub decides : (o : Connective) (v : Value) → TruthOrErr v → Give o (Truth (deciding o)) v (Truth (deciding o))
unfolding apply
decides and (Truth true) h = (refl, refl)
decides and (Truth false) h = (refl, refl)
decides and (Err r) h = (refl, refl)
decides or (Truth true) h = (refl, refl)
decides or (Truth false) h = (refl, refl)
decides or (Err r) h = (refl, refl)
decides and (Whole _) h = elim h [ ]
decides and (Real _) h = elim h [ ]
decides or (Whole _) h = elim h [ ]
decides or (Real _) h = elim h [ ]

-- "Both operands must still be truths or err; a whole number gives err", and a float: also beside the truth that decides. Beside an err:
-- `undecided`.
pub number-among : (o : Connective) (n v : Value) → Number n → NoErr v → Give o n v (Err Other)
unfolding apply
number-among and (Whole z) (Truth a) g h = (refl, refl)
number-among and (Whole z) (Whole y) g h = (refl, refl)
number-among and (Whole z) (Real y) g h = (refl, refl)
number-among and (Real x) (Truth a) g h = (refl, refl)
number-among and (Real x) (Whole y) g h = (refl, refl)
number-among and (Real x) (Real y) g h = (refl, refl)
number-among or (Whole z) (Truth a) g h = (refl, refl)
number-among or (Whole z) (Whole y) g h = (refl, refl)
number-among or (Whole z) (Real y) g h = (refl, refl)
number-among or (Real x) (Truth a) g h = (refl, refl)
number-among or (Real x) (Whole y) g h = (refl, refl)
number-among or (Real x) (Real y) g h = (refl, refl)
number-among and (Whole z) (Err _) g h = elim h [ ]
number-among and (Truth _) v g h = elim g [ ]
number-among and (Err _) v g h = elim g [ ]
number-among and (Real x) (Err _) g h = elim h [ ]
number-among or (Whole z) (Err _) g h = elim h [ ]
number-among or (Truth _) v g h = elim g [ ]
number-among or (Err _) v g h = elim g [ ]
number-among or (Real x) (Err _) g h = elim h [ ]

-- "Otherwise an err operand of codes 8 and 9 still gives err": beside every value but the truth that decides, and the leftmost of two.
pub undecided : (o : Connective) (r : Reason) (v : Value) → (v ≡ Truth (deciding o) → ⊥)
    → (apply (code o) (Err r) v ≡ Err r) × (apply (code o) v (Err r) ≡ Err (reason_or v r))
unfolding apply
undecided and r (Truth true) h = (refl, refl)
undecided and r (Truth false) h = absurd (h refl)
undecided and r (Whole z) h = (refl, refl)
undecided and r (Real x) h = (refl, refl)
undecided and r (Err s) h = (refl, refl)
undecided or r (Truth true) h = absurd (h refl)
undecided or r (Truth false) h = (refl, refl)
undecided or r (Whole z) h = (refl, refl)
undecided or r (Real x) h = (refl, refl)
undecided or r (Err s) h = (refl, refl)

-- Two truths give what they gave.
pub two-truths : (o : Connective) (a b : Bool) → apply (code o) (Truth a) (Truth b) ≡ Truth (combined o a b)
unfolding apply
two-truths and a b = refl
two-truths or a b = refl
