-- What a value is as the control of a gate or the test of an if: true, false or neither; and the plain err, the only one that anything
-- but an operator makes of values in range. Outside this crate only the program's text, the constants of rows and the two truths of the gates name a case
-- of a value, so a further case changes few crates. Assumes nothing.
use Rattle.std.specs.Prelude.{◌≡◌, refl, true, false}
use Rattle.std.proofs.Common.{sym, subst}
use Rattle.value.specs.declared.Reason.TheVariants.{Other}
use Rattle.value.specs.declared.Value.{Value}
use Rattle.value.specs.declared.Value.TheVariants.{Whole, Truth, Err, Real}
use Rattle.value.specs.declared.Sense.{Sense}
use Rattle.value.specs.declared.Sense.TheVariants.{True, False, Neither}
use Rattle.value.specs.Bytes.{word_of}

-- "E all else"
abbrev pub err : Value
err = Err Other

abbrev pub sense : Value → Sense
sense (Whole z) = Neither
sense (Truth true) = True
sense (Truth false) = False
sense (Real x) = Neither
sense (Err r) = Neither

abbrev Is-true : Sense → Type 0
Is-true True = Unit {0}
Is-true False = ⊥
Is-true Neither = ⊥

abbrev Is-false : Sense → Type 0
Is-false True = ⊥
Is-false False = Unit {0}
Is-false Neither = ⊥

-- Only one value is true and only one false: a gate that hands on a true control hands on this value.
pub only-one-true : (v : Value) → sense v ≡ True → v ≡ Truth true
only-one-true (Whole z) e = absurd (subst Is-true (sym e) tt)
only-one-true (Truth true) e = refl
only-one-true (Truth false) e = absurd (subst Is-true (sym e) tt)
only-one-true (Real x) e = absurd (subst Is-true (sym e) tt)
only-one-true (Err r) e = absurd (subst Is-true (sym e) tt)

pub only-one-false : (v : Value) → sense v ≡ False → v ≡ Truth false
only-one-false (Whole z) e = absurd (subst Is-false (sym e) tt)
only-one-false (Truth true) e = absurd (subst Is-false (sym e) tt)
only-one-false (Truth false) e = refl
only-one-false (Real x) e = absurd (subst Is-false (sym e) tt)
only-one-false (Err r) e = absurd (subst Is-false (sym e) tt)

-- The word of err, which the code has as a constant.
pub word-of-err : word_of err ≡ 3
unfolding word_of
word-of-err = refl
