-- A value field of a set line (document 01, "Program and readings"): "one 11-character field a value, right-justified ..: a decimal number as in the
-- sheet, with "-" for negatives (no -0), or T, F, E"; document 02, Job 5: "An err now has a reason: Z zero divisor, V answer out of range, E all else",
-- "Set and result fields may hold Z and V"; Job 9: "In files the field is R and directly after it the bit pattern in decimal without leading
-- zeros, right-justified together." A number outside the values' range is a bad field. Assumes nothing.
use Rattle.std.specs.Prelude.{ℕ, zero, suc, ◌-◌, true, false, cond, ◌&&◌, List, [], ◌∷◌, pos, negsuc, eqb, leb, Some, None}
use Rattle.std.proofs.Math.Option.{Option, some, none}
use Rattle.value.specs.declared.Reason.TheVariants.{ZeroDivisor, OutOfRange, Other}
use Rattle.value.specs.declared.Value.{Value}
use Rattle.value.specs.declared.Value.TheVariants.{Whole, Truth, Err}
use Rattle.value.specs.Operators.{pick}
use Rattle.value.specs.Bytes.{word_of, float_of}
use Rattle.formula.specs.Results.{Field}
use Rattle.formula.specs.Sheet.{digits_of, field_of}

-- "-2,147,483,648 to 2,147,483,647"
unfoldable pub positive : Field → Option Value
positive (Some n) = pick (leb n 2147483647) (some (Whole (pos n))) none
positive None = none

unfoldable pub negative : Field → Option Value
negative (Some zero) = none
negative (Some (suc n)) = pick (leb n 2147483647) (some (Whole (negsuc n))) none
negative None = none

-- The digits behind a "-": as in the sheet, and not 0.
unfoldable pub behind_minus : List ℕ → Option Value
unfolding negative digits_of
behind_minus [] = none
behind_minus (b ∷ s) = cond (leb 49 b && leb b 57) (negative (digits_of (b - 48) s)) none

-- "Patterns that are not finite are refused with 12": the number is that of a finite float's 32 bits.
unfoldable pub patterned : Field → Option Value
patterned (Some n) = float_of n
patterned None = none

-- The digits behind an R: "directly after it", as in the sheet.
unfoldable pub behind_r : List ℕ → Option Value
unfolding patterned field_of
behind_r [] = none
behind_r (b ∷ s) = cond (eqb b 32) none (patterned (field_of (b ∷ s)))

-- A letter is the last character.
unfoldable pub alone : List ℕ → Value → Option Value
alone [] v = some v
alone (b ∷ s) v = none

unfoldable pub field_value : List ℕ → Option Value
unfolding behind_minus behind_r alone positive field_of
field_value [] = none
field_value (b ∷ s) =
    cond (eqb b 32) (field_value s)
    (cond (eqb b 84) (alone s (Truth true))
    (cond (eqb b 70) (alone s (Truth false))
    (cond (eqb b 69) (alone s (Err Other))
    (cond (eqb b 90) (alone s (Err ZeroDivisor))
    (cond (eqb b 86) (alone s (Err OutOfRange))
    (cond (eqb b 82) (behind_r s)
    (cond (eqb b 45) (behind_minus s)
    (positive (field_of (b ∷ s))))))))))

-- The word of a value's byte form; 0 for none.
abbrev pub word_by : Option Value → ℕ
word_by (some v) = word_of v
word_by none = 0
