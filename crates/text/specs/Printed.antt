-- What the bench program prints (document 01, "Program and readings", and document 02, Jobs 5 and 9): numbers in six-character fields, "an 11-character field a result",
-- "A refusal prints its number and row .. in two six-character fields". Fields are right-justified with spaces. Assumes nothing.
use Rattle.std.specs.Prelude.{ℕ, zero, suc, ◌+◌, ◌*◌, ◌/◌, ◌%◌, true, false, List, [], ◌∷◌, ◌++◌, pos, negsuc, replicate, ltb}
use Rattle.std.proofs.Math.Option.{Option, some, none}
use Rattle.std.specs.Float.{binary32}
use Rattle.std.specs.Float.Ieee.{to_bits}
use Rattle.value.specs.declared.Reason.{Reason}
use Rattle.value.specs.declared.Reason.TheVariants.{ZeroDivisor, OutOfRange, Other}
use Rattle.value.specs.declared.Value.{Value}
use Rattle.value.specs.declared.Value.TheVariants.{Whole, Truth, Err, Real}
use Rattle.value.specs.Operators.{pick}
use Rattle.value.specs.Senses.{err}
use Rattle.value.specs.Bytes.{value_of, word_at}

-- What stands in front of a number's first digit: spaces, and last a character: a space, "-" or R.
unfoldable pub led : ℕ → ℕ → List ℕ
led before zero = []
led before (suc w) = replicate w 32 ++ (before ∷ [])

-- A number right-justified in w characters behind that character: its last digit, and before it the rest, if there is any.
unfoldable pub shown : ℕ → ℕ → ℕ → List ℕ
unfolding led
shown before zero n = []
shown before (suc w) n = pick (ltb n 10) (led before w) (shown before w (n / 10)) ++ ((48 + n % 10) ∷ [])

-- "six-character fields"
unfoldable pub number_field : ℕ → List ℕ
unfolding shown
number_field n = shown 32 6 n

unfoldable pub letter_field : ℕ → List ℕ
letter_field c = replicate 10 32 ++ (c ∷ [])

-- Document 02, Job 5: "An err now has a reason: Z zero divisor, V answer out of range, E all else"
abbrev pub letter_of : Reason → ℕ
letter_of ZeroDivisor = 90
letter_of OutOfRange = 86
letter_of Other = 69

-- "one 11-character field a value, right-justified .. a decimal number as in the sheet, with "-" for negatives (no -0), or T, F, E"; "Set and
-- result fields may hold Z and V"
unfoldable pub value_field : Value → List ℕ
unfolding shown letter_field
value_field (Whole (pos n)) = shown 32 11 n
value_field (Whole (negsuc n)) = shown 45 11 (suc n)
value_field (Truth true) = letter_field 84
value_field (Truth false) = letter_field 70
value_field (Err r) = letter_field (letter_of r)
-- "R and directly after it the bit pattern in decimal without leading zeros, right-justified together"; what is printed was read by `value_of`, so it
-- is finite
value_field (Real x) = shown 82 11 (to_bits binary32 x)

-- A word of the byte form; one that is no value is never handed out, and shows as the plain err.
unfoldable pub option_field : Option Value → List ℕ
unfolding value_field
option_field (some v) = value_field v
option_field none = value_field err

unfoldable pub word_field : ℕ → List ℕ
unfolding option_field
word_field w = option_field (value_of w)

-- "a line for each set with an 11-character field a result": the first k values of a result set, five bytes each, and a line feed.
unfoldable pub result_fields : ℕ → List ℕ → List ℕ
unfolding word_field
result_fields zero r = []
result_fields (suc k) r = result_fields k r ++ word_field (word_at r (5 * k))

unfoldable pub result_line : ℕ → List ℕ → List ℕ
unfolding result_fields
result_line k r = result_fields k r ++ (10 ∷ [])

-- "prints inputs, results and sets in three six-character fields"
unfoldable pub head_line : ℕ → ℕ → ℕ → List ℕ
unfolding number_field
head_line inputs results sets = number_field inputs ++ (number_field results ++ (number_field sets ++ (10 ∷ [])))

-- "A refusal prints its number and row (12: line) in two six-character fields."
unfoldable pub refusal_line : ℕ → ℕ → List ℕ
unfolding number_field
refusal_line number row = number_field number ++ (number_field row ++ (10 ∷ []))
