-- A number has one text (document 01: "decimal fields .. right-justified with spaces, no leading zeros"): a field that is well formed is its number
-- as it is printed, and a well-formed row with its line feed is the text of its five numbers. Assumes nothing.
use Rattle.std.specs.Prelude.{ℕ, zero, suc, ◌+◌, ◌*◌, ◌-◌, ◌/◌, ◌%◌, ◌≤◌, ◌≡◌, ◌⊎◌, Bool, true, false, cond, ◌&&◌, List, [], ◌∷◌, ◌++◌, eqb, leb, length, get_or, take, drop, replicate, Some}
use Rattle.formula.specs.Sheet.{is_digit, digits_of, zero_of, field_of, field_text, number_in}
use Rattle.formula.specs.SheetLaws.{line_fields}
use Rattle.formula.specs.Tests.{well_formed}
use Rattle.text.specs.Printed.{shown, number_field}

-- Digits behind the number w, of which b is the last.
pub record LastDigit (w : ℕ) (s : List ℕ) (b v : ℕ) : Type 0 where
  pub before : ℕ
  pub front : digits_of w s ≡ Some before
  pub grown : w ≤ before
  pub digit : (48 ≤ b) × (b ≤ 57)
  pub value : v ≡ before * 10 + (b - 48)

-- A well-formed field is spaces and one digit, or a well-formed field of a number that is not 0 and one digit more.
pub record Ending (s : List ℕ) (b v : ℕ) : Type 0 where
  pub digit : (48 ≤ b) × (b ≤ 57)
  pub front : ((s ≡ replicate (length s) 32) × (v ≡ b - 48)) ⊎ ((n : ℕ) × (field_of s ≡ Some n) × (1 ≤ n) × (v ≡ n * 10 + (b - 48)))
