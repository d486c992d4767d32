-- What is printed is read back as itself (document 01, "Program and readings"): a number of a six-character field by the reading of the sheet, whose fields
-- are written alike, a value of an 11-character field by the reading of set lines, and lines of results as a set file. Assumes nothing.
use Prim.Native.Nat.{ℕ, zero, suc, ◌+◌, ◌*◌, ◌-◌, ◌^◌, ◌≤◌, ◌<◌}
use Rattle.std.specs.Prelude.{◌≡◌, Bool, true, false, get_or, Some, None}
use mathlib.Core.List.{List, [], ◌∷◌, ◌++◌}
use Rattle.std.proofs.Math.ListN.{length}
use Rattle.value.specs.declared.Value.{Value}
use Rattle.value.specs.Senses.{err}
use Rattle.value.specs.Kinds.{suits, kind_of_letter}
use Rattle.value.specs.Bytes.{InRange, bytes_of}
use Rattle.formula.specs.Results.{Field}
use Rattle.formula.specs.Sheet.{digits_of}
use Rattle.text.specs.Printed.{led, shown, value_field}

-- ---- one more digit behind a number
abbrev pub onward : ℕ → Field → Field
onward d (Some n) = Some (n * 10 + d)
onward d None = None

-- ---- a printed number: what stands in front, a first digit that is not 0, and the rest
-- The numbers that fit w characters; where the character before the number must stand, it is one of them.
abbrev pub room : Bool → ℕ → ℕ
room false w = 10 ^ w
room true zero = 0
room true (suc w) = 10 ^ w

abbrev pub Led : Bool → ℕ → Type 0
Led false k = Unit
Led true k = 0 < k

pub record Written (stands : Bool) (before w n : ℕ) : Type 0 where
  pub ahead : ℕ
  pub first : ℕ
  pub rest : List ℕ
  pub text : shown before w n ≡ led before ahead ++ (first ∷ rest)
  pub lead : Led stands ahead
  pub low : 49 ≤ first
  pub high : first ≤ 57
  pub number : digits_of (first - 48) rest ≡ Some n

-- ---- a line of values
-- The values' fields, and their bytes as push takes them.
unfoldable pub printed : List Value → List ℕ
printed [] = []
printed (v ∷ vs) = value_field v ++ printed vs

unfoldable pub spelled : List Value → List ℕ
spelled [] = []
spelled (v ∷ vs) = bytes_of v ++ spelled vs

unfoldable pub printed_line : List Value → List ℕ
unfolding printed
printed_line vs = printed vs ++ (10 ∷ [])

abbrev pub AllInRange : List Value → Type 0
AllInRange [] = Unit
AllInRange (v ∷ vs) = InRange v × AllInRange vs

-- Values of these kinds, or errs.
pub record Suited (kinds : List ℕ) (vs : List Value) : Type 0 where
  pub count : length vs ≡ length kinds
  pub suit : (j : ℕ) → j < length vs → suits (kind_of_letter (get_or kinds j 0)) (get_or vs j err) ≡ true

-- ---- a file of such lines
unfoldable pub printed_file : List (List Value) → List ℕ
unfolding printed_line
printed_file [] = []
printed_file (vs ∷ vss) = printed_line vs ++ printed_file vss

-- Sets of values of these kinds, or errs.
abbrev pub Sets : List ℕ → List (List Value) → Type 0
Sets kinds [] = Unit
Sets kinds (vs ∷ vss) = Suited kinds vs × (AllInRange vs × Sets kinds vss)
