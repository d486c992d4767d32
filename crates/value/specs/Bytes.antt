-- The byte form of a value, for tokens in memory and for the sets that the firmware lends: a tag byte and four bytes,
-- lowest first. Document 01, "Values and operators", gives the values, document 02, Jobs 5 and 9, the reasons of errs and the floats;
-- "Running" and "Said by .." ask of 12 and 31 that a field or token outside its range is refused, and `value_of` is the definition of that
-- range. Assumes nothing.
use Rattle.std.specs.Prelude.{ℕ, ◌+◌, ◌*◌, ◌/◌, ◌%◌, ◌<◌, ◌≡◌, Bool, true, false, ◌&&◌, List, [], ◌∷◌, eqb, ltb, get_or, Some, None}
use Rattle.std.proofs.Math.Option.{Option, some, none}
use Rattle.std.specs.Int.Signed.{mag}
use Rattle.std.specs.Float.{binary32}
use Rattle.std.specs.Float.Ieee.{of_bits, to_bits}
use Rattle.std.specs.Float.Ieee.Scale.{finite}
use Rattle.std.proofs.lemmas.List.Edits.{sets}
use Rattle.std.specs.Int.{w32}
use Rattle.std.proofs.Common.{to_z, of_z}
use Rattle.std.specs.Prelude as std
use Rattle.value.specs.declared.Reason.{Reason}
use Rattle.value.specs.declared.Reason.TheVariants.{ZeroDivisor, OutOfRange, Other}
use Rattle.value.specs.declared.Value.{Value}
use Rattle.value.specs.declared.Value.TheVariants.{Whole, Truth, Err, Real}
use Rattle.value.specs.Operators.{pick, is_real, real_of}

-- A whole number of a value lies in the range, and a float is a finite number; what the machine holds always does.
abbrev pub InRange : Value → Type 0
InRange (Whole z) = mag z < 2147483648
InRange (Truth b) = Unit
InRange (Real x) = is_real x ≡ true
InRange (Err r) = Unit

-- Tag 1 a whole number in 32 bits, two's complement; tag 2 a truth, 0 or 1; tag 3 err, its reason: 0 all else, 1 zero
-- divisor, 2 out of range. A reason is no tag of its own, so whoever asks whether a value is an err looks at the tag alone.
-- Tag 4 a float, its bit pattern.
abbrev pub tag_of : Value → ℕ
tag_of (Whole z) = 1
tag_of (Truth b) = 2
tag_of (Err r) = 3
tag_of (Real x) = 4

abbrev pub bit_of : Bool → ℕ
bit_of true = 1
bit_of false = 0

abbrev pub reason_bits : Reason → ℕ
reason_bits Other = 0
reason_bits ZeroDivisor = 1
reason_bits OutOfRange = 2

abbrev pub bits_of : Value → ℕ
bits_of (Whole z) = of_z w32 z
bits_of (Truth b) = bit_of b
bits_of (Err r) = reason_bits r
bits_of (Real x) = to_bits binary32 x

-- A float that is no finite number, which no operator, constant or field gives, counts as V.
abbrev pub settled : Value → Value
settled (Whole z) = Whole z
settled (Truth b) = Truth b
settled (Err r) = Err r
settled (Real x) = real_of x

-- The five bytes as one number below 2^40, lowest first. The word 0 is no value.
unfoldable pub word_of : Value → ℕ
unfolding real_of
word_of v = tag_of (settled v) + 256 * bits_of (settled v)

unfoldable pub whole_of : ℕ → Option Value
whole_of bits = pick (ltb bits 4294967296) (some (Whole (to_z w32 bits))) none

unfoldable pub truth_of : ℕ → Option Value
truth_of bits = pick (eqb bits 0) (some (Truth false)) (pick (eqb bits 1) (some (Truth true)) none)

unfoldable pub err_of : ℕ → Option Value
err_of bits =
    pick (eqb bits 0) (some (Err Other))
    (pick (eqb bits 1) (some (Err ZeroDivisor))
    (pick (eqb bits 2) (some (Err OutOfRange))
    none))

-- "Patterns that are not finite are refused"
unfoldable pub float_of : ℕ → Option Value
float_of bits = pick (ltb bits 4294967296 && finite (of_bits binary32 bits)) (some (Real (of_bits binary32 bits))) none

-- Which words are values: any other tag, a truth that is neither, an err of no reason, a float that is not finite are none.
unfoldable pub value_of : ℕ → Option Value
unfolding whole_of truth_of err_of float_of
value_of w =
    pick (eqb (w % 256) 1) (whole_of (w / 256))
    (pick (eqb (w % 256) 2) (truth_of (w / 256))
    (pick (eqb (w % 256) 3) (err_of (w / 256))
    (pick (eqb (w % 256) 4) (float_of (w / 256))
    none)))

abbrev pub is_some : Option Value → Bool
is_some (some v) = true
is_some none = false

-- the code's answer for an optional value
abbrev pub decoded : Option Value → std.Option Value
decoded (some v) = Some v
decoded none = None

-- the word of a token, 0 where there is none
abbrev pub word_or : std.Option Value → ℕ
word_or (Some v) = word_of v
word_or None = 0

unfoldable pub word_bytes : ℕ → List ℕ
word_bytes w = w % 256 ∷ w / 256 % 256 ∷ w / 65536 % 256 ∷ w / 16777216 % 256 ∷ w / 4294967296 % 256 ∷ []

unfoldable pub bytes_of : Value → List ℕ
unfolding word_of word_bytes
bytes_of v = word_bytes (word_of v)

-- the word in the five bytes from a place on
unfoldable pub word_at : List ℕ → ℕ → ℕ
word_at l at =
    get_or l at 0 + 256 * get_or l (at + 1) 0 + 65536 * get_or l (at + 2) 0 + 16777216 * get_or l (at + 3) 0 + 4294967296 * get_or l (at + 4) 0

-- the bytes with a word written from a place on, all others as they were
unfoldable pub stored : List ℕ → ℕ → ℕ → List ℕ
unfolding word_bytes
stored l at w = sets l at (word_bytes w)
