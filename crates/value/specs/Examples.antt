-- Outcomes that hold the definitions to the papers, each kind one list with one proof: of operators, which document 01,
-- "Values and operators", states or whose words decide them at the ends of the range, of and, or every pair of truths and
-- errs, which document 02, Job 2, decides, of errs by their reasons, Job 5, and of floats by their bit patterns, Job 9; and of byte forms.
-- Assumes nothing.
use Rattle.std.specs.Prelude.{ℕ, ◌+◌, ◌*◌, ◌≡◌, refl, true, false, List, [], ◌∷◌, map, pos, negsuc}
use Rattle.std.proofs.Math.Option.{some, none}
use Rattle.std.specs.Float.{binary32}
use Rattle.std.specs.Float.Ieee.{fits, round, add, sub, mul, div, neg, lt, eq, of_bits, to_bits}
use Rattle.value.specs.declared.Reason.TheVariants.{ZeroDivisor, OutOfRange, Other}
use Rattle.value.specs.declared.Value.{Value}
use Rattle.value.specs.declared.Value.TheVariants.{Whole, Truth, Err, Real}
use Rattle.value.specs.declared.ValueKind.TheVariants.{Whole as whole-kind, Truth as truth-kind, Real as real-kind}
use Rattle.value.specs.Operators.{apply, real_of}
use Rattle.value.specs.Bytes.{bytes_of, value_of, word_at}
use Rattle.value.specs.Constants.{thousandths}
use Rattle.value.specs.Kinds.{given}

pub record Case : Type 0 where
  pub code : ℕ
  pub first : Value
  pub second : Value
  pub gives : Value

abbrev at : ℕ → Value → Value → Value → Case
at c a b r = record { code = c; first = a; second = b; gives = r }

-- a whole number that is not negative, and the negative -(n + 1)
abbrev n : ℕ → Value
n k = Whole (pos k)

abbrev minus : ℕ → Value
minus k = Whole (negsuc k)

abbrev least : Value
least = Whole (negsuc 2147483647)

abbrev greatest : Value
greatest = Whole (pos 2147483647)

-- the errs by their letters
abbrev err_e : Value
err_e = Err Other

abbrev err_z : Value
err_z = Err ZeroDivisor

abbrev err_v : Value
err_v = Err OutOfRange

abbrev pub cases : List Case
cases =
    at 1 (n 2) (n 3) (n 5)
    ∷ at 1 greatest (n 1) err_v
    ∷ at 1 least (minus 0) err_v
    ∷ at 1 greatest least (minus 0)
    ∷ at 2 (n 2) (n 3) (minus 0)
    ∷ at 2 least (n 1) err_v
    ∷ at 2 greatest (minus 0) err_v
    ∷ at 2 (minus 0) least greatest
    ∷ at 3 (minus 6) (n 6) (minus 41)
    ∷ at 3 (n 65536) (n 32768) err_v
    ∷ at 3 (n 65536) (minus 32767) least
    ∷ at 3 (n 65536) (minus 32768) err_v
    ∷ at 3 least (minus 0) err_v
    ∷ at 4 (minus 6) (n 2) (minus 2)
    ∷ at 4 (n 7) (minus 1) (minus 2)
    ∷ at 4 (n 1) (n 0) err_z
    ∷ at 4 least (minus 0) err_v
    ∷ at 4 least (n 1) least
    ∷ at 5 (minus 6) (n 2) (minus 0)
    ∷ at 5 (n 7) (minus 1) (n 1)
    ∷ at 5 (n 1) (n 0) err_z
    ∷ at 5 least (minus 0) (n 0)
    ∷ at 6 least greatest (Truth true)
    ∷ at 6 (n 3) (n 3) (Truth false)
    ∷ at 6 (minus 1) (minus 0) (Truth true)
    ∷ at 6 (Truth false) (Truth true) err_e
    ∷ at 7 (minus 3) (minus 3) (Truth true)
    ∷ at 7 (n 3) (minus 3) (Truth false)
    ∷ at 7 (Truth true) (Truth true) err_e
    ∷ at 8 (Truth true) (Truth true) (Truth true)
    ∷ at 8 (Truth true) (Truth false) (Truth false)
    ∷ at 8 (Truth true) err_e err_e
    ∷ at 8 (Truth false) (Truth true) (Truth false)
    ∷ at 8 (Truth false) (Truth false) (Truth false)
    ∷ at 8 (Truth false) err_e (Truth false)
    ∷ at 8 err_e (Truth true) err_e
    ∷ at 8 err_e (Truth false) (Truth false)
    ∷ at 8 err_e err_e err_e
    ∷ at 8 (n 1) (Truth false) err_e
    ∷ at 8 (Truth false) (n 0) err_e
    ∷ at 8 err_e (n 1) err_e
    ∷ at 8 (n 0) (Truth true) err_e
    ∷ at 9 (Truth true) (Truth true) (Truth true)
    ∷ at 9 (Truth true) (Truth false) (Truth true)
    ∷ at 9 (Truth true) err_e (Truth true)
    ∷ at 9 (Truth false) (Truth true) (Truth true)
    ∷ at 9 (Truth false) (Truth false) (Truth false)
    ∷ at 9 (Truth false) err_e err_e
    ∷ at 9 err_e (Truth true) (Truth true)
    ∷ at 9 err_e (Truth false) err_e
    ∷ at 9 err_e err_e err_e
    ∷ at 9 (n 1) (Truth true) err_e
    ∷ at 9 (Truth true) (n 0) err_e
    ∷ at 9 err_e (n 1) err_e
    ∷ at 9 (n 0) (Truth false) err_e
    ∷ at 10 (Truth true) err_e (Truth false)
    ∷ at 10 (n 0) (n 0) err_e
    ∷ at 11 (n 5) (Truth true) (minus 4)
    ∷ at 11 (n 0) err_e (n 0)
    ∷ at 11 least err_e err_v
    ∷ at 11 greatest err_e (minus 2147483646)
    ∷ at 11 err_e (n 1) err_e
    ∷ at 1 err_z err_v err_z
    ∷ at 1 err_v err_z err_v
    ∷ at 1 err_e err_z err_e
    ∷ at 1 (n 1) err_v err_v
    ∷ at 1 (Truth true) err_z err_z
    ∷ at 1 err_z (Truth true) err_z
    ∷ at 1 (Truth true) (n 1) err_e
    ∷ at 3 err_v (n 0) err_v
    ∷ at 4 (Truth true) (n 0) err_e
    ∷ at 4 err_v (n 0) err_v
    ∷ at 5 (Truth true) (n 0) err_e
    ∷ at 5 (n 0) (n 0) err_z
    ∷ at 6 (n 1) err_z err_z
    ∷ at 7 err_v err_v err_v
    ∷ at 8 (Truth false) err_z (Truth false)
    ∷ at 8 err_v (Truth false) (Truth false)
    ∷ at 8 (Truth true) err_z err_z
    ∷ at 8 err_z (Truth true) err_z
    ∷ at 8 err_v err_z err_v
    ∷ at 8 (n 7) err_z err_z
    ∷ at 8 err_z (n 7) err_z
    ∷ at 9 (Truth true) err_v (Truth true)
    ∷ at 9 err_z (Truth true) (Truth true)
    ∷ at 9 (Truth false) err_v err_v
    ∷ at 9 err_z err_v err_z
    ∷ at 9 err_v (n 7) err_v
    ∷ at 10 err_z err_v err_z
    ∷ at 10 (n 0) err_z err_e
    ∷ at 11 err_v err_z err_v
    ∷ at 11 (Truth true) err_z err_e
    ∷ at 0 (n 1) (n 1) err_e
    ∷ at 12 (n 1) (n 1) err_e
    ∷ []

abbrev got : Case → Value
got c = apply c.code c.first c.second

pub outcomes : map got cases ≡ map (λ c. c.gives) cases
unfolding apply
outcomes = refl

-- ---- floats

-- the float of a pattern
abbrev r : ℕ → Value
r bits = Real (of_bits binary32 bits)

abbrev minus_zero : Value
minus_zero = r 2147483648

abbrev pub floats : List Case
floats =
    -- 0.1 + 0.2 is the float of 0.3
    at 1 (r 1036831949) (r 1045220557) (r 1050253722)
    -- 16,777,216 + 1 and 16,777,218 + 1 lie between two floats: "to nearest even"
    ∷ at 1 (r 1266679808) (r 1065353216) (r 1266679808)
    ∷ at 1 (r 1266679809) (r 1065353216) (r 1266679810)
    -- the greatest float twice; half its last place more, and less than that
    ∷ at 1 (r 2139095039) (r 2139095039) err_v
    ∷ at 1 (r 2139095039) (r 1929379840) err_v
    ∷ at 1 (r 2139095039) (r 1929379839) (r 2139095039)
    ∷ at 1 minus_zero minus_zero minus_zero
    ∷ at 1 minus_zero (r 0) (r 0)
    ∷ at 2 (r 1065353216) (r 1065353216) (r 0)
    ∷ at 2 minus_zero (r 0) minus_zero
    -- the least float and the next
    ∷ at 2 (r 2) (r 1) (r 1)
    ∷ at 2 (r 1) (r 2) (r 2147483649)
    ∷ at 3 (r 3225419776) (r 1073741824) (r 3233808384)
    ∷ at 3 (r 2130706432) (r 1073741824) err_v
    ∷ at 3 (r 1) (r 1056964608) (r 0)
    ∷ at 3 (r 3) (r 1056964608) (r 2)
    ∷ at 3 (r 2147483649) (r 1) minus_zero
    ∷ at 4 (r 1065353216) (r 1077936128) (r 1051372203)
    ∷ at 4 (r 1) (r 1073741824) (r 0)
    ∷ at 4 (r 2139095039) (r 1056964608) err_v
    ∷ at 4 (r 1065353216) (r 0) err_z
    ∷ at 4 (r 1065353216) minus_zero err_z
    ∷ at 4 (r 0) minus_zero err_z
    ∷ at 5 (r 1073741824) (r 1065353216) err_e
    ∷ at 5 (r 1065353216) (r 0) err_e
    ∷ at 6 minus_zero (r 0) (Truth false)
    ∷ at 6 (r 2147483649) (r 1) (Truth true)
    ∷ at 6 (r 1) (r 2147483649) (Truth false)
    ∷ at 6 (r 3212836864) (r 3212836863) (Truth true)
    ∷ at 7 minus_zero (r 0) (Truth true)
    ∷ at 7 (r 1) (r 0) (Truth false)
    ∷ at 7 (r 1050253722) (r 1050253722) (Truth true)
    ∷ at 11 (r 0) err_e minus_zero
    ∷ at 11 minus_zero err_e (r 0)
    ∷ at 11 (r 2139095039) err_e (r 4286578687)
    -- "Whole numbers and floats in one operator are a wrong kind"
    ∷ at 1 (r 1065353216) (n 1) err_e
    ∷ at 4 (n 1) (r 0) err_e
    ∷ at 4 (r 1065353216) (n 0) err_e
    ∷ at 7 (n 0) (r 0) err_e
    ∷ at 6 (r 0) (Truth true) err_e
    ∷ at 1 (r 0) err_z err_z
    ∷ at 4 err_v (r 0) err_v
    ∷ at 8 (r 0) (Truth false) err_e
    ∷ at 9 (Truth true) (r 0) err_e
    ∷ at 8 err_z (r 0) err_z
    ∷ at 10 (r 0) err_e err_e
    ∷ []

pub floats-outcomes : map got floats ≡ map (λ c. c.gives) floats
unfolding apply real_of add sub mul div neg lt eq of_bits fits
floats-outcomes = refl

-- "a, 0 to 999,999, divided by 1000 with one rounding"
pub thousandths-outcomes : map thousandths (0 ∷ 1 ∷ 100 ∷ 500 ∷ 1000 ∷ 12250 ∷ 999999 ∷ [])
    ≡ map r (0 ∷ 981668463 ∷ 1036831949 ∷ 1056964608 ∷ 1065353216 ∷ 1094975488 ∷ 1148846064 ∷ [])
unfolding thousandths round of_bits
thousandths-outcomes = refl

-- "after any wrong kind a number's kind goes on as W"
pub sums-kinds : map (given 1) ((real-kind ∷ real-kind ∷ []) ∷ (real-kind ∷ whole-kind ∷ []) ∷ (whole-kind ∷ real-kind ∷ []) ∷ (real-kind ∷ truth-kind ∷ []) ∷ [])
    ≡ real-kind ∷ whole-kind ∷ whole-kind ∷ whole-kind ∷ []
unfolding given
sums-kinds = refl

pub remainders-kind : given 5 (real-kind ∷ real-kind ∷ []) ≡ whole-kind
unfolding given
remainders-kind = refl

-- ---- byte forms

pub record Form : Type 0 where
  pub value : Value
  pub bytes : List ℕ

abbrev pub forms : List Form
forms =
    record { value = n 0; bytes = 1 ∷ 0 ∷ 0 ∷ 0 ∷ 0 ∷ [] }
    ∷ record { value = n 66051; bytes = 1 ∷ 3 ∷ 2 ∷ 1 ∷ 0 ∷ [] }
    ∷ record { value = greatest; bytes = 1 ∷ 255 ∷ 255 ∷ 255 ∷ 127 ∷ [] }
    ∷ record { value = minus 0; bytes = 1 ∷ 255 ∷ 255 ∷ 255 ∷ 255 ∷ [] }
    ∷ record { value = least; bytes = 1 ∷ 0 ∷ 0 ∷ 0 ∷ 128 ∷ [] }
    ∷ record { value = Truth false; bytes = 2 ∷ 0 ∷ 0 ∷ 0 ∷ 0 ∷ [] }
    ∷ record { value = Truth true; bytes = 2 ∷ 1 ∷ 0 ∷ 0 ∷ 0 ∷ [] }
    ∷ record { value = err_e; bytes = 3 ∷ 0 ∷ 0 ∷ 0 ∷ 0 ∷ [] }
    ∷ record { value = err_z; bytes = 3 ∷ 1 ∷ 0 ∷ 0 ∷ 0 ∷ [] }
    ∷ record { value = err_v; bytes = 3 ∷ 2 ∷ 0 ∷ 0 ∷ 0 ∷ [] }
    ∷ record { value = r 0; bytes = 4 ∷ 0 ∷ 0 ∷ 0 ∷ 0 ∷ [] }
    ∷ record { value = minus_zero; bytes = 4 ∷ 0 ∷ 0 ∷ 0 ∷ 128 ∷ [] }
    ∷ record { value = r 66051; bytes = 4 ∷ 3 ∷ 2 ∷ 1 ∷ 0 ∷ [] }
    ∷ record { value = r 2139095039; bytes = 4 ∷ 255 ∷ 255 ∷ 127 ∷ 127 ∷ [] }
    ∷ record { value = r 4286578687; bytes = 4 ∷ 255 ∷ 255 ∷ 127 ∷ 255 ∷ [] }
    ∷ []

pub bytes-of-forms : map (λ f. bytes_of f.value) forms ≡ map (λ f. f.bytes) forms
unfolding bytes_of real_of of_bits to_bits fits
bytes-of-forms = refl

pub values-of-forms : map (λ f. value_of (word_at f.bytes 0)) forms ≡ map (λ f. some f.value) forms
unfolding value_of word_at of_bits
values-of-forms = refl

-- no value: an unknown tag, a truth that is neither, an err of no reason, a whole number of more than 32 bits, the infinities, two NaNs, a
-- float of more than 32 bits
pub no-values : map value_of (0 ∷ 5 ∷ 255 ∷ 514 ∷ (2 + 256 * 4294967295) ∷ (3 + 256 * 3) ∷ (1 + 256 * 4294967296) ∷ (4 + 256 * 2139095040) ∷ (4 + 256 * 4286578688) ∷ (4 + 256 * 2143289344) ∷ (4 + 256 * 4294967295) ∷ (4 + 256 * 4294967296) ∷ [])
    ≡ none ∷ none ∷ none ∷ none ∷ none ∷ none ∷ none ∷ none ∷ none ∷ none ∷ none ∷ none ∷ []
unfolding value_of of_bits
no-values = refl
