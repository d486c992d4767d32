-- The worked example of document 01, "Program and readings", as text: the set lines of the lesser of two, of which document 02, Job 6, leaves three, and the
-- four lines that it prints. Beside them the ends of the values' range, errs with a reason, floats, fields that are no value, and a refusal. They hold the definitions to the papers. Assumes nothing.
use Rattle.std.specs.Prelude.{ℕ, zero, suc, List, [], ◌∷◌, ◌++◌, length}
use Prim.Native.String.{String}
use Rattle.value.specs.Bytes.{word_of, word_bytes, word_at, value_of}
use Rattle.examples.specs.Sheets.{bytes}
use Rattle.text.specs.SetLines.{SetFile, sets, bad_line, sets_of}
use Rattle.text.specs.Printed.{head_line, result_line, refusal_line}

pub data Question : Type 0 where
  -- a set file for inputs of these kinds
  reading : String → String → Question
  -- inputs, results, and each set's results as bytes
  printing : ℕ → ℕ → List (List ℕ) → Question
  -- a number and a row
  refusing : ℕ → ℕ → Question

pub data Answer : Type 0 where
  reads : SetFile → Answer
  prints : List ℕ → Answer

unfoldable pub lines : ℕ → List (List ℕ) → List ℕ
unfolding result_line
lines k [] = []
lines k (r ∷ rs) = result_line k r ++ lines k rs

unfoldable pub got : Question → Answer
unfolding sets_of head_line lines refusal_line bytes word_of word_bytes word_at value_of
got (reading kinds s) = reads (sets_of (bytes kinds) (bytes s))
got (printing i k rs) = prints (head_line i k (length rs) ++ lines k rs)
got (refusing n r) = prints (refusal_line n r)

pub record Case : Type 0 where
  pub asks : Question
  pub gives : Answer

abbrev pub case : Question → Answer → Case
case q a = record { asks = q; gives = a }

-- Values in the byte form: a tag and four bytes, lowest first.
abbrev pub small : ℕ → List ℕ
small n = 1 ∷ n ∷ 0 ∷ 0 ∷ 0 ∷ []

abbrev pub falsehood : List ℕ
falsehood = 2 ∷ 0 ∷ 0 ∷ 0 ∷ 0 ∷ []

abbrev pub truth : List ℕ
truth = 2 ∷ 1 ∷ 0 ∷ 0 ∷ 0 ∷ []

abbrev pub err : List ℕ
err = 3 ∷ 0 ∷ 0 ∷ 0 ∷ 0 ∷ []

abbrev pub zero_divisor : List ℕ
zero_divisor = 3 ∷ 1 ∷ 0 ∷ 0 ∷ 0 ∷ []

abbrev pub out_of_range : List ℕ
out_of_range = 3 ∷ 2 ∷ 0 ∷ 0 ∷ 0 ∷ []

abbrev pub least : List ℕ
least = 1 ∷ 0 ∷ 0 ∷ 0 ∷ 128 ∷ []

abbrev pub greatest : List ℕ
greatest = 1 ∷ 255 ∷ 255 ∷ 255 ∷ 127 ∷ []

-- Floats by their patterns' bytes: 0, -0, the nearest to 0.3, the least.
abbrev pub real : ℕ → ℕ → ℕ → ℕ → List ℕ
real a b c d = 4 ∷ a ∷ b ∷ c ∷ d ∷ []

abbrev pub zeros : List ℕ
zeros = real 0 0 0 0 ++ real 0 0 0 128

abbrev pub three-tenths : List ℕ
three-tenths = real 154 153 153 62

abbrev pub least_real : List ℕ
least_real = real 255 255 127 255

-- "places past the width hold err"
unfoldable pub errs : ℕ → List ℕ
errs zero = []
errs (suc n) = err ++ errs n

unfoldable pub cases : List Case
unfolding bytes errs
cases =
    -- "Sets (3, 5), (7, 7), (E, 2) .. print", and (T, 1), "the lesser-of-two example loses its fourth set"
    case (reading "WW" "          3          5\n          7          7\n          E          2\n")
    (reads (sets ((small 3 ++ small 5) ∷ (small 7 ++ small 7) ∷ (err ++ small 2) ∷ [])))
    ∷ case (printing 2 1 ((small 3 ++ errs 15) ∷ (small 7 ++ errs 15) ∷ (err ++ errs 15) ∷ []))
    (prints (bytes "     2     1     3\n          3\n          7\n          E\n"))
    ∷ case (reading "WW" "          3          5\n          7          7\n          E          2\n          T          1\n") (reads (bad_line 4))
    -- "Sets with another kind are refused with 12": a number for a truth, a truth for a number, each beside an err
    ∷ case (reading "TW" "          F          1\n          E          Z\n") (reads (sets ((falsehood ++ small 1) ∷ (err ++ zero_divisor) ∷ [])))
    ∷ case (reading "TW" "          1          E\n") (reads (bad_line 1))
    ∷ case (reading "TW" "          E          T\n") (reads (bad_line 1))
    -- both ends of the range, zero, a falsehood, and the last digits' zeros
    ∷ case (printing 0 4 ((least ++ greatest ++ small 0 ++ falsehood ++ errs 12) ∷ (small 10 ++ small 200 ++ truth ++ err ++ errs 12) ∷ []))
    (prints (bytes "     0     4     2\n-2147483648 2147483647          0          F\n         10        200          T          E\n"))
    ∷ case (reading "WWWT" "-2147483648 2147483647          0          F\n") (reads (sets ((least ++ greatest ++ small 0 ++ falsehood) ∷ [])))
    -- "Set and result fields may hold Z and V", alone as every letter, and right-justified
    ∷ case (reading "WTW" "          E          Z          V\n") (reads (sets ((err ++ zero_divisor ++ out_of_range) ∷ [])))
    ∷ case (printing 3 3 ((err ++ zero_divisor ++ out_of_range ++ errs 13) ∷ [])) (prints (bytes "     3     3     1\n          E          Z          V\n"))
    ∷ case (reading "W" "          Z\n         ZV\n") (reads (bad_line 2))
    ∷ case (reading "W" "         Z \n") (reads (bad_line 1))
    ∷ case (reading "W" "          z\n") (reads (bad_line 1))
    -- past either end, "no -0", "no leading zeros", not right-justified
    ∷ case (reading "W" "          1\n-2147483649\n") (reads (bad_line 2))
    ∷ case (reading "W" " 2147483648\n") (reads (bad_line 1))
    ∷ case (reading "W" "         -0\n") (reads (bad_line 1))
    ∷ case (reading "W" "         07\n") (reads (bad_line 1))
    ∷ case (reading "W" "         7 \n") (reads (bad_line 1))
    -- "another number of values than inputs", "a file line unended"
    ∷ case (reading "WW" "          7\n") (reads (bad_line 1))
    ∷ case (reading "W" "          7\n          7") (reads (bad_line 2))
    -- "the field is R and directly after it the bit pattern in decimal without leading zeros, right-justified together"
    ∷ case (reading "RRRR" "         R0R2147483648R1050253722R4286578687\n") (reads (sets ((zeros ++ three-tenths ++ least_real) ∷ [])))
    ∷ case (printing 4 4 ((zeros ++ three-tenths ++ least_real ++ errs 12) ∷ []))
    (prints (bytes "     4     4     1\n         R0R2147483648R1050253722R4286578687\n"))
    ∷ case (reading "R" "          E\n          1\n") (reads (bad_line 2))
    ∷ case (reading "R" "          T\n") (reads (bad_line 1))
    ∷ case (reading "W" "         R1\n") (reads (bad_line 1))
    ∷ case (reading "R" "          R\n") (reads (bad_line 1))
    ∷ case (reading "R" "        R01\n") (reads (bad_line 1))
    ∷ case (reading "R" "        R-1\n") (reads (bad_line 1))
    ∷ case (reading "R" "        R 1\n") (reads (bad_line 1))
    ∷ case (reading "R" "         r1\n") (reads (bad_line 1))
    -- "Patterns that are not finite are refused with 12": infinity, minus infinity, a NaN; and a pattern of more than 32 bits
    ∷ case (reading "R" "R2139095040\n") (reads (bad_line 1))
    ∷ case (reading "R" "R4286578688\n") (reads (bad_line 1))
    ∷ case (reading "R" "R2143289344\n") (reads (bad_line 1))
    ∷ case (reading "R" "R4294967296\n") (reads (bad_line 1))
    ∷ case (refusing 12 3) (prints (bytes "    12     3\n"))
    ∷ []
