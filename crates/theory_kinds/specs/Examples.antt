-- By computation: which rows of document 01's examples are at fault with some kinds lines, and where strict evaluation stops. Document 02,
-- Job 6, takes the set (true, 1) from the lesser-of-two example: strict evaluation stops at it. So the guards and the rule do refuse; and which
-- kinds hold behind a row at fault. The same with floats, Job 9. Assumes nothing.
use Rattle.std.specs.Prelude.{ℕ, zero, suc, ◌≡◌, refl, true, false, List, [], ◌∷◌, pos}
use Prim.Native.String.{String}
use Rattle.std.proofs.Math.Option.{Option}
use Rattle.std.specs.Float.{binary32}
use Rattle.std.specs.Float.Ieee.{fits, mul, lt, of_bits}
use Rattle.value.specs.declared.Value.{Value}
use Rattle.value.specs.declared.Value.TheVariants.{Whole, Truth, Real}
use Rattle.value.specs.declared.ValueKind.TheVariants.{Whole as whole-kind}
use Rattle.value.specs.Senses.{err}
use Rattle.value.specs.Constants.{thousandths}
use Rattle.examples.specs.Sheets.{bytes, lesser, factorial}
use Rattle.formula.specs.Results.{Check}
use Rattle.formula.specs.Sheet.{row_count, fields_of}
use Rattle.formula.specs.Tree.{Exp, identifier, constant, pair, operator, if_e, for_e, ret, iter, if_b, formula_of}
use Rattle.formula.specs.Free.{free_e}
use Rattle.formula.specs.Tests.{verdict_of}
use Rattle.formula.specs.Kinds.{kinded_e, kinded}
use Rattle.formula.specs.Faults.{line_well, input_kinds, faults_in, kind_check}
use Rattle.meaning.specs.Meaning.{Outcome, yields, inputs_hold, eval_e}
use Rattle.theory_kinds.specs.Strict.{strict_e}

-- 18 of a sheet with a kinds line.
abbrev pub checked : String → String → Check
checked sheet line = kind_check kinded (fields_of (bytes sheet)) (row_count (bytes sheet)) (input_kinds (free_e (formula_of (bytes sheet))) (bytes line))

-- Which kinds hold behind a fault: "the operator, if or for itself is at fault and the first arm's or row c's kinds hold".
-- let x = if true then 1 else true in not x: the arms, rows 4 and 5, disagree. The first arm's whole number holds, so the not, row 2, is at
-- fault beside the if, row 6.
unfoldable pub number_first : String
number_first = "     1     0     0     0     0\n     5    10     1     0     0\n     3     1     0     0     0\n     2     1     0     0     0\n     3     1     0     0     0\n     7     3     4     5     0\n     6     0     1     6     2\n"

-- With the arms exchanged the truth holds, and the if alone is at fault.
unfoldable pub truth_first : String
truth_first = "     1     0     0     0     0\n     5    10     1     0     0\n     3     1     0     0     0\n     3     1     0     0     0\n     2     1     0     0     0\n     7     3     4     5     0\n     6     0     1     6     2\n"

-- for x = false do if not x then iter 1 else x: a round gets a whole number, but row c's truth holds, so the not is right and the for,
-- row 8, alone at fault.
unfoldable pub number_round : String
number_round = "     1     0     0     0     0\n     5    10     1     0     0\n     2     1     0     0     0\n     9     3     0     0     0\n     1     0     0     0     0\n     7     2     4     5     0\n     3     0     0     0     0\n     8     0     1     7     6\n"

-- let y = (for x = true do if x then (if x then iter false else 1) else true) in not y: the arms of the body's if, row 10, return a number and
-- a truth. The first arm's number holds, so the not, row 2, is at fault beside it.
unfoldable pub number_returned : String
number_returned = "     1     1     0     0     0\n     5    10     1     0     0\n     1     0     0     0     0\n     1     0     0     0     0\n     3     0     0     0     0\n     9     5     0     0     0\n     2     1     0     0     0\n     7     4     6     7     0\n     3     1     0     0     0\n     7     3     8     9     0\n     3     1     0     0     0\n     8     0     1    11    10\n     6     1     1    12     2\n"

-- With 1 and true exchanged the truth holds, and the body's if alone is at fault.
unfoldable pub truth_returned : String
truth_returned = "     1     1     0     0     0\n     5    10     1     0     0\n     1     0     0     0     0\n     1     0     0     0     0\n     3     0     0     0     0\n     9     5     0     0     0\n     3     1     0     0     0\n     7     4     6     7     0\n     2     1     0     0     0\n     7     3     8     9     0\n     3     1     0     0     0\n     8     0     1    11    10\n     6     1     1    12     2\n"

-- if x then 1 else 2, where x is a whole number: the if is at fault, not the test's row.
unfoldable pub number_tested : String
number_tested = "     1     0     0     0     0\n     2     1     0     0     0\n     2     2     0     0     0\n     7     1     2     3     0\n"

-- Strict evaluation of a formula on a set.
abbrev pub strict : Exp → List Value → ℕ → Option Outcome
strict x vs rounds = strict_e x (inputs_hold (free_e x) vs) rounds

abbrev pub lesser_of_two : Exp
lesser_of_two = formula_of (bytes lesser)

abbrev pub number : ℕ → Value
number n = Whole (pos n)

-- for i = n do if i < 5 then iter true else i: its rounds do not agree, and the second compares a truth.
abbrev pub turning : Exp
turning = for_e 1 1 (identifier 0) (if_b (operator 6 (pair (identifier 1) (constant 2 5))) (iter (constant 3 1)) (ret (identifier 1)))

-- ---- floats: document 02, Job 9
-- All rows at fault.
abbrev pub faults : String → String → List ℕ
faults sheet line =
    faults_in kinded (row_count (bytes sheet)) (fields_of (bytes sheet)) false (input_kinds (free_e (formula_of (bytes sheet))) (bytes line)) (row_count (bytes sheet))

-- x * 0.5 < 12.25
unfoldable pub halved : String
halved = "     1     0     0     0     0\n    10   500     0     0     0\n     4     1     2     0     0\n     5     3     3     0     0\n    10 12250     0     0     0\n     4     4     5     0     0\n     5     6     6     0     0\n"

-- (x + 1) + 1, where x is a float: "after any wrong kind a number's kind goes on as W", so the inner add, row 4, alone is at fault.
unfoldable pub number_added : String
number_added = "     1     0     0     0     0\n     2     1     0     0     0\n     4     1     2     0     0\n     5     1     3     0     0\n     2     1     0     0     0\n     4     4     5     0     0\n     5     1     6     0     0\n"

-- (x + 1) + 0.5: the outer add, row 7, is at fault too.
unfoldable pub float_added : String
float_added = "     1     0     0     0     0\n     2     1     0     0     0\n     4     1     2     0     0\n     5     1     3     0     0\n    10   500     0     0     0\n     4     4     5     0     0\n     5     1     6     0     0\n"

-- x % y + 1: remainder, row 4, takes no floats and goes on as a whole number.
unfoldable pub remainder_taken : String
remainder_taken = "     1     0     0     0     0\n     1     1     0     0     0\n     4     1     2     0     0\n     5     5     3     0     0\n     2     1     0     0     0\n     4     4     5     0     0\n     5     1     6     0     0\n"

-- The float of a pattern.
abbrev pub float : ℕ → Value
float bits = Real (of_bits binary32 bits)
