-- Document 01's marked examples (p), "one list of definitions' outcomes with one proof over the list", and what document 02 asks for: the verdict
-- of Job 2, the reasons of Job 5, the kinds of Job 6, with which every sheet comes, and the floats of Job 9. A case is a question and what it gives; a question that a later part answers is one constructor more, in `Question`, `Answer` and `got`.
use Rattle.std.specs.Prelude.{ℕ, ◌≡◌, refl, Bool, true, false, List, [], ◌∷◌, ◌++◌, map, pos, negsuc, length, replicate, Ok, Err as at_fault}
use Rattle.std.proofs.Math.Decide.{ℕ_discrete}
use Rattle.std.specs.Float.{binary32}
use Rattle.std.specs.Float.Ieee.{fits, round, mul, lt, of_bits, to_bits}
use Rattle.value.specs.declared.Reason.TheVariants.{ZeroDivisor, OutOfRange}
use Rattle.value.specs.declared.Value.{Value}
use Rattle.value.specs.declared.Value.TheVariants.{Whole, Truth, Err, Real}
use Rattle.value.specs.Operators.{real_of}
use Rattle.value.specs.Bytes.{bytes_of}
use Rattle.value.specs.Constants.{thousandths}
use Rattle.value.specs.Senses.{err}
use Rattle.formula.specs.Results.{Reading, Verdict}
use Rattle.formula.specs.declared.Figures.{Figures}
use Rattle.formula.specs.Refusals.{number_of}
use Rattle.formula.specs.Tree.{formula_of}
use Rattle.formula.specs.Count.{count_e}
use Rattle.formula.specs.Tests.{few_rows, reading_of}
use Rattle.graph.specs.Translation.{made_of}
use Rattle.network.specs.Net.{append}
use Rattle.meaning.specs.declared.Cell.{Cell}
use Rattle.meaning.specs.declared.Evaluation.{Evaluation}
use Rattle.meaning.specs.Evaluate.{cell, evaluation_of}
use Rattle.theory_reference.specs.Marks.{marks}
use Rattle.theory_verdicts.specs.Running.{start_of}
use Rattle.demand_ends.specs.ResultBytes.{spelled}
use Rattle.demand.specs.Pushes.{push_refusals}
use Rattle.examples.specs.Sheets.{bytes, lesser, twice, factorial, verdict, zero_divided, iter_alone, let_unused, half_below, wholes_later, alike, constant_row}

-- What can be asked of the definitions.
pub data Question : Type 0 where
  -- what reading says of a sheet with a kinds line: its figures, or the first refusal with its row
  reading : List ℕ → List ℕ → Question
  -- what test 2 alone says of it
  test-2 : List ℕ → Question
  -- how many operators test 10 counts, and how many the translation makes
  counted : List ℕ → Question
  made : List ℕ → Question
  -- a sheet, its kinds line, a set, and the rounds lent
  evaluation : List ℕ → List ℕ → List Value → ℕ → Question
  -- a sheet, a capacity, a set, and how often it is pushed from the start
  pushes : List ℕ → ℕ → List Value → ℕ → Question

-- A refusal is told by document 01's number, 0 where there is none.
pub data Answer : Type 0 where
  accepts : Figures → Answer
  -- a refusal's number and row
  refuses : ℕ → ℕ → Answer
  passes : Bool → Answer
  operators : ℕ → Answer
  -- a refusal's number and row, then width, rounds and cells
  evaluates : ℕ → ℕ → ℕ → ℕ → List Cell → Answer
  -- what each push answers, 0 where it is accepted
  refusals : List ℕ → Answer

abbrev reading_says : Reading → Answer
reading_says (Ok figures) = accepts figures
reading_says (at_fault why) = refuses (number_of why.refusal) why.row

abbrev evaluation_says : Verdict → Evaluation → Answer
evaluation_says (Ok _) e = evaluates 0 0 e.width e.rounds e.cells
evaluation_says (at_fault why) e = evaluates (number_of why.refusal) why.row e.width e.rounds e.cells

unfoldable pub got : Question → Answer
unfolding reading_of count_e formula_of made_of evaluation_of bytes_of push_refusals marks append ℕ_discrete real_of thousandths round mul lt of_bits to_bits fits
got (reading s line) = reading_says (reading_of s line)
got (test-2 s) = passes (few_rows s)
got (counted s) = operators (count_e (formula_of s)).operators
got (made s) = operators (length (made_of (formula_of s)).operators)
got (evaluation s line vs rounds) =
    let e : Evaluation = evaluation_of s line (spelled vs) rounds in
    evaluation_says e.verdict e
got (pushes s capacity vs k) = refusals (push_refusals (formula_of s) capacity vs k (start_of (formula_of s)))

pub record Case : Type 0 where
  pub asks : Question
  pub gives : Answer

abbrev case : Question → Answer → Case
case q a = record { asks = q; gives = a }

abbrev accepted : ℕ → ℕ → ℕ → ℕ → Answer
accepted n o i w = accepts (record { rows = n; operators = o; inputs = i; results = w })

abbrev number : ℕ → Value
number n = Whole (pos n)

-- One value after k rounds.
abbrev one : Value → ℕ → Answer
one v k = evaluates 0 0 1 k (cell v ∷ replicate 15 (cell err))

-- Two values without a round.
abbrev two : Value → Value → Answer
two v w = evaluates 0 0 2 0 (cell v ∷ cell w ∷ replicate 14 (cell err))

-- A verdict and its two margins.
abbrev three : Value → Value → Value → Answer
three v a b = evaluates 0 0 3 0 (cell v ∷ cell a ∷ cell b ∷ replicate 13 (cell err))

-- "A refusal's counts and rows are 0 unless stated, its result set has width 0."
abbrev refusal : ℕ → Answer
refusal n = evaluates n 0 0 0 (replicate 16 (cell err))

-- The float of a pattern.
abbrev float : ℕ → Value
float bits = Real (of_bits binary32 bits)

abbrev zero_divisor : Value
zero_divisor = Err ZeroDivisor

abbrev out_of_range : Value
out_of_range = Err OutOfRange

abbrev pub three_and_five : List Value
three_and_five = number 3 ∷ number 5 ∷ []

unfoldable pub cases : List Case
unfolding bytes lesser twice factorial verdict zero_divided iter_alone let_unused half_below wholes_later alike constant_row of_bits
cases =
    -- "sixteen pushes at capacity 16 pass, the seventeenth gives 32": on the links; the same on the machine's memory is Pushed's
    case (pushes (bytes lesser) 16 three_and_five 17) (refusals (replicate 16 0 ++ 32 ∷ []))
    -- at capacity 1 the second already finds the input links full
    ∷ case (pushes (bytes lesser) 1 three_and_five 2) (refusals (0 ∷ 33 ∷ []))
    -- "this graph has 8 operators", by the count and by the translation
    ∷ case (counted (bytes lesser)) (operators 8)
    ∷ case (made (bytes lesser)) (operators 8)
    -- the results of its sets; document 02: "Sets with another kind are refused with 12, so the lesser-of-two example loses its fourth set"
    ∷ case (evaluation (bytes lesser) (bytes "WW\n") three_and_five 0) (one (number 3) 0)
    ∷ case (evaluation (bytes lesser) (bytes "WW\n") (number 7 ∷ number 7 ∷ []) 0) (one (number 7) 0)
    ∷ case (evaluation (bytes lesser) (bytes "WW\n") (err ∷ number 2 ∷ []) 0) (one err 0)
    ∷ case (evaluation (bytes lesser) (bytes "WW\n") (Truth true ∷ number 1 ∷ []) 0) (refusal 12)
    -- "x + x has 2 operators"
    ∷ case (counted (bytes twice)) (operators 2)
    ∷ case (made (bytes twice)) (operators 2)
    -- "n = 5 gives 120 in 5 rounds", also where more are lent; "4 rounds give 36"
    ∷ case (evaluation (bytes factorial) (bytes "W\n") (number 5 ∷ []) 5) (one (number 120) 5)
    ∷ case (evaluation (bytes factorial) (bytes "W\n") (number 5 ∷ []) 1000) (one (number 120) 5)
    ∷ case (evaluation (bytes factorial) (bytes "W\n") (number 5 ∷ []) 4) (refusal 36)
    -- "n = 0 gives 1", "n = E gives E"
    ∷ case (evaluation (bytes factorial) (bytes "W\n") (number 0 ∷ []) 1) (one (number 1) 1)
    ∷ case (evaluation (bytes factorial) (bytes "W\n") (err ∷ []) 1) (one err 1)
    -- "n = 12 gives 479,001,600"; document 02: "factorial of 13 gives V"
    ∷ case (evaluation (bytes factorial) (bytes "W\n") (number 12 ∷ []) 12) (one (number 479001600) 12)
    ∷ case (evaluation (bytes factorial) (bytes "W\n") (number 13 ∷ []) 13) (one out_of_range 13)
    -- "Z zero divisor"; "A test that is no truth gives E, whatever reason it carried": in an expression and in a loop's body
    ∷ case (evaluation (bytes zero_divided) (bytes "\n") [] 0) (two zero_divisor err)
    ∷ case (evaluation (bytes factorial) (bytes "W\n") (zero_divisor ∷ []) 1) (one err 1)
    -- Z and V in a set: each operator hands on the leftmost, and where false decides it still decides
    ∷ case (evaluation (bytes verdict) (bytes "WW\n") (zero_divisor ∷ out_of_range ∷ []) 0) (three zero_divisor zero_divisor out_of_range)
    ∷ case (evaluation (bytes verdict) (bytes "WW\n") (number 1450 ∷ out_of_range ∷ []) 0) (three out_of_range (number 550) out_of_range)
    ∷ case (evaluation (bytes verdict) (bytes "WW\n") (zero_divisor ∷ number 3900 ∷ []) 0) (three (Truth false) zero_divisor (Whole (negsuc 99)))
    -- "A beacon that fails on range" with a battery reading that is E fails; with a good range there is no verdict, as before
    ∷ case (evaluation (bytes verdict) (bytes "WW\n") (err ∷ number 3900 ∷ []) 0) (three (Truth false) err (Whole (negsuc 99)))
    ∷ case (evaluation (bytes verdict) (bytes "WW\n") (err ∷ number 4500 ∷ []) 0) (three err err (number 500))
    -- a value too few
    ∷ case (evaluation (bytes lesser) (bytes "WW\n") (number 3 ∷ []) 0) (refusal 12)
    -- 17: no line, a letter too few, one too many, another letter, no line feed, a byte behind it; of a formula without inputs too
    ∷ case (reading (bytes lesser) (bytes "")) (refuses 17 0)
    ∷ case (reading (bytes lesser) (bytes "W\n")) (refuses 17 0)
    ∷ case (reading (bytes lesser) (bytes "WWW\n")) (refuses 17 0)
    ∷ case (reading (bytes lesser) (bytes "Ww\n")) (refuses 17 0)
    ∷ case (reading (bytes lesser) (bytes "WW")) (refuses 17 0)
    ∷ case (reading (bytes lesser) (bytes "WW\n\n")) (refuses 17 0)
    ∷ case (reading (bytes zero_divided) (bytes "")) (refuses 17 0)
    -- 18: "A club compared a truth with a voltage": the less is row 4
    ∷ case (reading (bytes lesser) (bytes "WT\n")) (refuses 18 4)
    ∷ case (evaluation (bytes lesser) (bytes "TW\n") three_and_five 0) (evaluates 18 4 0 0 (replicate 16 (cell err)))
    -- floats: 24, the float next below 24.5 and 24.5 halved, against 12.25; an err; a whole number is no such reading
    ∷ case (reading (bytes half_below) (bytes "R\n")) (accepted 7 5 1 1)
    ∷ case (made (bytes half_below)) (operators 5)
    ∷ case (evaluation (bytes half_below) (bytes "R\n") (float 1103101952 ∷ []) 0) (one (Truth true) 0)
    ∷ case (evaluation (bytes half_below) (bytes "R\n") (float 1103364095 ∷ []) 0) (one (Truth true) 0)
    ∷ case (evaluation (bytes half_below) (bytes "R\n") (float 1103364096 ∷ []) 0) (one (Truth false) 0)
    ∷ case (evaluation (bytes half_below) (bytes "R\n") (zero_divisor ∷ []) 0) (one zero_divisor 0)
    ∷ case (evaluation (bytes half_below) (bytes "R\n") (number 24 ∷ []) 0) (refusal 12)
    -- "Whole numbers and floats in one operator are a wrong kind"; "after any wrong kind a number's kind goes on as W": row 4 gets W
    ∷ case (reading (bytes half_below) (bytes "W\n")) (refuses 18 4)
    ∷ case (reading (bytes wholes_later) (bytes "W\n")) (accepted 9 5 1 1)
    ∷ case (reading (bytes wholes_later) (bytes "R\n")) (refuses 18 8)
    -- "iter as the formula: 7", "let x = 1 in 2: 9"; both come before 17
    ∷ case (reading (bytes iter_alone) (bytes "")) (refuses 7 2)
    ∷ case (reading (bytes let_unused) (bytes "")) (refuses 9 3)
    -- "200 rows pass test 2, 201 do not": of constants that nothing names, 200 then fail test 6
    ∷ case (test-2 (alike 200 constant_row)) (passes true)
    ∷ case (test-2 (alike 201 constant_row)) (passes false)
    ∷ case (reading (alike 200 constant_row) (bytes "")) (refuses 6 1)
    ∷ case (reading (alike 201 constant_row) (bytes "")) (refuses 2 0)
    -- the sheets above are accepted, with these rows, operators, inputs and results
    ∷ case (reading (bytes lesser) (bytes "WW\n")) (accepted 7 8 2 1)
    ∷ case (reading (bytes twice) (bytes "W\n")) (accepted 4 2 1 1)
    ∷ case (reading (bytes factorial) (bytes "W\n")) (accepted 20 32 1 1)
    ∷ []

pub cases-worked : map (λ c. got c.asks) cases ≡ map (λ c. c.gives) cases
unfolding cases got
cases-worked = refl
