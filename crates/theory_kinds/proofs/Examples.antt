-- Laws of specs/Examples.antt, and what only they need.
use Rattle.std.specs.Prelude.{ℕ, zero, suc, ◌≡◌, refl, true, false, [], ◌∷◌, Ok, Err}
use Rattle.std.proofs.Math.Option.{some, none}
use Rattle.std.specs.Float.Ieee.{fits, mul, lt, of_bits}
use Rattle.value.specs.declared.Value.TheVariants.{Truth}
use Rattle.value.specs.declared.ValueKind.TheVariants.{Whole as whole-kind}
use Rattle.value.specs.Senses.{err}
use Rattle.value.specs.Constants.{thousandths}
use Rattle.examples.specs.Sheets.{bytes, lesser, factorial}
use Rattle.formula.specs.Tree.{identifier, constant, pair, operator, if_e, formula_of}
use Rattle.formula.specs.Free.{free_e}
use Rattle.formula.specs.Tests.{verdict_of}
use Rattle.formula.proofs.Acceptance.{passed-admissible}
use Rattle.formula.specs.Kinds.{kinded_e, kinded}
use Rattle.formula.specs.Faults.{line_well, input_kinds, faults_in, kind_check}
use Rattle.meaning.specs.Meaning.{Outcome, yields, inputs_hold, eval_e}
use Rattle.theory_kinds.specs.Strict.{strict_e}
use Rattle.theory_kinds.specs.Inputs.{Set-suits}
use Rattle.theory_kinds.proofs.Inputs.{sheet-kinds-hold}
use Rattle.theory_kinds.specs.Examples.{checked, number_first, truth_first, number_round, number_returned, truth_returned, number_tested, strict, lesser_of_two, number, turning, faults, halved, number_added, float_added, remainder_taken, float}

lesser-passes : checked lesser "WW\n" ≡ Ok tt
unfolding kind_check kinded input_kinds free_e formula_of bytes lesser
lesser-passes = refl

-- The less, row 4, gets a truth; row 7, whose arms disagree, is at fault too.
lesser-fault : checked lesser "WT\n" ≡ Err 4
unfolding kind_check kinded input_kinds free_e formula_of bytes lesser
lesser-fault = refl

-- A formula with a loop whose rounds agree.
factorial-passes : checked factorial "W\n" ≡ Ok tt
unfolding kind_check kinded input_kinds free_e formula_of bytes factorial
factorial-passes = refl

number-first : checked number_first "\n" ≡ Err 2
unfolding kind_check kinded input_kinds free_e formula_of bytes number_first
number-first = refl

truth-first : checked truth_first "\n" ≡ Err 6
unfolding kind_check kinded input_kinds free_e formula_of bytes truth_first
truth-first = refl

number-round : checked number_round "\n" ≡ Err 8
unfolding kind_check kinded input_kinds free_e formula_of bytes number_round
number-round = refl

number-returned : checked number_returned "\n" ≡ Err 2
unfolding kind_check kinded input_kinds free_e formula_of bytes number_returned
number-returned = refl

truth-returned : checked truth_returned "\n" ≡ Err 10
unfolding kind_check kinded input_kinds free_e formula_of bytes truth_returned
truth-returned = refl

number-tested : checked number_tested "W\n" ≡ Err 4
unfolding kind_check kinded input_kinds free_e formula_of bytes number_tested
number-tested = refl

-- The kinds line: "one letter an input, W or T, and a line feed", "kind letter R".
line-of-none : line_well 0 (bytes "\n") ≡ true
unfolding line_well bytes
line-of-none = refl

line-missing : line_well 0 (bytes "") ≡ false
unfolding line_well bytes
line-missing = refl

line-of-one : line_well 1 (bytes "T\n") ≡ true
unfolding line_well bytes
line-of-one = refl

line-of-float : line_well 1 (bytes "R\n") ≡ true
unfolding line_well bytes
line-of-float = refl

line-without-end : line_well 1 (bytes "W") ≡ false
unfolding line_well bytes
line-without-end = refl

line-with-more : line_well 1 (bytes "W\n\n") ≡ false
unfolding line_well bytes
line-with-more = refl

line-of-two : line_well 1 (bytes "WT\n") ≡ false
unfolding line_well bytes
line-of-two = refl

line-of-small-letter : line_well 1 (bytes "w\n") ≡ false
unfolding line_well bytes
line-of-small-letter = refl

lesser-yields : strict lesser_of_two (number 3 ∷ number 5 ∷ []) 0 ≡ some (yields (number 3 ∷ []) 0)
unfolding strict_e inputs_hold free_e formula_of bytes lesser
lesser-yields = refl

-- The theorem on this sheet and set, whose assumptions hold by computation.
lesser-set-suits : Set-suits (bytes "WW\n") (number 3 ∷ number 5 ∷ [])
unfolding bytes
lesser-set-suits zero = refl
lesser-set-suits (suc zero) = refl
lesser-set-suits (suc (suc i)) = refl

lesser-verdict : verdict_of (bytes lesser) (bytes "WW\n") ≡ Ok tt
unfolding verdict_of bytes lesser
lesser-verdict = refl

lesser-holds : (rounds : ℕ) → strict lesser_of_two (number 3 ∷ number 5 ∷ []) rounds ≡ some (eval_e lesser_of_two (inputs_hold (free_e lesser_of_two) (number 3 ∷ number 5 ∷ [])) rounds)
lesser-holds rounds =
    (sheet-kinds-hold (bytes lesser) (bytes "WW\n") (number 3 ∷ number 5 ∷ []) (passed-admissible (bytes lesser) (bytes "WW\n") lesser-verdict) lesser-passes lesser-set-suits rounds).0

-- An err stops nothing: the less gives an err, and so does the if.
lesser-err : strict lesser_of_two (err ∷ number 2 ∷ []) 0 ≡ some (yields (err ∷ []) 0)
unfolding strict_e inputs_hold free_e formula_of bytes lesser
lesser-err = refl

-- The less gets a wrong kind.
lesser-stops : strict lesser_of_two (Truth true ∷ number 1 ∷ []) 0 ≡ none
unfolding strict_e inputs_hold free_e formula_of bytes lesser
lesser-stops = refl

-- A test that is a whole number.
test-stops : strict (if_e (identifier 0) (identifier 1) (identifier 1)) (number 1 ∷ number 1 ∷ []) 0 ≡ none
unfolding strict_e inputs_hold free_e
test-stops = refl

turning-fault : kinded_e turning (λ k. whole-kind) ≡ false
unfolding kinded_e
turning-fault = refl

first_round : strict turning (number 1 ∷ []) 1 ≡ some Outcome.unfinished
unfolding strict_e inputs_hold free_e
first_round = refl

second-round-stops : strict turning (number 1 ∷ []) 2 ≡ none
unfolding strict_e inputs_hold free_e
second-round-stops = refl

halved-passes : checked halved "R\n" ≡ Ok tt
unfolding kind_check kinded input_kinds free_e formula_of bytes halved
halved-passes = refl

-- "Whole numbers and floats in one operator are a wrong kind": the multiply, row 4. It goes on as a whole number, which the less, row 7, gets
-- beside 12.25.
halved-faults : faults halved "W\n" ≡ 7 ∷ 4 ∷ []
unfolding faults_in kinded input_kinds free_e formula_of bytes halved
halved-faults = refl

number-added : faults number_added "R\n" ≡ 4 ∷ []
unfolding faults_in kinded input_kinds free_e formula_of bytes number_added
number-added = refl

float-added : faults float_added "R\n" ≡ 7 ∷ 4 ∷ []
unfolding faults_in kinded input_kinds free_e formula_of bytes float_added
float-added = refl

remainder-of-floats : faults remainder_taken "RR\n" ≡ 4 ∷ []
unfolding faults_in kinded input_kinds free_e formula_of bytes remainder_taken
remainder-of-floats = refl

remainder-of-numbers : checked remainder_taken "WW\n" ≡ Ok tt
unfolding kind_check kinded input_kinds free_e formula_of bytes remainder_taken
remainder-of-numbers = refl

-- 24 * 0.5 < 12.25, and 24.5 * 0.5 < 12.25
halved-less : strict (formula_of (bytes halved)) (float 1103101952 ∷ []) 0 ≡ some (yields (Truth true ∷ []) 0)
unfolding strict_e inputs_hold free_e formula_of bytes halved thousandths of_bits mul lt fits
halved-less = refl

halved-not-less : strict (formula_of (bytes halved)) (float 1103364096 ∷ []) 0 ≡ some (yields (Truth false ∷ []) 0)
unfolding strict_e inputs_hold free_e formula_of bytes halved thousandths of_bits mul lt fits
halved-not-less = refl

-- A float beside a whole number, and a remainder of floats.
mixed-stops : strict (operator 1 (pair (identifier 0) (constant 2 1))) (float 1103101952 ∷ []) 0 ≡ none
unfolding strict_e inputs_hold free_e
mixed-stops = refl

remainder-stops : strict (formula_of (bytes remainder_taken)) (float 1103364096 ∷ float 1103101952 ∷ []) 0 ≡ none
unfolding strict_e inputs_hold free_e formula_of bytes remainder_taken
remainder-stops = refl
