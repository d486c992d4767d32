-- Document 02, Job 13: the number of each of a row's values, how far it can move. "Movements add; a constant multiplies them; a divide by c gives the
-- movement over c, rounded up." Rows of another sort (Sorts) are refused before; what is said of them here is of no consequence. Definitions only;
-- assumes nothing.
use Rattle.std.specs.Prelude.{ℕ, zero, suc, ◌+◌, ◌-◌, ◌*◌, ◌/◌, ◌%◌, Bool, true, false, cond, ◌&&◌, List, [], ◌∷◌, ◌++◌, eqb, leb, length, get_or}
use Rattle.value.specs.Operators.{pick}
use Rattle.names.specs.Names.{Names, range, below, size_from}
use Rattle.formula.specs.declared.Refusal.TheVariants.{Sort, Movement}
use Rattle.formula.specs.Results.{Verdict}
use Rattle.formula.specs.Tree.{Exp, identifier, constant, pair, operator, let_e, if_e, for_e, exp_of, formula_of}
use Rattle.formula.specs.Free.{free_e, inputs_of}
use Rattle.formula.specs.Tests.{Sheet, Test, test, tests, whole, sheet_of, verdict_by}
use Rattle.sheet_movement.specs.Sorts.{is_whole, amount, sorts_kept}

-- The number of each identifier.
abbrev pub Moves : Type 0
Moves = ℕ → ℕ

-- Identifiers a to a+b-1 bound to values with these numbers, the first to a.
unfoldable pub bind_moves : ℕ → ℕ → List ℕ → Moves → Moves
bind_moves a b ds moves k = cond (range a b k) (get_or ds (k - a) 0) (moves k)

-- "the movement over c, rounded up"
abbrev pub over : ℕ → ℕ → ℕ
over d c = (d + (c - 1)) / c

-- A product's number, of the pair x whose values have the numbers d and e: "a constant multiplies them". Of two constants either gives 0.
unfoldable pub multiplied : Exp → ℕ → ℕ → ℕ
unfolding is_whole amount
multiplied (identifier a) d e = 0
multiplied (constant k a) d e = 0
multiplied (pair x y) d e = pick (is_whole x) (amount x * e) (amount y * d)
multiplied (operator k x) d e = 0
multiplied (let_e a b x y) d e = 0
multiplied (if_e t x y) d e = 0
multiplied (for_e a b x y) d e = 0

-- A quotient's number: "a divide by c", where b of the pair names c.
unfoldable pub divided : Exp → ℕ → ℕ
unfolding amount
divided (identifier a) d = 0
divided (constant k a) d = 0
divided (pair x y) d = over d (amount y)
divided (operator k x) d = 0
divided (let_e a b x y) d = 0
divided (if_e t x y) d = 0
divided (for_e a b x y) d = 0

-- An operator's number, on the operand row x whose values have the numbers d and e. "Movements add"; a negated value moves as far as the value.
unfoldable pub moved : ℕ → Exp → ℕ → ℕ → ℕ
unfolding multiplied divided
moved code x d e =
    pick (eqb code 11) d
    (pick (eqb code 3) (multiplied x d e)
    (pick (eqb code 4) (divided x d)
    (d + e)))

-- The numbers of a row's values.
unfoldable pub moves_e : Exp → Moves → List ℕ
unfolding moved bind_moves
moves_e (identifier a) moves = moves a ∷ []
moves_e (constant k a) moves = 0 ∷ []
moves_e (pair x y) moves = moves_e x moves ++ moves_e y moves
moves_e (operator code x) moves = moved code x (get_or (moves_e x moves) 0 0) (get_or (moves_e x moves) 1 0) ∷ []
moves_e (let_e a b x y) moves = moves_e y (bind_moves a b (moves_e x moves) moves)
moves_e (if_e t x y) moves = []
moves_e (for_e a b x y) moves = []

-- "Tolerances are 0 to 2,147,483,647"; 21 where "any row's number passes 2,147,483,647".
abbrev pub all_within : List ℕ → Bool
all_within [] = true
all_within (d ∷ ds) = leb d 2147483647 && all_within ds

-- Whether no number of a row and the rows below it passes that.
unfoldable pub fits_e : Exp → Moves → Bool
unfolding moves_e bind_moves
fits_e (identifier a) moves = all_within (moves_e (identifier a) moves)
fits_e (constant k a) moves = all_within (moves_e (constant k a) moves)
fits_e (pair x y) moves = all_within (moves_e (pair x y) moves) && (fits_e x moves && fits_e y moves)
fits_e (operator code x) moves = all_within (moves_e (operator code x) moves) && fits_e x moves
fits_e (let_e a b x y) moves = all_within (moves_e (let_e a b x y) moves) && (fits_e x moves && fits_e y (bind_moves a b (moves_e x moves) moves))
fits_e (if_e t x y) moves = true
fits_e (for_e a b x y) moves = true

-- ---- tolerances, four bytes each, lowest first

unfoldable pub number_at : List ℕ → ℕ → ℕ
number_at s at = get_or s at 0 + 256 * get_or s (at + 1) 0 + 65536 * get_or s (at + 2) 0 + 16777216 * get_or s (at + 3) 0

-- The n numbers from a place on.
unfoldable pub numbers_from : ℕ → ℕ → List ℕ → List ℕ
unfolding number_at
numbers_from zero at s = []
numbers_from (suc n) at s = number_at s at ∷ numbers_from n (at + 4) s

-- 21 "when the tolerances are not as many as the inputs, one is out of range": whether they are as many and in range.
unfoldable pub tolerances_well : ℕ → List ℕ → Bool
unfolding numbers_from
tolerances_well inputs s = eqb (length s) (4 * inputs) && all_within (numbers_from inputs 0 s)

-- The inputs, rising, have the tolerances in their order.
unfoldable pub input_moves : Names → List ℕ → Moves
unfolding number_at below size_from
input_moves f s k = number_at s (4 * below f k)

-- 21, of a sheet of n rows, the last of which is the formula.
unfoldable pub movements_fit : List ℕ → ℕ → List ℕ → Bool
unfolding tolerances_well fits_e input_moves inputs_of free_e exp_of
movements_fit t n s = tolerances_well (length (inputs_of (exp_of t n))) s && fits_e (exp_of t n) (input_moves (free_e (exp_of t n)) s)

-- "20 .., after 10, and 21 .., after 20"
unfoldable pub drift_tests : List ℕ → List ℕ → List Test
unfolding sorts_kept movements_fit
drift_tests line tolerances =
    test Sort (λ s. sorts_kept s.fields s.rows line)
    ∷ test Movement (λ s. whole (movements_fit s.fields s.rows tolerances))
    ∷ []

-- What is said of a sheet with its kinds line and tolerances.
unfoldable pub drift_verdict : List ℕ → List ℕ → List ℕ → Verdict
unfolding verdict_by tests drift_tests sheet_of
drift_verdict s line tolerances = verdict_by (tests line ++ drift_tests line tolerances) (sheet_of s)

-- How far each result can move: the numbers of the last row's values.
unfoldable pub result_moves : List ℕ → List ℕ → List ℕ
unfolding moves_e input_moves free_e formula_of
result_moves s tolerances = moves_e (formula_of s) (input_moves (free_e (formula_of s)) tolerances)

-- Four bytes a number, lowest first.
unfoldable pub number_bytes : List ℕ → List ℕ
number_bytes [] = []
number_bytes (d ∷ ds) = d % 256 ∷ d / 256 % 256 ∷ d / 65536 % 256 ∷ d / 16777216 % 256 ∷ number_bytes ds
