-- Document 02, Job 13: the sheets that drift is told for, "sheets of kinds W with identifiers, whole constants, pairs, lets, add, subtract, negate,
-- multiply whose operand row is a pair that names a whole constant, and divide whose operand row is a pair with b naming one that is not 0".
-- Definitions only; assumes nothing.
use Rattle.std.specs.Prelude.{ℕ, Bool, true, false, not, ◌&&◌, ◌||◌, List, ◌++◌, eqb}
use Rattle.value.specs.declared.ValueKind.TheVariants.{Whole as whole-kind}
use Rattle.value.specs.Operators.{pick}
use Rattle.value.specs.Kinds.{all_of}
use Rattle.formula.specs.Results.{Check}
use Rattle.formula.specs.Tree.{Exp, identifier, constant, pair, operator, let_e, if_e, for_e, Body, ret, iter, let_b, if_b, exp_of}
use Rattle.formula.specs.Free.{free_e}
use Rattle.formula.specs.Places.{expression, body}
use Rattle.formula.specs.Kinds.{Rule, kinds_e, returned_kinds, iterated_kinds}
use Rattle.formula.specs.Faults.{input_kinds, kind_check}

-- "whole constants": row kind 2; 3 and 10 are constants of other kinds.
unfoldable pub is_whole : Exp → Bool
is_whole (identifier a) = false
is_whole (constant k a) = eqb k 2
is_whole (pair x y) = false
is_whole (operator k x) = false
is_whole (let_e a b x y) = false
is_whole (if_e t x y) = false
is_whole (for_e a b x y) = false

-- A constant's a.
unfoldable pub amount : Exp → ℕ
amount (identifier a) = 0
amount (constant k a) = a
amount (pair x y) = 0
amount (operator k x) = 0
amount (let_e a b x y) = 0
amount (if_e t x y) = 0
amount (for_e a b x y) = 0

-- "a pair that names a whole constant"
unfoldable pub names_whole : Exp → Bool
unfolding is_whole
names_whole (identifier a) = false
names_whole (constant k a) = false
names_whole (pair x y) = is_whole x || is_whole y
names_whole (operator k x) = false
names_whole (let_e a b x y) = false
names_whole (if_e t x y) = false
names_whole (for_e a b x y) = false

-- "a pair with b naming one that is not 0"
unfoldable pub divides_by_whole : Exp → Bool
unfolding is_whole amount
divides_by_whole (identifier a) = false
divides_by_whole (constant k a) = false
divides_by_whole (pair x y) = is_whole y && not (eqb (amount y) 0)
divides_by_whole (operator k x) = false
divides_by_whole (let_e a b x y) = false
divides_by_whole (if_e t x y) = false
divides_by_whole (for_e a b x y) = false

-- "add, subtract, negate, multiply .., and divide ..", on the operand row x.
unfoldable pub code_sort : ℕ → Exp → Bool
unfolding names_whole divides_by_whole
code_sort code x =
    pick (eqb code 1) true
    (pick (eqb code 2) true
    (pick (eqb code 11) true
    (pick (eqb code 3) (names_whole x)
    (pick (eqb code 4) (divides_by_whole x)
    false))))

unfoldable pub sort_e : Exp → Bool
unfolding code_sort
sort_e (identifier a) = true
sort_e (constant k a) = eqb k 2
sort_e (pair x y) = true
sort_e (operator code x) = code_sort code x
sort_e (let_e a b x y) = true
sort_e (if_e t x y) = false
sort_e (for_e a b x y) = false

-- A row in a body place is of the sort of its row kind, as everywhere.
unfoldable pub sort_b : Body → Bool
unfolding sort_e
sort_b (ret x) = sort_e x
sort_b (iter x) = false
sort_b (let_b a b x y) = true
sort_b (if_b t x y) = false

-- What 20 asks of a row: it is of one of these sorts and has no "value not of kind W". A body's values are those that it returns and those that it
-- starts the next round with.
unfoldable pub drifting : Rule
unfolding sort_e sort_b kinds_e returned_kinds iterated_kinds
drifting (expression x) kinds = sort_e x && all_of whole-kind (kinds_e x kinds)
drifting (body y) kinds = sort_b y && all_of whole-kind (returned_kinds y kinds ++ iterated_kinds y kinds)

-- 20 "when a row is of another sort or has a value not of kind W, lowest row given"
unfoldable pub sorts_kept : List ℕ → ℕ → List ℕ → Check
unfolding kind_check drifting input_kinds free_e exp_of
sorts_kept t n line = kind_check drifting t n (input_kinds (free_e (exp_of t n)) line)
