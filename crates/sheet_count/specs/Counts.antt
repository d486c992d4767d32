-- Document 01, "The graph", and test 10, for tables: the operators of a row's own, by the masks, widths and ends of the rows
-- that it names. What the rows below it have is added to these.
use Rattle.std.specs.Prelude.{ℕ, ◌+◌, ◌-◌, ◌≤◌, Bool, true, false, not, cond, ◌&&◌, ◌||◌, List, [], ◌∷◌, map, eqb, leb, get_or, Option, Some, None}
use Rattle.std.specs.Int.Bits.{bit_and, bit_or}
use Rattle.std.specs.Int.Count.{ones}
use Rattle.formula.specs.declared.Shape.{Shape}
use Rattle.formula.specs.declared.Shape.TheVariants.{Identifier, Constant, Pair, Operator, Let, If, For, Iter}
use Rattle.formula.specs.Sheet.{named_in}
use Rattle.formula.specs.Count.{Count}
use Rattle.sheet_count.specs.declared.count.Own.{Own}
use Rattle.sheet_tables.specs.Nodes.{node_at, returned_in, count_in}
use Rattle.sheet_tables.specs.Loops.{loops_of}
use Rattle.sheet_tables.specs.Masks.{trigger_mask, outside, plain_mask}

abbrev pub own : ℕ → ℕ → Own
own g k = record { gates = g; copies = k; joins = 0 }

-- "A name .. used k times, k above 1, passes k-1 two-way copies": one copy for each name of both parts.
abbrev pub sharing : ℕ → ℕ → ℕ
sharing m d = ones (bit_and m d)

abbrev pub if_copies : ℕ → ℕ → ℕ → ℕ
if_copies x y z = sharing x (bit_or y z) + sharing y z

-- "a T gate on each free name of arm b and an F gate on each of arm c"
abbrev pub arm_gates : ℕ → ℕ → ℕ
arm_gates y z = ones y + ones z

-- An expression if: "also an M gate on each result"; the test's output is used by each gate.
abbrev pub exp_if : ℕ → ℕ → ℕ → ℕ → Own
exp_if x y z w = own (arm_gates y z + w) (if_copies x y z + (arm_gates y z + w - 1))

-- A for: "FM on its identifiers and FS on the body's other names"; iter? is used by each of them.
abbrev pub for_own : ℕ → ℕ → ℕ → ℕ → Own
for_own x y a k = own (ones y) (sharing x (outside y a k) + (ones y - 1))

-- A body if: v is the iterated width of arm b, w the loop's returned width, e and f are the arms' ends.
abbrev pub both_iterate : ℕ → ℕ → Bool
both_iterate e f = leb 2 e && leb 2 f

abbrev pub one_returns : ℕ → ℕ → Bool
one_returns e f = not (eqb e 2) || not (eqb f 2)

abbrev pub body_if : ℕ → ℕ → ℕ → ℕ → ℕ → ℕ → ℕ → Own
body_if x y z v w e f =
    record {
      gates = arm_gates y z + cond (both_iterate e f) v 0 + cond (one_returns e f) w 0;
      copies = if_copies x y z + arm_gates y z + cond (both_iterate e f) (v - 1) 0 + (w - 1);
      joins = 1;
    }

-- A row read as an expression; a let in a body place has the same, and an iter its true constant.
unfoldable pub plain_own : (ℕ → ℕ) → (ℕ → ℕ) → Shape → Own
plain_own M R (Identifier a) = own 0 0
plain_own M R (Constant k a) = own 1 0
plain_own M R (Pair x y) = own 0 (sharing (M x) (M y))
plain_own M R (Operator k x) = own 1 0
plain_own M R (Let a k x y) = own 0 (sharing (M x) (outside (M y) a k))
plain_own M R (If x y z) = exp_if (M x) (M y) (M z) (R y)
plain_own M R (For a k x y) = for_own (M x) (M y) a k
plain_own M R (Iter x) = own 1 (sharing trigger_mask (M x))

-- A returned expression has its false constant besides.
abbrev pub ended : Own → ℕ → Own
ended o m = record { gates = o.gates + 1; copies = o.copies + sharing trigger_mask m; joins = o.joins }

-- A row in a body place; I and F have the iterated widths and the ends of earlier rows, w is the loop's returned width.
unfoldable pub body_own : (ℕ → ℕ) → (ℕ → ℕ) → (ℕ → ℕ) → (ℕ → ℕ) → ℕ → Shape → Own
unfolding plain_own plain_mask
body_own M R I F w (Identifier a) = ended (plain_own M R (Identifier a)) (plain_mask M (Identifier a))
body_own M R I F w (Constant k a) = ended (plain_own M R (Constant k a)) (plain_mask M (Constant k a))
body_own M R I F w (Pair x y) = ended (plain_own M R (Pair x y)) (plain_mask M (Pair x y))
body_own M R I F w (Operator k x) = ended (plain_own M R (Operator k x)) (plain_mask M (Operator k x))
body_own M R I F w (Let a k x y) = plain_own M R (Let a k x y)
body_own M R I F w (If x y z) = body_if (M x) (M y) (M z) (I y) w (F y) (F z)
body_own M R I F w (For a k x y) = ended (plain_own M R (For a k x y)) (plain_mask M (For a k x y))
body_own M R I F w (Iter x) = plain_own M R (Iter x)

abbrev pub own_by : Bool → (ℕ → ℕ) → (ℕ → ℕ) → (ℕ → ℕ) → (ℕ → ℕ) → ℕ → Shape → Own
own_by true M R I F w s = body_own M R I F w s
own_by false M R I F w s = plain_own M R s

abbrev pub own_operators : Own → ℕ
own_operators o = o.gates + o.copies + o.joins

abbrev pub total : List ℕ → ℕ
total [] = 0
total (x ∷ xs) = x + total xs

-- The sum of what C says of the rows that a row names.
abbrev pub named_total : (ℕ → ℕ) → Shape → ℕ
named_total C s = total (map C (named_in s))

-- No number in it is so large that a row's sums could overflow.
pub record Small (k : ℕ) (o : Own) : Type 0 where
  pub gates : o.gates ≤ k
  pub copies : o.copies ≤ k
  pub joins : o.joins ≤ 1

-- The count of row r and all below it; a body's row is counted with the returned width of its whole loop.
abbrev pub count_at : List ℕ → List Bool → ℕ → ℕ → Count
count_at t p n r = count_in (get_or (loops_of t p (λ k. returned_in (node_at t p k)) n) (r - 1) 0) (node_at t p r)

-- Test 10: "over 1,024 operators".
abbrev pub total_of : ℕ → Option ℕ
total_of k = cond (leb k 1024) (Some k) None
