-- Brock's table of the IC gate (section 2.4) as a list of cases, one beside the other, in his order. Document 02: "A chosen input that is no
-- truth, in altered memory, counts as false", which is how a case reads it. Assumes nothing.
use Rattle.std.specs.Prelude.{ℕ, ◌+◌, Bool, true, false, cond, ◌&&◌, List, [], ◌∷◌, Option, Some, None}
use Rattle.value.specs.declared.Value.{Value}
use Rattle.value.specs.Operators.{pick}
use Rattle.network.specs.Values.{true-value, false-value, err-value}
use Rattle.machine_gates.specs.Decide.{Decided, does, idle, is_true, is_false, is_neither, counts_false}

-- A row: when it holds, by the tokens that wait first on control, input 2 and input 3; what is done then, with the register that is left.
pub record Row : Type 0 where
  pub holds : Option Value → Option Value → Option Value → Bool
  pub acts : Option Value → Decided

abbrev row : (Option Value → Option Value → Option Value → Bool) → (Option Value → Decided) → Row
row h d = record { holds = h; acts = d }

-- the control, the iter? that it chooses; the graph's iter?, the I control, the R control
abbrev pub table : List Row
table =
    row (λ a b c. is_true a && is_true b) (λ g. does true true false (Some true-value) (Some true-value) None g)
    ∷ row (λ a b c. is_true a && counts_false b) (λ g. does true true false (Some false-value) None (Some true-value) g)
    ∷ row (λ a b c. is_false a && is_true c) (λ g. does true false true (Some true-value) (Some false-value) None g)
    ∷ row (λ a b c. is_false a && counts_false c) (λ g. does true false true (Some false-value) None (Some false-value) g)
    ∷ row (λ a b c. is_neither a) (λ g. does true false false (Some false-value) None (Some err-value) g)
    ∷ []

-- how many rows hold
abbrev pub holding : List Row → Option Value → Option Value → Option Value → ℕ
holding [] a b c = 0
holding (r ∷ rs) a b c = cond (r.holds a b c) 1 0 + holding rs a b c

-- the first row that holds; nothing is done where none does
abbrev pub first_row : List Row → Option Value → Option Value → Option Value → Option Value → Decided
first_row [] a b c g = idle
first_row (r ∷ rs) a b c g = pick (r.holds a b c) (r.acts g) (first_row rs a b c g)
