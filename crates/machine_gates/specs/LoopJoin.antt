-- Each able firing of an IC gate falls under exactly one row of Brock's table (Rows.antt), one that is not able under none, and what is decided is
-- that row's. Assumes nothing.
use Rattle.std.specs.Prelude.{ℕ, ◌+◌, ◌≡◌, ◌⊎◌, Bool, true, false, cond, List, [], ◌∷◌, Option, Some, None}
use Rattle.value.specs.declared.Value.{Value}
use Rattle.value.specs.Operators.{pick}
use Rattle.network.specs.Values.{true-value, false-value, err-value}
use Rattle.machine_gates.specs.Decide.{Decided, does, idle}
use Rattle.machine_gates.specs.Rows.{Row}

-- the same over what the five rows say, p to t in their order
abbrev pub count : Bool → Bool → Bool → Bool → Bool → ℕ
count p q r s t = cond p 1 0 + (cond q 1 0 + (cond r 1 0 + (cond s 1 0 + (cond t 1 0 + 0))))

abbrev pub first : Option Value → Bool → Bool → Bool → Bool → Bool → Decided
first g p q r s t =
    pick p (does true true false (Some true-value) (Some true-value) None g)
    (pick q (does true true false (Some false-value) None (Some true-value) g)
    (pick r (does true false true (Some true-value) (Some false-value) None g)
    (pick s (does true false true (Some false-value) None (Some false-value) g)
    (pick t (does true false false (Some false-value) None (Some err-value) g)
    idle))))

-- ---- what the one row does
-- r stands in a list of rows
abbrev pub Among : Row → List Row → Type 0
Among r [] = ⊥
Among r (x ∷ rs) = (x ≡ r) ⊎ Among r rs
