-- Each gate's decision as the code makes it, by tests on its tokens one after the other. That this is what the table of rules says is
-- Tables.antt. Assumes nothing.
use Rattle.std.specs.Prelude.{ℕ, Bool, true, false, Option, Some, None}
use Rattle.value.specs.declared.Value.{Value}
use Rattle.value.specs.Operators.{pick}
use Rattle.network.specs.Values.{true-value, err-value, apply}
use Rattle.machine_gates.specs.Rows.{table, first_row}
use Rattle.machine_gates.specs.Decide.{Decided, does, idle, is_absent, is_true, is_false, is_neither}

abbrev pub applied : ℕ → Option Value → Option Value → Option Value
applied code (Some x) (Some y) = Some (apply code x y)
applied code (Some x) None = None
applied code None b = None

-- One token on the first output; a token that waits there, or not able; a token that waits taken and not given.
abbrev pub passes : Bool → Bool → Bool → Option Value → Option Value → Decided
passes t1 t2 t3 v g = does t1 t2 t3 v None None g

abbrev pub passing : Bool → Bool → Bool → Option Value → Option Value → Decided
passing t1 t2 t3 v g = pick (is_absent v) idle (passes t1 t2 t3 v g)

abbrev pub dropping : Bool → Bool → Bool → Option Value → Option Value → Decided
dropping t1 t2 t3 v g = pick (is_absent v) idle (passes t1 t2 t3 None g)

unfoldable pub unary_by : ℕ → Option Value → Option Value → Decided
unary_by code a g = pick (is_absent a) idle (passes true false false (applied code a (Some err-value)) g)

unfoldable pub binary_by : ℕ → Option Value → Option Value → Option Value → Decided
binary_by code a b g = pick (is_absent a) idle (pick (is_absent b) idle (passes true true false (applied code a b) g))

unfoldable pub constant_by : Option Value → Option Value → Decided
constant_by a g = pick (is_absent a) idle (passing true false false g g)

unfoldable pub copy_by : Option Value → Option Value → Decided
copy_by a g = pick (is_absent a) idle (does true false false a a None g)

unfoldable pub t_by : Option Value → Option Value → Option Value → Decided
t_by a b g = pick (is_absent a) idle (pick (is_true a) (passing true true false b g) (dropping true true false b g))

unfoldable pub f_by : Option Value → Option Value → Option Value → Decided
f_by a b g = pick (is_absent a) idle (pick (is_false a) (passing true true false b g) (dropping true true false b g))

unfoldable pub m_by : Option Value → Option Value → Option Value → Option Value → Decided
m_by a b c g =
    pick (is_absent a) idle
    (pick (is_true a) (passing true true false b g)
    (pick (is_false a) (passing true false true c g)
    (passes true false false (Some err-value) g)))

unfoldable pub e_by : Option Value → Option Value → Option Value → Decided
e_by a b g = pick (is_absent a) idle (pick (is_neither a) (passes true false false (Some err-value) g) (passing true true false b g))

-- Brock's table of the IC gate: the row that holds (Rows.antt).
unfoldable pub ic_by : Option Value → Option Value → Option Value → Option Value → Decided
ic_by a b c g = first_row table a b c g

unfoldable pub fm_by : Option Value → Option Value → Option Value → Option Value → Decided
unfolding m_by
fm_by a b c g = pick (is_absent g) (passing false false true c (Some true-value)) (m_by a b c (Some true-value))

unfoldable pub fs_by : Option Value → Option Value → Option Value → Decided
fs_by a b g =
    pick (is_absent g) (passing false true false b b)
    (pick (is_absent a) idle
    (pick (is_true a) (passes true false false g g)
    (passing true true false b b)))
