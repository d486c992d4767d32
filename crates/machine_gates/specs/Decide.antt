-- The machine's decision as the table of rules gives it (network's specs/Rules and specs/Decide): the kind by its byte, the first tokens of the
-- three inputs and the register as read from memory. What is no value in memory is no token here, and a register that is no value has not
-- fired yet: such memory is altered, and 31 comes first. Assumes nothing.
use Rattle.std.specs.Prelude.{ℕ, ◌≡◌, refl, Bool, true, false, not, Some, None}
use Rattle.std.proofs.Math.Option.{Option, some, none}
use Rattle.std.specs.Prelude as std
use Rattle.value.specs.declared.Value.{Value}
use Rattle.value.specs.Bytes.{decoded}
use Rattle.value.specs.declared.Sense.{Sense}
use Rattle.value.specs.declared.Sense.TheVariants.{True, False, Neither}
use Rattle.value.specs.Senses.{sense}
use Rattle.network.specs.Rules.{Kind, Input, first, second, third, as-truth}
use Rattle.network.specs.Decide.{Decision, decide}
use Rattle.machine_layout.specs.Kinds.{kind_of}

-- The decision of a firing: which inputs it takes from, what it gives, which register it leaves. Without `able` a token that the rule wants does
-- not wait.
pub record Decided : Type 0 where
  pub able : Bool
  pub take1 : Bool
  pub take2 : Bool
  pub take3 : Bool
  pub give1 : std.Option Value
  pub give2 : std.Option Value
  pub give3 : std.Option Value
  pub register : std.Option Value

abbrev pub optional : std.Option Value → Option Value
optional (Some v) = some v
optional None = none

-- the first token of each input, none where nothing waits
abbrev pub heads : std.Option Value → std.Option Value → std.Option Value → Input → Option Value
heads a b c first = optional a
heads a b c second = optional b
heads a b c third = optional c

abbrev pub does : Bool → Bool → Bool → std.Option Value → std.Option Value → std.Option Value → std.Option Value → Decided
does t1 t2 t3 a b c g = record { able = true; take1 = t1; take2 = t2; take3 = t3; give1 = a; give2 = b; give3 = c; register = g }

abbrev pub idle : Decided
idle = record { able = false; take1 = false; take2 = false; take3 = false; give1 = None; give2 = None; give3 = None; register = None }

-- the table's decision in these words
abbrev pub told : Option Decision → Decided
told none = idle
told (some d) =
    does d.taken.take1 d.taken.take2 d.taken.take3 (decoded d.give1) (decoded d.give2) (decoded d.give3) (decoded d.register)

-- a byte that is no kind's decides nothing
abbrev pub ruled : Option Kind → std.Option Value → std.Option Value → std.Option Value → std.Option Value → Option Decision
ruled none a b c g = none
ruled (some k) a b c g = decide k (optional g) (heads a b c)

-- THE DECISION: what the table of rules says.
unfoldable pub decide_at : ℕ → std.Option Value → std.Option Value → std.Option Value → std.Option Value → Decided
decide_at kind a b c g = told (ruled (kind_of kind) a b c g)

-- ---- what the code asks of a token
abbrev pub is_absent : std.Option Value → Bool
is_absent (Some v) = false
is_absent None = true

abbrev pub true_sense : Sense → Bool
true_sense True = true
true_sense False = false
true_sense Neither = false

abbrev pub false_sense : Sense → Bool
false_sense True = false
false_sense False = true
false_sense Neither = false

abbrev pub neither_sense : Sense → Bool
neither_sense True = false
neither_sense False = false
neither_sense Neither = true

abbrev pub is_true : std.Option Value → Bool
is_true (Some v) = true_sense (sense v)
is_true None = false

abbrev pub is_false : std.Option Value → Bool
is_false (Some v) = false_sense (sense v)
is_false None = false

abbrev pub is_neither : std.Option Value → Bool
is_neither (Some v) = neither_sense (sense v)
is_neither None = false

-- "A chosen input that is no truth, in altered memory, counts as false."
abbrev pub counts_false : std.Option Value → Bool
counts_false (Some v) = not (as-truth (sense v))
counts_false None = false
