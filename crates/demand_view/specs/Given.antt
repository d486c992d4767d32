-- What a firing gives and the register it leaves are values in their range, where the tokens it takes and its register are (document 01, "Values and
-- operators": "a whole number from -2,147,483,648 to 2,147,483,647"). One line a row of the table of rules (network/specs/Rules). Assumes nothing.
use Rattle.std.specs.Prelude.{ℕ, ◌≡◌, Bool, true, false}
use Rattle.value.specs.declared.Value.{Value}
use Rattle.value.specs.Bytes.{InRange}
use Rattle.value.specs.declared.Sense.{Sense}
use Rattle.value.specs.declared.Sense.TheVariants.{True, False, Neither}
use Rattle.value.specs.Senses.{sense}
use Rattle.network.specs.Values.{err-value, one-operand}
use Rattle.network.specs.Rules.{Kind, constant, copy, operator, T-gate, F-gate, M-gate, E-gate, IC-gate, FM-gate, FS-gate, Register, Firing, takes, gives, never, Input, T-rule, F-rule, M-rule, E-rule, chosen, as-truth, IC-table, fired, FS-rule, operator-rule, rule}
use Rattle.network.specs.Decide.{Taken, also, untouched, Decision, with-head, decided, decide}
use Rattle.demand_view.specs.Stands.{Fine}

abbrev pub Gives-fine : Firing → Type 0
Gives-fine (takes i k) = (v : Value) → InRange v → Gives-fine (k v)
Gives-fine (gives a b c g) = Fine a × Fine b × Fine c × Fine g
Gives-fine never = Unit {0}

abbrev pub Fine-decision : Decision → Type 0
Fine-decision d = Fine d.give1 × Fine d.give2 × Fine d.give3 × Fine d.register
