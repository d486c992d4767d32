-- All that the network uses of a value beside its sense (value's specs/Senses): the three values that gates make themselves, and what an
-- operator computes.
use Rattle.std.specs.Prelude.{ℕ, Bool, true, false, ◌||◌, eqb}
use Rattle.value.specs.declared.Value.{Value}
use Rattle.value.specs.declared.Value.TheVariants.{Truth}
use Rattle.value.specs.Senses.{err}
use Rattle.value.specs.Operators as Operators

abbrev pub true-value : Value
true-value = Truth true

abbrev pub false-value : Value
false-value = Truth false

abbrev pub err-value : Value
err-value = err

-- Whether the operator of a code takes one operand: "10 and 11 take one operand, the rest two".
abbrev pub one-operand : ℕ → Bool
one-operand code = eqb code 10 || eqb code 11

-- What the operator of a code gives; one that takes a single operand does not look at the second.
abbrev pub apply : ℕ → Value → Value → Value
apply = Operators.apply
