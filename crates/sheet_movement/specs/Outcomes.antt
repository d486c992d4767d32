-- What holds of the values that an outcome yields, where it yields some. Assumes nothing.
use Rattle.std.specs.Prelude.{ℕ, List}
use Rattle.value.specs.declared.Value.{Value}
use Rattle.meaning.specs.Meaning.{Outcome, yields, then}

abbrev pub Each : (List Value → Type 0) → Outcome → Type 0
Each P (yields vs l) = P vs
Each P Outcome.unfinished = Unit {0}

abbrev pub Any : List Value → Type 0
Any vs = Unit {0}
