-- Each gate's decision in the code is what the table of rules says, kind by kind. A further case of a value changes nothing here: only
-- whether a token is true, false or neither matters. Assumes nothing.
use Rattle.std.specs.Prelude.{Option}
use Rattle.value.specs.declared.Value.{Value}
use Rattle.network.specs.Rules.{Kind}
use Rattle.network.specs.Decide.{decide}
use Rattle.machine_gates.specs.Decide.{Decided, optional, heads, told}

abbrev pub says : Kind → Option Value → Option Value → Option Value → Option Value → Decided
says k a b c g = told (decide k (optional g) (heads a b c))
