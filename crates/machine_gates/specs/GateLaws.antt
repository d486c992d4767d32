-- What the gates' decisions have in common: the register that they leave. Assumes nothing.
use Rattle.std.specs.Prelude.{◌≡◌, true, Option}
use Rattle.value.specs.declared.Value.{Value}
use Rattle.machine_gates.specs.Decide.{Decided}

-- ---- the register that is left
abbrev pub Leaves : Option Value → Decided → Type 0
Leaves g d = d.able ≡ true → d.register ≡ g
