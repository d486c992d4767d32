-- Laws of specs/Decide.antt, and what only they need.
use Rattle.std.specs.Prelude.{◌≡◌, refl, Option, Some, None}
use Rattle.value.specs.declared.Value.{Value}
use Rattle.value.specs.Bytes.{decoded}
use Rattle.machine_gates.specs.Decide.{optional}

pub read_back : (g : Option Value) → decoded (optional g) ≡ g
read_back (Some v) = refl
read_back None = refl
