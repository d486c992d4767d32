use native.Mathlib.Omega.{arith}
use Rattle.maker_parts.proofs.fork.Goals as goal

-- antt refused `fork-spec` as it was built: the module's report says why

pub returns : goal.returns
returns c = record { first-is = c.deal-first.ensures; second_is = c.deal-second.ensures; memory = c.share.ensures; links = omega (arith, c.names_in-k.ensures.0); operators = omega (arith, c.names_in-k.ensures.0) }
