use native.Mathlib.Omega.{arith}
use Prim.Native.Nat.{◌+◌, ◌-◌}
use mathlib.Core.Path.{◌≡◌}
use Rattle.machine_runs.proofs.waiting_on.Goals as goal

pub returns : goal.returns
returns c = let k : c.link_from-a.result + c.args.links.size - c.link_from-a.result ≡ c.args.links.size = omega arith in rw (k, c.link_from-a.ensures.0) at c.waiting.ensures
