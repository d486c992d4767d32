use native.Mathlib.Omega.{arith}
use mathlib.Core.Path.{◌≡◌}
use Prim.Native.Nat.{◌+◌, ◌-◌}
use Rattle.machine_valid.specs.Valid.{link_ok_from}
use Rattle.machine_valid.proofs.link_ok.Goals as goal

pub returns : goal.returns
unfolding link_ok_from
returns c = let k : c.link_from-a.result + c.args.links.size - c.link_from-a.result ≡ c.args.links.size = omega arith in (rw (k, c.link_from-a.ensures.0) at c.stretch_ok.ensures)
