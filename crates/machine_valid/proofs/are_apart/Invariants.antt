use Rattle.std.proofs.Common.{◌≡◌, drop}
use Rattle.machine_valid.specs.Ports.{apart}
use Rattle.machine_valid.proofs.are_apart.Given as goal

abbrev pub invariant-loop-i : goal.invariant-loop-i
invariant-loop-i g l = apart l.links l.names ≡ apart l.links (drop l.i l.names)
