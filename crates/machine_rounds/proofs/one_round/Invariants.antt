use Prim.Native.Nat.{◌-◌}
use Rattle.machine_rounds.specs.RoundLaws.{Sweeping}
use Rattle.machine_rounds.proofs.one_round.Given as goal

abbrev pub invariant-loop-i : goal.invariant-loop-i
invariant-loop-i l = Sweeping l.initial.mem l.links.size l.n l.mem l.fired l.i
