use Prim.Native.Nat.{◌-◌}
use Rattle.machine_rounds.specs.RoundLaws.{Rounding}
use Rattle.machine_rounds.proofs.make_rounds.Given as goal

abbrev pub invariant-loop-rounds : goal.invariant-loop-rounds
invariant-loop-rounds l = Rounding l.initial.mem l.links.size l.n l.lent l.mem l.rounds l.firings
