use Rattle.session.specs.Reading.{Continued}
use Rattle.session_run.proofs.see_rest.Given as goal

abbrev pub invariant-loop : goal.invariant-loop
invariant-loop g l = Continued l.initial.y l.y
