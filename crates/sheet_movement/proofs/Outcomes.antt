-- Laws of specs/Outcomes.antt, and what only they need.
use Rattle.std.specs.Prelude.{ℕ, List}
use Rattle.value.specs.declared.Value.{Value}
use Rattle.meaning.specs.Meaning.{Outcome, yields, then}
use Rattle.sheet_movement.specs.Outcomes.{Each, Any}

pub any : (o : Outcome) → Each Any o
any (yields vs l) = tt
any Outcome.unfinished = tt

pub then-each : (P Q : List Value → Type 0) (o : Outcome) (f : List Value → ℕ → Outcome) → Each P o → ((vs : List Value) (l : ℕ) → P vs → Each Q (f vs l))
    → Each Q (then o f)
unfolding then
then-each P Q (yields vs l) f h k = k vs l h
then-each P Q Outcome.unfinished f h k = tt
