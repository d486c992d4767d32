use Rattle.machine_gates.proofs.Senses.{false-word}
use Rattle.machine_gates.proofs.is_false.Goals as goal

pub returns : goal.returns
returns c = λ t e. rw e (false-word t)
