use Rattle.machine_gates.proofs.Senses.{true-word}
use Rattle.machine_gates.proofs.is_true.Goals as goal

pub returns : goal.returns
returns c = λ t e. rw e (true-word t)
