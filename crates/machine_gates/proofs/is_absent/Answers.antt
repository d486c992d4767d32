use Rattle.machine_gates.proofs.Senses.{absent-word}
use Rattle.machine_gates.proofs.is_absent.Goals as goal

pub returns : goal.returns
returns c = λ t e. rw e (absent-word t)
