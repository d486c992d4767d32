use Rattle.machine_firing.specs.Links.{token_from}
use Rattle.machine_firing.proofs.token_of.Goals as goal

pub returns : goal.returns
unfolding token_from
returns c = rw c.head_of.ensures.0 at c.token_word.ensures
