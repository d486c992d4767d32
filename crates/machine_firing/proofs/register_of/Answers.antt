use Rattle.machine_firing.specs.Fire.{register_of}
use Rattle.machine_firing.proofs.register_of.Goals as goal

pub returns : goal.returns
unfolding register_of
returns c = rw (c.load.ensures.0, c.register_at.ensures) at c.token_word.ensures
