use Rattle.machine_firing.proofs.set_register.Goals as goal

pub returns : goal.returns
returns c = rw c.register_at-at.ensures at c.store.ensures
