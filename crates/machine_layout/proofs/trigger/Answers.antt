use Rattle.machine_layout.proofs.trigger.Goals as goal

-- antt refused `trigger-spec` as it was built: the module's report says why

pub returns : goal.returns
returns c = c.number_at.ensures
