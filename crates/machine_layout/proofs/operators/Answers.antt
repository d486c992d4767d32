use Rattle.machine_layout.proofs.operators.Goals as goal

-- antt refused `operators-spec` as it was built: the module's report says why

pub returns : goal.returns
returns c = c.number_at.ensures
