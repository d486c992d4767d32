use Rattle.machine_layout.proofs.input_link.Goals as goal

-- antt refused `input-link-spec` as it was built: the module's report says why

pub returns : goal.returns
returns c = c.name_at.ensures
