use Rattle.machine_layout.proofs.result_link.Goals as goal

-- antt refused `result-link-spec` as it was built: the module's report says why

pub returns : goal.returns
returns c = c.name_at.ensures
