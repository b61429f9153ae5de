use Rattle.cyc_format.proofs.layout.format.Goals as goal

pub returns-in-Ok-clause-refused : goal.returns-in-Ok-clause-refused
returns-in-Ok-clause-refused c = c.in_ok-found.ensures.refused
