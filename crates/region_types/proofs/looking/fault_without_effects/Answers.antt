use Rattle.std.proofs.Common.{sym, ap, ◌∙◌}
use Rattle.check_faults.specs.Faults.{faults_of}
use Rattle.region_types.proofs.EasedPrograms.{none_of_types}
use Rattle.region_types.proofs.looking.fault_without_effects.Goals as goal

pub returns-in-None : goal.returns-in-None
returns-in-None c = sym (none_of_types c.args.program.now (sym c.requires ∙ ap faults_of c.in-None.is))
