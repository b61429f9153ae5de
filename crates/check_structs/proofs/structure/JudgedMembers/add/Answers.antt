use Rattle.std.proofs.Common.{ap, ◌∙◌}
use Rattle.cyc_types.specs.Types.{static_type}
use Rattle.check_faults.proofs.Earliest.{found_sooner}
use Rattle.check_faults.proofs.Shortened.{fault_same}
use Rattle.check_faults.specs.Faults.{faults_of, first_of}
use Rattle.check_structs.proofs.structure.JudgedMembers.add.Goals as goal

pub returns-clause-fault : goal.returns-clause-fault
returns-clause-fault c =
    ap faults_of c.sooner-self.ensures
    ∙ found_sooner c.args.self.now.fault c.fault.result
    ∙ ap (first_of (faults_of c.args.self.now.fault)) (ap faults_of c.fault.ensures ∙ fault_same static_type c.args.of)
