use Rattle.std.proofs.Common.{ap, sym, ◌++◌, ◌∙◌}
use Rattle.check_operators.specs.Values.{value_of}
use Rattle.source_typing.specs.Verdicts as verdict
use Rattle.check_faults.proofs.Shortened.{shortened_faulty}
use Rattle.check_faults.specs.Faults.{fault_of, faults_of}
use Rattle.check_heads.proofs.Answered.{fault_is}
use Rattle.check_declarations.proofs.Blocks.{two_found}
use Rattle.check_declarations.proofs.opening.opened_by.Goals as goal

pub returns-in-Some-default : goal.returns-in-Some-default
returns-in-Some-default c = λ v fs e h.
    let found =
    two_found c.fault.result c.args.unknown c.sooner.result (verdict.faults_of v) fs c.sooner.ensures
    (ap faults_of c.fault.ensures ∙ fault_is value_of c.args.key.now v e) h in
    sym (shortened_faulty (verdict.faults_of v ++ fs) _ (fault_of c.in-Some-default.fault) (sym found ∙ ap faults_of c.in-Some-default.is-0))
