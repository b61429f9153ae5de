use Rattle.std.proofs.Common.{ap, ◌∙◌}
use Rattle.cyc_types.specs.Types.{static_type}
use Rattle.check_operators.specs.Values.{value_of}
use Rattle.check_faults.specs.Faults.{faults_of, sooner_found}
use Rattle.check_faults.specs.Verdicts.{fault_in}
use Rattle.check_faults.proofs.Shortened.{fault_same}
use Rattle.check_declarations.proofs.Declaring.{set_earliest}
use Rattle.check_declarations.proofs.local.set_fault.Goals as goal

pub returns : goal.returns
returns c g v t known e h =
    let of = ap faults_of c.fault.ensures ∙ fault_same static_type c.args.of.now ∙ ap fault_in h in
    let value = ap faults_of c.fault-2.ensures ∙ fault_same value_of c.args.value.now ∙ ap fault_in e in
    ap faults_of (c.sooner-2.ensures ∙ ap (λ o. sooner_found o c.in_ok-conversion.conversion) c.sooner.ensures)
    ∙ set_earliest g v t c.fault.result c.fault-2.result c.in_ok-conversion.conversion of value (c.in_ok-conversion.ensures g v t known e h)
