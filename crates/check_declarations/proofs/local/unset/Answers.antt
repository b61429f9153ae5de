use Rattle.std.proofs.Common.{ap, subst, ◌∙◌}
use Rattle.cyc_tree.specs.View.{type_tree}
use Rattle.cyc_types.specs.Regions.{region_of}
use Rattle.cyc_types.specs.Types.{static_type}
use Rattle.source_typing.specs.Declarations.{unset_type, what_of}
use Rattle.source_typing.specs.Verdicts as verdict
use Rattle.check_faults.specs.Faults.{faults_of}
use Rattle.check_faults.specs.Verdicts.{fault_in}
use Rattle.check_faults.proofs.Shortened.{fault_same}
use Rattle.check_declarations.specs.Declaring.{Matches}
use Rattle.check_heads.proofs.Answered.{earliest_in}
use Rattle.check_declarations.proofs.Declaring.{what_unset}
use Rattle.check_declarations.proofs.local.unset.Goals as goal

pub returns : goal.returns
returns c g known suits =
    let count = c.args.count in
    let t = unset_type g (type_tree c.args.of.now) count in
    let fs = verdict.faults_of t in
    let r = c.judged_as.result in
    let judged = c.in_ok-found.ensures g known suits in
    let found = ap faults_of c.fault.ensures ∙ fault_same static_type c.in_ok-found.found ∙ ap fault_in judged ∙ earliest_in t in
    subst (λ a. Matches fs (what_of a count t) r) suits.frame
    (subst (λ w. Matches fs w r) (what_unset (region_of c.args.context.frame) count t) (c.judged_as.ensures fs t found judged))
