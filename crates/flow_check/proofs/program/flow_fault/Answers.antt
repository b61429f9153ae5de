use Rattle.std.proofs.Common.{ap, sym, ◌∙◌, ◌≡◌}
use Rattle.std.proofs.lemmas.Result.{IfOk-weaker}
use Rattle.cyc_tree.specs.Tree.{Program}
use Rattle.cyc_tree.specs.View.{program_tree}
use Rattle.flow_summaries.proofs.Statements.{flow_told}
use Rattle.flow_summaries.specs.Statements.{fault_of_flow}
use Rattle.source_typing.specs.Faults.{earliest}
use Rattle.source_typing.specs.Left.{flow_faults}
use Rattle.check_faults.specs.Faults.{faults_of}
use Rattle.flow_check.proofs.program.flow_fault.Goals as goal

pub returns : goal.returns
returns c =
    let all = program_tree c.items-items.result.now in
    IfOk-weaker c.known_flow.result (λ f. f ≡ fault_of_flow all) (λ f. faults_of f ≡ earliest (flow_faults c.args.program.now))
    (λ f e. ap faults_of e ∙ sym (flow_told all) ∙ ap (λ (q : Program). earliest (flow_faults q)) c.items-items.ensures.same)
    (c.known_flow.ensures (record { names = c.in_ok-tags.ensures.names; tables = c.in_ok-tags.ensures.tables }))
