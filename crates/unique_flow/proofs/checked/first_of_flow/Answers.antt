use Rattle.std.proofs.Common.{◌≡◌, Option, ap, ◌∙◌}
use Rattle.std.proofs.lemmas.Result.{IfOk-weaker}
use Rattle.cyc_tree.specs.Tree.{Program}
use Rattle.source_typing.specs.Answers.{first_fault}
use Rattle.source_typing.specs.Faults.{earliest}
use Rattle.source_typing.specs.Left.{flow_faults}
use Rattle.check_faults.specs.Faults.{faults_of}
use Rattle.check_faults.specs.declared.fault.Fault.{Fault}
use Rattle.unique_flow.specs.Faults.{IsOfFlowIfSome}
use Rattle.unique_flow.proofs.Firsts.{first_is_of_flow, found_flow}
use Rattle.unique_flow.proofs.checked.first_of_flow.Goals as goal

pub returns-clause-first : goal.returns-clause-first
returns-clause-first c =
    let p = c.args.effected.now in
    let found = λ (q : Program) (f : Option Fault). faults_of f ≡ earliest (flow_faults q) in
    IfOk-weaker c.flow_fault.result (found c.program.result.now) (λ f. faults_of f ≡ first_fault p)
    (λ f e. e ∙ ap (λ (q : Program). earliest (flow_faults q)) c.program.ensures.same
    ∙ first_is_of_flow p c.program.ensures.faultless) c.flow_fault.ensures

pub returns-clause-of_flow : goal.returns-clause-of_flow
returns-clause-of_flow c =
    let found = λ (q : Program) (f : Option Fault). faults_of f ≡ earliest (flow_faults q) in
    IfOk-weaker c.flow_fault.result (found c.program.result.now) (λ f. IsOfFlowIfSome (faults_of f))
    (λ f e. found_flow f c.program.result.now e) c.flow_fault.ensures
