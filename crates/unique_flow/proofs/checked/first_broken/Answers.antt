use Rattle.std.proofs.Common.{◌≡◌, Option, ap, false, sym, ◌∙◌}
use Rattle.check_faults.specs.Faults.{fault_of, faults_of, number_of}
use Rattle.check_faults.specs.declared.fault.Fault.{Fault}
use Rattle.source_typing.specs.Faults.{is_of_flow}
use Rattle.unique_flow.proofs.Firsts.{first_is_sooner, first_stays, sooner_is_some}
use Rattle.unique_flow.proofs.checked.first_broken.Goals as goal

pub returns-in-Some : goal.returns-in-Some
returns-in-Some c =
    let p = c.args.program.now in
    first_is_sooner p c.args.broken c.in_ok-flow.flow c.requires c.in_ok-flow.ensures ∙ ap (λ (f : Option Fault). faults_of f)
    (sym c.sooner.ensures ∙ c.in-Some.is)

pub returns-in-None : goal.returns-in-None
returns-in-None c = absurd (sooner_is_some c.args.broken c.in_ok-flow.flow (sym c.sooner.ensures ∙ c.in-None.is))

pub returns-then-not-is_of_flow : goal.returns-then-not-is_of_flow
returns-then-not-is_of_flow c =
    let early : is_of_flow (number_of c.args.broken.kind) ≡ false = sym c.if-not-is_of_flow.ensures in
    first_stays c.args.program.now (fault_of c.args.broken) c.requires early
