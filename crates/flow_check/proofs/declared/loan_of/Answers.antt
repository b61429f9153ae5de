use Rattle.std.proofs.Common.{ap, ◌∙◌}
use Rattle.flow_summaries.specs.Uses.{number_of}
use Rattle.check_scopes.specs.Linked.{position_of}
use Rattle.flow_check.proofs.Beginning.{same_loan}
use Rattle.flow_check.proofs.Located.{same_position}
use Rattle.flow_check.proofs.declared.loan_of.Goals as goal

pub returns : goal.returns
returns c g rest same =
    let x = c.args.name.now in
    same_loan c.args.at x c.position.result (number_of g.locals x.text.items) rest
    (c.position.ensures ∙ ap (position_of c.args.scope.now.locals) c.deref.ensures.value
    ∙ same_position x.text.items c.args.scope.now.locals g.locals same)
