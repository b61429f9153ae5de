use Rattle.std.proofs.Common.{◌≡◌, IfOk, OnOk, subst, sym}
use Rattle.cyc_tree.specs.View.{declaration_tree, name_tree}
use Rattle.source_typing.specs.Faults.{earliest}
use Rattle.check_faults.specs.Faults.{faults_of}
use Rattle.check_declarations.specs.Contexts.{StandsIn}
use Rattle.check_declarations.specs.Declaring.{own_faults, own_scope, own_what}
use Rattle.check_scopes.specs.Matching.{AreLocals}
use Rattle.check_declarations.proofs.Declaring.{both_faults, both_scopes}
use Rattle.check_declarations.proofs.Owned.{own_locals}
use Rattle.check_declarations.proofs.declaration.declare.Goals as goal

pub returns-clause-fault : goal.returns-clause-fault
returns-clause-fault c g h =
    let d = declaration_tree c.args.declaration.now in
    let n = name_tree c.local.result.now in
    let stands = c.in_ok-local.ensures.stands g c.args.outer h in
    subst (λ fs. IfOk c.add_local.result (λ f. faults_of f ≡ earliest fs)) (both_faults g d n c.local.ensures)
    (c.add_local.ensures.fault (own_scope g d) (own_faults g d) (own_what g d) stands.block (c.in_ok-local.ensures.judged g h.known h.suits))

pub returns-clause-known : goal.returns-clause-known
returns-clause-known c g h =
    let d = declaration_tree c.args.declaration.now in
    let n = name_tree c.local.result.now in
    subst (λ e. OnOk c.add_local.result (StandsIn c.args.context c.declared_own.new.names c.args.outer c.add_local.new.scope e))
    (both_scopes g d n c.local.ensures)
    (c.add_local.ensures.stands c.args.context c.declared_own.new.names (own_scope g d) (own_faults g d) (own_what g d)
    (c.in_ok-local.ensures.stands g c.args.outer h) (c.in_ok-local.ensures.judged g h.known h.suits))

pub returns-clause-locals : goal.returns-clause-locals
returns-clause-locals c g h same =
    let d = declaration_tree c.args.declaration.now in
    let n = name_tree c.local.result.now in
    let stands = c.in_ok-local.ensures.stands g c.args.outer h in
    let own : AreLocals c.declared_own.new.scope.locals (own_scope g d).locals =
    subst (λ ls. AreLocals ls (own_scope g d).locals) (sym c.in_ok-local.ensures.locals)
    (subst (AreLocals c.args.scope.now.locals) (sym (own_locals g d)) same) in
    subst (λ e. OnOk c.add_local.result (AreLocals c.add_local.new.scope.locals e.locals)) (both_scopes g d n c.local.ensures)
    (c.add_local.ensures.locals (own_scope g d) (own_faults g d) (own_what g d) stands.block (c.in_ok-local.ensures.judged g h.known h.suits) own)
