use Rattle.std.proofs.Common.{IfOk, None, ap, map, subst, sym, ◌++◌, ◌∙◌, ◌≡◌}
use Rattle.cyc_tree.specs.View.{clause_tree, clauses_of}
use Rattle.source_typing.specs.Faults.{earliest}
use Rattle.source_typing.specs.Statements.{switched}
use Rattle.check_operators.specs.Values.{value_of}
use Rattle.source_typing.specs.Verdicts as verdict
use Rattle.check_faults.specs.Faults.{fault_of, faults_of}
use Rattle.check_heads.proofs.Answered.{fault_is}
use Rattle.check_declarations.proofs.Blocks.{two_found}
use Rattle.check_statements.proofs.Clauses.{none_before, own_alone, own_kept}
use Rattle.check_statements.proofs.switch.switch_fault.Goals as goal

pub returns-in-Some : goal.returns-in-Some
returns-in-Some c = λ g v fs tags e h.
    let found =
    two_found c.fault.result c.args.inside c.sooner.result (verdict.faults_of v) fs c.sooner.ensures
    (ap faults_of c.fault.ensures ∙ fault_is value_of c.args.place.now v e) h in
    sym (own_kept _ (verdict.faults_of v ++ fs) (fault_of c.in-Some.fault) (sym found ∙ ap faults_of c.in-Some.is))

pub returns-in-None : goal.returns-in-None
returns-in-None c = λ g v fs tags e h.
    let found =
    two_found c.fault.result c.args.inside c.sooner.result (verdict.faults_of v) fs c.sooner.ensures
    (ap faults_of c.fault.ensures ∙ fault_is value_of c.args.place.now v e) h in
    let none : None ≡ earliest (verdict.faults_of v ++ fs) = sym (ap faults_of c.in-None.is) ∙ found in
    let own = verdict.faults_of (verdict.after v (switched g c.args.at (clauses_of (map clause_tree c.args.clauses.now)))) in
    subst (λ o. IfOk c.own_fault.result (λ f. faults_of f ≡ o)) (own_alone own (verdict.faults_of v ++ fs) none)
    (c.own_fault.ensures g v tags e (none_before (verdict.faults_of v) fs none))
