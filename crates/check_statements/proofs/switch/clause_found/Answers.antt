use Rattle.std.proofs.Common.{ap, sym, ◌∙◌}
use Rattle.std.specs.Prelude.{not, option_map, ◌&&◌, ◌++◌}
use Rattle.cyc_tree.proofs.PartForms.{clause_parts}
use Rattle.cyc_tree.specs.View.{OneClause, clause_tree}
use Rattle.source_typing.specs.Faults.{earliest, test, type_rule}
use Rattle.source_typing.specs.Statements.{clause_names, clause_scope, items_faults}
use Rattle.source_typing.specs.Ways.{ways_of_items}
use Rattle.check_declarations.specs.Switching.{switched_in}
use Rattle.check_declarations.proofs.Blocks.{two_found}
use Rattle.check_statements.proofs.switch.clause_found.Goals as goal

pub returns : goal.returns
returns c = λ g has inside.
    let reached = c.args.reached in
    let u = option_map switched_in c.args.union.now in
    let o = clause_tree c.args.clause.now in
    let names = clause_names g u o.pattern in
    let body = items_faults (clause_scope g u o.pattern) reached o.body in
    let pattern = c.pattern_fault-pattern.ensures g has
    ∙ ap (λ (q : OneClause). earliest (clause_names g u q.pattern)) (sym (clause_parts c.args.clause.now)) in
    c.first_or.ensures (names ++ body) (test (not (reached && (ways_of_items o.body).falls)) type_rule o.at)
    (two_found c.pattern_fault-pattern.result c.args.inside c.sooner.result names body c.sooner.ensures pattern inside) c.end_fault-end.ensures
