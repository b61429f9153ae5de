use Rattle.std.specs.Prelude.{not, true}
use Rattle.std.proofs.Common.{ap, ◌∙◌}
use Rattle.cyc_tree.specs.View.{function_tree}
use Rattle.source_typing.specs.Faults.{test, type_rule}
use Rattle.source_typing.specs.Functions.{body_scope, end_reached, head_of}
use Rattle.source_typing.specs.Statements.{items_faults}
use Rattle.check_faults.specs.Faults.{faults_of}
use Rattle.check_functions.proofs.Bodies.{function_found}
use Rattle.check_functions.proofs.body.function_fault.Goals as goal

pub returns : goal.returns
returns c g known =
    let lenient = c.args.lenient in
    let i = c.args.item in
    let f = function_tree c.args.function.now in
    let h = head_of lenient g f in
    let is = c.in_ok-head.ensures g known.tag_names in
    ap faults_of c.sooner.ensures
    ∙ function_found c.in_ok-head.head.fault c.in_ok-body.body c.end_fault-end.result c.first_or.result h.faults
    (items_faults (body_scope lenient g i f h) true f.body) (test (not (end_reached f h)) type_rule f.end)
    is.fault (c.in_ok-body.ensures g h known is) (c.end_fault-end.ensures h is) c.first_or.ensures
