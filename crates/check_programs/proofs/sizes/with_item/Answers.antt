use Rattle.std.proofs.Common.{subst, sym}
use Rattle.cyc_tree.specs.View.{global_tree, program_item_tree}
use Rattle.source_typing.specs.Globals.{item_statics}
use Rattle.source_typing.specs.Scope.{at_item}
use Rattle.check_programs.proofs.Statics.{global_adds}
use Rattle.check_programs.specs.Totals.{Adds}
use Rattle.check_programs.proofs.sizes.with_item.Goals as goal

pub returns-in_ok-judged-in-Global : goal.returns-in_ok-judged-in-Global
returns-in_ok-judged-in-Global c lenient g known =
    let env = at_item lenient g c.args.index in
    subst (λ z. Adds c.args.total c.with_initial.result (item_statics env (program_item_tree z))) (sym c.in-Global.is)
    (global_adds (global_tree c.in-Global.global) env c.args.total c.with-object.result c.with_initial.result c.in_ok-judged-in-Global.judged.bytes
    (c.in_ok-judged-in-Global.ensures.bytes lenient g known) c.with-object.ensures c.with_initial.ensures)
