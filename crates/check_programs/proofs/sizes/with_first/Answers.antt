use Rattle.std.proofs.Common.{refl, subst, sym}
use Rattle.std.specs.Prelude.{IfOk}
use Rattle.cyc_tree.specs.View.{program_item_tree}
use Rattle.source_typing.specs.Globals.{item_statics}
use Rattle.source_typing.specs.Programs.{if_first}
use Rattle.source_typing.specs.Scope.{at_item}
use Rattle.check_programs.specs.Totals.{Adds}
use Rattle.check_programs.proofs.sizes.with_first.Goals as goal

pub returns-then-is_new : goal.returns-then-is_new
returns-then-is_new c lenient g known =
    let item = program_item_tree c.args.item.now in
    subst (λ b. IfOk c.with_item.result (λ t. Adds c.args.total t (if_first b (item_statics (at_item lenient g c.args.index) item)))) (sym c.if-is_new.true)
    (c.with_item.ensures lenient g known)

pub returns-else-is_new : goal.returns-else-is_new
returns-else-is_new c lenient g known =
    let item = program_item_tree c.args.item.now in
    subst (λ b. Adds c.args.total c.args.total (if_first b (item_statics (at_item lenient g c.args.index) item))) (sym c.if-is_new.false) (λ more. refl)
