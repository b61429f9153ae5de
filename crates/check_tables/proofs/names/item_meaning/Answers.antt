use Rattle.std.specs.Prelude.{IfOk, Some}
use Rattle.std.proofs.Common.{subst, sym}
use Rattle.cyc_tree.specs.View.{program_item_tree}
use Rattle.source_typing.specs.Programs.{entry_with}
use Rattle.check_scopes.specs.Means.{Means}
use Rattle.check_tables.proofs.names.item_meaning.Goals as goal

pub returns-in-Function : goal.returns-in-Function
returns-in-Function c = λ g e known tag.
    subst (λ w. IfOk c.function_meaning.result
    (λ m. Means (Some (entry_with c.args.lenient g c.args.index e (program_item_tree w))) (Some m)))
    (sym c.in-Function.is) (c.function_meaning.ensures g known)
