-- The pure tree of each form of a statement, from those of its parts.
use Rattle.std.proofs.Common.{◌≡◌, ◌∙◌, sym, ap, map}
use Rattle.std.specs.Prelude.{Option}
use Rattle.std.specs.declared.boxed.Box.{Box}
use Rattle.std.specs.declared.vec.Vec.{Vec}
use Rattle.std.specs.declared.alloc.Global.{Global}
use Rattle.core_meaning.specs.Core as core
use Rattle.cyc_core.specs.Trees.{body_tree, failure_body, local_tree, operation_tree, optional_tree, statement_step, statement_tree, temporary_tree}
use Rattle.cyc_core.specs.declared.statement.Call.{Call}
use Rattle.cyc_core.specs.declared.statement.Failure.{Failure}
use Rattle.cyc_core.specs.declared.statement.Origin.{Origin}
use Rattle.cyc_core.specs.declared.statement.Statement as code
use Rattle.cyc_core.specs.declared.statement.Statement.TheVariants as form
use Rattle.cyc_core.specs.declared.statement.Statement.TheOpen.{Statement-F}
use Rattle.cyc_core.specs.declared.statement.Statement.TheFolds.{fold-roll-Statement}
use Rattle.cyc_core.specs.declared.operation.Operation.{Operation}
use Rattle.cyc_core.specs.declared.operation.Temporary.{Temporary}
use Rattle.cyc_core.specs.declared.operation.Words.{Words}
use Rattle.cyc_core.specs.declared.layout.Local.{Local}

abbrev Body : Type 0
Body = Vec code.Statement Global

pub do_tree : (at : Origin) (o : Operation) → statement_tree (form.Do at o) ≡ core.Do (operation_tree o)
do_tree at o = ap statement_tree (sym (form.rolls-Do at o)) ∙ fold-roll-Statement core.Statement statement_step (Statement-F.Do at o)

pub check_tree : (t : Temporary) (f : Failure) (at : Origin) → statement_tree (form.Check t f at) ≡ core.If t.0 core.NoStatements (failure_body f)
check_tree t f at = ap statement_tree (sym (form.rolls-Check t f at)) ∙ fold-roll-Statement core.Statement statement_step (Statement-F.Check t f at)

pub if_tree : (t : Temporary) (both : Box (Body × Body) Global)
    → statement_tree (form.If t both) ≡ core.If t.0 (body_tree both.value.0.items) (body_tree both.value.1.items)
if_tree t both = ap statement_tree (sym (form.rolls-If t both)) ∙ fold-roll-Statement core.Statement statement_step (Statement-F.If t both)

pub while_tree : (t : Temporary) (both : Box (Body × Body) Global)
    → statement_tree (form.While t both) ≡ core.While (body_tree both.value.0.items) t.0 (body_tree both.value.1.items)
while_tree t both = ap statement_tree (sym (form.rolls-While t both)) ∙ fold-roll-Statement core.Statement statement_step (Statement-F.While t both)

pub block_tree : (block : Box (Vec Local Global × Body) Global)
    → statement_tree (form.Block block) ≡ core.Block (map local_tree block.value.0.items) (body_tree block.value.1.items)
block_tree block = ap statement_tree (sym (form.rolls-Block block)) ∙ fold-roll-Statement core.Statement statement_step (Statement-F.Block block)

pub leave_tree : (body : Body) → statement_tree (form.Leave body) ≡ core.Leave (body_tree body.items)
leave_tree body = ap statement_tree (sym (form.rolls-Leave body)) ∙ fold-roll-Statement core.Statement statement_step (Statement-F.Leave body)

pub call_tree : (call : Box Call Global)
    → statement_tree (form.Call call) ≡ core.Call (optional_tree call.value.result) call.value.function (map temporary_tree call.value.arguments.items)
call_tree call = ap statement_tree (sym (form.rolls-Call call)) ∙ fold-roll-Statement core.Statement statement_step (Statement-F.Call call)

pub return_tree : (value : Option Words) (at : Origin) → statement_tree (form.Return value at) ≡ core.Return (optional_tree value)
return_tree value at = ap statement_tree (sym (form.rolls-Return value at)) ∙ fold-roll-Statement core.Statement statement_step (Statement-F.Return value at)
