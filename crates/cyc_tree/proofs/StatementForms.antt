-- The pure tree of each form of a statement of the code, from those of its parts: what a proof about code that matches on a tree rewrites by.
use Rattle.std.proofs.Common.{◌≡◌, ℕ, map, sym, ap, ◌∙◌}
use Rattle.std.specs.Prelude.{Option, option_map}
use Rattle.std.specs.declared.boxed.Box.{Box}
use Rattle.std.specs.declared.vec.Vec.{Vec}
use Rattle.std.specs.declared.alloc.Global.{Global}
use Rattle.cyc_tree.specs.declared.name.Name.{Name}
use Rattle.cyc_tree.specs.declared.expression.Expression as code
use Rattle.cyc_tree.specs.declared.statement.Declaration as code_declaration
use Rattle.cyc_tree.specs.declared.statement.Statement as code_statement
use Rattle.cyc_tree.specs.declared.statement.Statement.TheVariants as form
use Rattle.cyc_tree.specs.declared.statement.BlockItem as code_item
use Rattle.cyc_tree.specs.declared.statement.BlockItem.TheVariants as item_form
use Rattle.cyc_tree.specs.declared.statement.Clause as code_clause
use Rattle.cyc_tree.specs.declared.statement.BlockItem.TheOpen.{Statement-F, BlockItem-F}
use Rattle.cyc_tree.specs.declared.statement.BlockItem.TheFolds.{fold-roll-Statement, fold-roll-BlockItem}
use Rattle.cyc_tree.specs.Tree.{Statement}
use Rattle.cyc_tree.specs.View.{OneClause, OneItem, name_tree, expression_tree, declaration_tree, items_of, clauses_of, item_step, clause_step, statement_step}
use Rattle.cyc_tree.specs.View.{item_tree, clause_tree, statement_tree}

pub empty_tree : (at : ℕ) → statement_tree (form.Empty at) ≡ Statement.Empty at
empty_tree at =
    ap statement_tree (sym (form.rolls-Empty at)) ∙ fold-roll-Statement OneItem Statement OneClause item_step statement_step clause_step (Statement-F.Empty at)

pub block_tree : (at : ℕ) (items : Vec code_item.BlockItem Global)
    → statement_tree (form.Block at items) ≡ Statement.Block at (items_of (map item_tree items.items))
block_tree at items =
    ap statement_tree (sym (form.rolls-Block at items)) ∙ fold-roll-Statement OneItem Statement OneClause item_step statement_step clause_step
    (Statement-F.Block at items)

pub run_tree : (value : code.Expression) → statement_tree (form.Run value) ≡ Statement.Run (expression_tree value)
run_tree value =
    ap statement_tree (sym (form.rolls-Run value)) ∙ fold-roll-Statement OneItem Statement OneClause item_step statement_step clause_step
    (Statement-F.Run value)

pub exchange_tree : (left : Box code.Expression Global) (right : Box code.Expression Global)
    → statement_tree (form.Exchange left right) ≡ Statement.Exchange (expression_tree left.value) (expression_tree right.value)
exchange_tree left right =
    ap statement_tree (sym (form.rolls-Exchange left right)) ∙ fold-roll-Statement OneItem Statement OneClause item_step statement_step clause_step
    (Statement-F.Exchange left right)

pub if_tree : (at : ℕ) (condition : code.Expression) (body : Box code_statement.Statement Global)
    → statement_tree (form.If at condition body) ≡ Statement.If at (expression_tree condition) (statement_tree body.value)
if_tree at condition body =
    ap statement_tree (sym (form.rolls-If at condition body)) ∙ fold-roll-Statement OneItem Statement OneClause item_step statement_step clause_step
    (Statement-F.If at condition body)

pub if_else_tree : (at : ℕ) (condition : code.Expression) (body : Box code_statement.Statement Global) (otherwise : Box code_statement.Statement Global)
    → statement_tree (form.IfElse at condition body otherwise) ≡ Statement.IfElse at (expression_tree condition) (statement_tree body.value)
    (statement_tree otherwise.value)
if_else_tree at condition body otherwise =
    ap statement_tree (sym (form.rolls-IfElse at condition body otherwise)) ∙ fold-roll-Statement OneItem Statement OneClause item_step statement_step
    clause_step (Statement-F.IfElse at condition body otherwise)

pub while_tree : (at : ℕ) (condition : code.Expression) (body : Box code_statement.Statement Global)
    → statement_tree (form.While at condition body) ≡ Statement.While at (expression_tree condition) (statement_tree body.value)
while_tree at condition body =
    ap statement_tree (sym (form.rolls-While at condition body)) ∙ fold-roll-Statement OneItem Statement OneClause item_step statement_step clause_step
    (Statement-F.While at condition body)

pub switch_tree : (at : ℕ) (place : code.Expression) (clauses : Vec code_clause.Clause Global)
    → statement_tree (form.Switch at place clauses) ≡ Statement.Switch at (expression_tree place) (clauses_of (map clause_tree clauses.items))
switch_tree at place clauses =
    ap statement_tree (sym (form.rolls-Switch at place clauses)) ∙ fold-roll-Statement OneItem Statement OneClause item_step statement_step clause_step
    (Statement-F.Switch at place clauses)

pub break_tree : (at : ℕ) → statement_tree (form.Break at) ≡ Statement.Break at
break_tree at =
    ap statement_tree (sym (form.rolls-Break at)) ∙ fold-roll-Statement OneItem Statement OneClause item_step statement_step clause_step (Statement-F.Break at)

pub continue_tree : (at : ℕ) → statement_tree (form.Continue at) ≡ Statement.Continue at
continue_tree at =
    ap statement_tree (sym (form.rolls-Continue at)) ∙ fold-roll-Statement OneItem Statement OneClause item_step statement_step clause_step
    (Statement-F.Continue at)

pub return_tree : (at : ℕ) (value : Option code.Expression) → statement_tree (form.Return at value) ≡ Statement.Return at (option_map expression_tree value)
return_tree at value =
    ap statement_tree (sym (form.rolls-Return at value)) ∙ fold-roll-Statement OneItem Statement OneClause item_step statement_step clause_step
    (Statement-F.Return at value)

pub free_unique_tree : (at : ℕ) (pointer : Name) → statement_tree (form.FreeUnique at pointer) ≡ Statement.FreeUnique at (name_tree pointer)
free_unique_tree at pointer =
    ap statement_tree (sym (form.rolls-FreeUnique at pointer)) ∙ fold-roll-Statement OneItem Statement OneClause item_step statement_step clause_step
    (Statement-F.FreeUnique at pointer)

pub free_key_tree : (at : ℕ) (key : Name) → statement_tree (form.FreeKey at key) ≡ Statement.FreeKey at (name_tree key)
free_key_tree at key =
    ap statement_tree (sym (form.rolls-FreeKey at key)) ∙ fold-roll-Statement OneItem Statement OneClause item_step statement_step clause_step
    (Statement-F.FreeKey at key)

pub declare_tree : (declaration : Box code_declaration.Declaration Global)
    → item_tree (item_form.Declare declaration) ≡ OneItem.Declare (declaration_tree declaration.value)
declare_tree declaration =
    ap item_tree (sym (item_form.rolls-Declare declaration)) ∙ fold-roll-BlockItem OneItem Statement OneClause item_step statement_step clause_step
    (BlockItem-F.Declare declaration)

pub execute_tree : (statement : code_statement.Statement) → item_tree (item_form.Execute statement) ≡ OneItem.Execute (statement_tree statement)
execute_tree statement =
    ap item_tree (sym (item_form.rolls-Execute statement)) ∙ fold-roll-BlockItem OneItem Statement OneClause item_step statement_step clause_step
    (BlockItem-F.Execute statement)
