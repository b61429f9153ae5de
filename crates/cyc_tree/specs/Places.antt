-- Believed: where the forms of a tree stand: the place of each one's first token.
use Rattle.std.specs.Prelude.{ℕ}
use Rattle.cyc_tree.specs.Tree as tree
use Rattle.cyc_tree.specs.Tree.{Expression, Declaration, Statement, Item}

abbrev pub expression_place : Expression → ℕ
expression_place (Expression.Number at n suffix) = at
expression_place (Expression.Character at byte) = at
expression_place (Expression.Text at bytes) = at
expression_place (Expression.Null at) = at
expression_place (Expression.HeapRegion at) = at
expression_place (Expression.UniqueRegion at) = at
expression_place (Expression.Variable name) = name.at
expression_place (Expression.Call name arguments) = name.at
expression_place (Expression.MakeUnion tag member value) = tag.at
expression_place (Expression.NumElts at operand) = at
expression_place (Expression.Grouped at inner) = at
expression_place (Expression.Suffixed primary _) = expression_place primary
expression_place (Expression.Prefixed at operator operand) = at
expression_place (Expression.New at made) = at
expression_place (Expression.NewIn at handle made) = at
expression_place (Expression.Chain first others) = expression_place first
expression_place (Expression.AllOf first others) = expression_place first
expression_place (Expression.AnyOf first others) = expression_place first
expression_place (Expression.Assign place value) = expression_place place

abbrev pub region_place : tree.RegionName → ℕ
region_place (tree.Heap at) = at
region_place (tree.Unique at) = at
region_place (tree.Named name) = name.at

abbrev pub declaration_place : Declaration → ℕ
declaration_place (tree.Local of name initializer) = of.at
declaration_place (tree.Region at region handle) = at
declaration_place (tree.Open at region handle key) = at
declaration_place (tree.Alias at region of alias pointer) = at
declaration_place (tree.NewKey at region key) = at

abbrev pub statement_place : Statement → ℕ
statement_place (Statement.Empty at) = at
statement_place (Statement.Block at items) = at
statement_place (Statement.Run e) = expression_place e
statement_place (Statement.Exchange left right) = expression_place left
statement_place (Statement.If at condition body) = at
statement_place (Statement.IfElse at condition body otherwise) = at
statement_place (Statement.While at condition body) = at
statement_place (Statement.Switch at place _) = at
statement_place (Statement.Break at) = at
statement_place (Statement.Continue at) = at
statement_place (Statement.Return at value) = at
statement_place (Statement.FreeUnique at pointer) = at
statement_place (Statement.FreeKey at key) = at

abbrev pub item_place : Item → ℕ
item_place (tree.StructItem s) = s.at
item_place (tree.UnionItem u) = u.at
item_place (tree.GlobalItem g) = g.of.at
item_place (tree.FunctionItem f) = f.result.at

-- the end of the text, as a place
abbrev pub end_of_text : ℕ
end_of_text = 4294967295
