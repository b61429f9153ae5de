-- View of code: the pure tree that a tree of the code stands for.
use Rattle.std.specs.Prelude.{ℕ, List, [], ◌∷◌, map, Option, option_map}
use Rattle.smallvec.specs.SmallVec.{SmallVec}
use Rattle.cyc_tree.specs.declared.name.Name as code_name
use Rattle.cyc_tree.specs.declared.name.RegionName as code_region
use Rattle.cyc_tree.specs.declared.name.RegionName.TheVariants as region
use Rattle.cyc_tree.specs.declared.name.Base as code_base
use Rattle.cyc_tree.specs.declared.name.Base.TheVariants as base
use Rattle.cyc_tree.specs.declared.name.Pointer as code_pointer
use Rattle.cyc_tree.specs.declared.name.TypeName as code_type
use Rattle.cyc_tree.specs.declared.expression.Operator.{Operator}
use Rattle.cyc_tree.specs.declared.expression.Expression as code_expression
use Rattle.cyc_tree.specs.declared.expression.Made as code_made
use Rattle.cyc_tree.specs.declared.expression.Suffix as code_suffix
use Rattle.cyc_tree.specs.declared.expression.Link as code_link
use Rattle.cyc_tree.specs.declared.expression.Expression.TheOpen.{Expression-F, Made-F, Suffix-F, Link-F}
use Rattle.cyc_tree.specs.declared.expression.Expression.TheFolds.{fold-Expression, fold-Made, fold-Suffix, fold-Link}
use Rattle.cyc_tree.specs.declared.statement.Initializer as code_initializer
use Rattle.cyc_tree.specs.declared.statement.Initializer.TheVariants as initializer
use Rattle.cyc_tree.specs.declared.statement.Declaration as code_declaration
use Rattle.cyc_tree.specs.declared.statement.Declaration.TheVariants as declaration
use Rattle.cyc_tree.specs.declared.statement.Pattern as code_pattern
use Rattle.cyc_tree.specs.declared.statement.Pattern.TheVariants as pattern_of
use Rattle.cyc_tree.specs.declared.statement.Statement as code_statement
use Rattle.cyc_tree.specs.declared.statement.BlockItem as code_item
use Rattle.cyc_tree.specs.declared.statement.Clause as code_clause
use Rattle.cyc_tree.specs.declared.statement.BlockItem.TheOpen.{Statement-F, BlockItem-F, Clause-F}
use Rattle.cyc_tree.specs.declared.statement.BlockItem.TheFolds.{fold-Statement, fold-BlockItem, fold-Clause}
use Rattle.cyc_tree.specs.declared.item.Member as code_member
use Rattle.cyc_tree.specs.declared.item.Structure as code_structure
use Rattle.cyc_tree.specs.declared.item.Constant as code_constant
use Rattle.cyc_tree.specs.declared.item.Constant.TheVariants as constant
use Rattle.cyc_tree.specs.declared.item.Initial as code_initial
use Rattle.cyc_tree.specs.declared.item.Initial.TheVariants as initial
use Rattle.cyc_tree.specs.declared.item.Global as code_global
use Rattle.cyc_tree.specs.declared.item.Bound as code_bound
use Rattle.cyc_tree.specs.declared.item.Function as code_function
use Rattle.cyc_tree.specs.declared.item.Item as code_program_item
use Rattle.cyc_tree.specs.declared.item.Item.TheVariants as program_item
use Rattle.cyc_tree.specs.Tree as tree
use Rattle.cyc_tree.specs.Tree.{Expression, Expressions, NoExpressions, MoreExpressions, Links, NoLinks, MoreLinks, Suffixes, NoSuffixes, Made, Statement}
use Rattle.cyc_tree.specs.Tree.{BlockItems, NoItems, Clauses, NoClauses, MoreClauses}

-- ---- names and types

abbrev pub name_tree : code_name.Name → tree.Name
name_tree n = record { at = n.at; text = n.text.items }

abbrev pub region_tree : code_region.RegionName → tree.RegionName
region_tree (region.Heap at) = tree.Heap at
region_tree (region.Unique at) = tree.Unique at
region_tree (region.Named n) = tree.Named (name_tree n)

abbrev pub base_tree : code_base.Base → tree.Base
base_tree base.Int = tree.Int
base_tree base.Unsigned = tree.Unsigned
base_tree base.Char = tree.Char
base_tree base.Void = tree.Void
base_tree (base.Struct tag regions) = tree.Struct (name_tree tag) (map region_tree regions.items)
base_tree (base.Union tag regions) = tree.Union (name_tree tag) (map region_tree regions.items)
base_tree (base.Handle r) = tree.Handle (region_tree r)
base_tree (base.Key r) = tree.Key (region_tree r)

abbrev pub pointer_tree : code_pointer.Pointer → tree.Pointer
pointer_tree p = record { sign = p.sign; region = option_map region_tree p.region }

abbrev pub type_tree : code_type.TypeName → tree.TypeName
type_tree t = record { at = t.at; base = base_tree t.base; pointers = map pointer_tree t.pointers.items }

-- ---- expressions

-- a suffix, without those after it
pub data OneSuffix : Type 0 where
  Index : Expression → OneSuffix
  Dot : tree.Name → OneSuffix
  Arrow : tree.Name → OneSuffix

abbrev pub expressions_of : List Expression → Expressions
expressions_of [] = NoExpressions
expressions_of (e ∷ es) = MoreExpressions e (expressions_of es)

abbrev pub links_of : List (Operator × Expression) → Links
links_of [] = NoLinks
links_of ((o, e) ∷ rest) = MoreLinks o e (links_of rest)

abbrev pub suffixes_of : List OneSuffix → Suffixes
suffixes_of [] = NoSuffixes
suffixes_of (OneSuffix.Index e ∷ rest) = tree.Index e (suffixes_of rest)
suffixes_of (OneSuffix.Dot n ∷ rest) = tree.Dot n (suffixes_of rest)
suffixes_of (OneSuffix.Arrow n ∷ rest) = tree.Arrow n (suffixes_of rest)

abbrev pub expression_step : Expression-F Expression Made OneSuffix (Operator × Expression) → Expression
expression_step (Expression-F.Number at n suffix) = Expression.Number at n suffix
expression_step (Expression-F.Character at byte) = Expression.Character at byte
expression_step (Expression-F.Text at bytes) = Expression.Text at bytes.items
expression_step (Expression-F.Null at) = Expression.Null at
expression_step (Expression-F.HeapRegion at) = Expression.HeapRegion at
expression_step (Expression-F.UniqueRegion at) = Expression.UniqueRegion at
expression_step (Expression-F.Variable n) = Expression.Variable (name_tree n)
expression_step (Expression-F.Call n arguments) = Expression.Call (name_tree n) (expressions_of arguments.items)
expression_step (Expression-F.MakeUnion tag member value) = Expression.MakeUnion (name_tree tag) (name_tree member) value.value
expression_step (Expression-F.NumElts at operand) = Expression.NumElts at operand.value
expression_step (Expression-F.Grouped at inner) = Expression.Grouped at inner.value
expression_step (Expression-F.Suffixed primary suffixes) = Expression.Suffixed primary.value (suffixes_of suffixes.items)
expression_step (Expression-F.Prefixed at operator operand) = Expression.Prefixed at operator operand.value
expression_step (Expression-F.New at made) = Expression.New at made
expression_step (Expression-F.NewIn at handle made) = Expression.NewIn at handle.value made
expression_step (Expression-F.Chain first others) = Expression.Chain first.value (links_of others.items)
expression_step (Expression-F.AllOf first others) = Expression.AllOf first.value (expressions_of others.items)
expression_step (Expression-F.AnyOf first others) = Expression.AnyOf first.value (expressions_of others.items)
expression_step (Expression-F.Assign place value) = Expression.Assign place.value value.value

abbrev pub made_step : Made-F Expression Made OneSuffix (Operator × Expression) → Made
made_step (Made-F.One value) = Made.One value.value
made_step (Made-F.Array index count element) = Made.Array (name_tree index) count.value element.value

abbrev pub suffix_step : Suffix-F Expression Made OneSuffix (Operator × Expression) → OneSuffix
suffix_step (Suffix-F.Index e) = OneSuffix.Index e.value
suffix_step (Suffix-F.Dot n) = OneSuffix.Dot (name_tree n)
suffix_step (Suffix-F.Arrow n) = OneSuffix.Arrow (name_tree n)

abbrev pub link_step : Link-F Expression Made OneSuffix (Operator × Expression) → Operator × Expression
link_step l = (l.operator, l.operand)

abbrev pub expression_tree : code_expression.Expression → Expression
expression_tree = fold-Expression Expression Made OneSuffix (Operator × Expression) expression_step made_step suffix_step link_step

abbrev pub made_tree : code_made.Made → Made
made_tree = fold-Made Expression Made OneSuffix (Operator × Expression) expression_step made_step suffix_step link_step

abbrev pub suffix_tree : code_suffix.Suffix → OneSuffix
suffix_tree = fold-Suffix Expression Made OneSuffix (Operator × Expression) expression_step made_step suffix_step link_step

abbrev pub link_tree : code_link.Link → Operator × Expression
link_tree = fold-Link Expression Made OneSuffix (Operator × Expression) expression_step made_step suffix_step link_step

-- ---- declarations and statements

abbrev pub initializer_tree : code_initializer.Initializer → tree.Initializer
initializer_tree initializer.None = tree.Initializer.Unset
initializer_tree (initializer.Array count) = tree.Initializer.Elements count
initializer_tree (initializer.Value e) = tree.Value (expression_tree e)

abbrev pub declaration_tree : code_declaration.Declaration → tree.Declaration
declaration_tree (declaration.Local of name initial) = tree.Local (type_tree of) (name_tree name) (initializer_tree initial)
declaration_tree (declaration.Region at r handle) = tree.Region at (region_tree r) (name_tree handle)
declaration_tree (declaration.Open at r handle key) = tree.Open at (region_tree r) (name_tree handle) (name_tree key)
declaration_tree (declaration.Alias at r of alias pointer) = tree.Alias at (region_tree r) (type_tree of) (name_tree alias) (name_tree pointer)
declaration_tree (declaration.NewKey at r key) = tree.NewKey at (region_tree r) (name_tree key)

abbrev pub pattern_tree : code_pattern.Pattern → tree.Pattern
pattern_tree (pattern_of.Case member name) = tree.Case (name_tree member) (name_tree name)
pattern_tree pattern_of.Default = tree.Default

-- a clause, without those after it
pub record OneClause : Type 0 where
  pub at : ℕ
  pub pattern : tree.Pattern
  pub body : BlockItems

-- an item of a block, without those after it
pub data OneItem : Type 0 where
  Declare : tree.Declaration → OneItem
  Execute : Statement → OneItem

abbrev pub items_of : List OneItem → BlockItems
items_of [] = NoItems
items_of (OneItem.Declare d ∷ rest) = tree.Declare d (items_of rest)
items_of (OneItem.Execute s ∷ rest) = tree.Execute s (items_of rest)

abbrev pub clauses_of : List OneClause → Clauses
clauses_of [] = NoClauses
clauses_of (c ∷ rest) = MoreClauses c.at c.pattern c.body (clauses_of rest)

abbrev pub item_step : BlockItem-F OneItem Statement OneClause → OneItem
item_step (BlockItem-F.Declare d) = OneItem.Declare (declaration_tree d.value)
item_step (BlockItem-F.Execute s) = OneItem.Execute s

abbrev pub clause_step : Clause-F OneItem Statement OneClause → OneClause
clause_step c = record { at = c.at; pattern = pattern_tree c.pattern; body = items_of c.body.items }

abbrev pub statement_step : Statement-F OneItem Statement OneClause → Statement
statement_step (Statement-F.Empty at) = Statement.Empty at
statement_step (Statement-F.Block at items) = Statement.Block at (items_of items.items)
statement_step (Statement-F.Run e) = Statement.Run (expression_tree e)
statement_step (Statement-F.Exchange left right) = Statement.Exchange (expression_tree left.value) (expression_tree right.value)
statement_step (Statement-F.If at condition body) = Statement.If at (expression_tree condition) body.value
statement_step (Statement-F.IfElse at condition body otherwise) = Statement.IfElse at (expression_tree condition) body.value otherwise.value
statement_step (Statement-F.While at condition body) = Statement.While at (expression_tree condition) body.value
statement_step (Statement-F.Switch at place clauses) = Statement.Switch at (expression_tree place) (clauses_of clauses.items)
statement_step (Statement-F.Break at) = Statement.Break at
statement_step (Statement-F.Continue at) = Statement.Continue at
statement_step (Statement-F.Return at value) = Statement.Return at (option_map expression_tree value)
statement_step (Statement-F.FreeUnique at pointer) = Statement.FreeUnique at (name_tree pointer)
statement_step (Statement-F.FreeKey at key) = Statement.FreeKey at (name_tree key)

abbrev pub item_tree : code_item.BlockItem → OneItem
item_tree = fold-BlockItem OneItem Statement OneClause item_step statement_step clause_step

abbrev pub clause_tree : code_clause.Clause → OneClause
clause_tree = fold-Clause OneItem Statement OneClause item_step statement_step clause_step

abbrev pub statement_tree : code_statement.Statement → Statement
statement_tree = fold-Statement OneItem Statement OneClause item_step statement_step clause_step

-- ---- items

abbrev pub member_tree : code_member.Member → tree.Member
member_tree m = record { of = type_tree m.of; name = name_tree m.name }

abbrev pub structure_tree : code_structure.Structure → tree.Structure
structure_tree s = record {
  at = s.at;
  tag = name_tree s.tag;
  regions = map region_tree s.regions.items;
  members = map member_tree s.members.items;
}

abbrev pub constant_tree : code_constant.Constant → tree.Constant
constant_tree (constant.Number at n suffix) = tree.Constant.Number at n suffix
constant_tree (constant.Negative at n suffix) = tree.Constant.Negative at n suffix
constant_tree (constant.Character at byte) = tree.Constant.Character at byte
constant_tree (constant.Text at bytes) = tree.Constant.Text at bytes.items
constant_tree (constant.Null at) = tree.Constant.Null at

abbrev pub initial_tree : code_initial.Initial → tree.Initial
initial_tree initial.None = tree.Initial.Unset
initial_tree (initial.Array count) = tree.Initial.Elements count
initial_tree (initial.Constant c) = tree.Initial.Given (constant_tree c)

abbrev pub global_tree : code_global.Global → tree.Global
global_tree g = record { of = type_tree g.of; name = name_tree g.name; initial = initial_tree g.initial }

abbrev pub bound_tree : code_bound.Bound → tree.Bound
bound_tree b = record { longer = region_tree b.longer; shorter = region_tree b.shorter }

-- an effect, where one is written
abbrev pub effect_tree : Option (SmallVec code_region.RegionName) → Option (List tree.RegionName)
effect_tree effect = option_map (λ regions. map region_tree regions.items) effect

abbrev pub function_tree : code_function.Function → tree.Function
function_tree f = record {
  result = type_tree f.result;
  name = name_tree f.name;
  parameters = map member_tree f.parameters.items;
  effect = effect_tree f.effect;
  bounds = map bound_tree f.bounds.items;
  body = items_of (map item_tree f.body.items);
  end = f.end;
}

abbrev pub program_item_tree : code_program_item.Item → tree.Item
program_item_tree (program_item.Struct s) = tree.StructItem (structure_tree s)
program_item_tree (program_item.Union s) = tree.UnionItem (structure_tree s)
program_item_tree (program_item.Global g) = tree.GlobalItem (global_tree g)
program_item_tree (program_item.Function f) = tree.FunctionItem (function_tree f)

-- the tree of a program's items
abbrev pub program_tree : List code_program_item.Item → tree.Program
program_tree items = map program_item_tree items
