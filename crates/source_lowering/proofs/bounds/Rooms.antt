-- A function's temporaries, and the words that it passes, are fewer than its room, and a program's room counts the members of its unions.
use Rattle.std.proofs.Common.{◌+◌, ◌*◌, ◌^◌, ◌<◌, ◌≤◌, List, [], ◌∷◌, Some, length, sym, subst, arith}
use Rattle.std.proofs.lemmas.List.{length-map}
use Rattle.cyc_tree.specs.Tree as tree
use Rattle.cyc_tree.specs.Tree.{Expression, Expressions, NoExpressions, MoreExpressions, Links, NoLinks, MoreLinks, Suffixes, NoSuffixes, Index, Dot, Arrow}
use Rattle.cyc_tree.specs.Tree.{Made, One, Array, Initializer, Declaration, Statement, BlockItems, NoItems, Declare, Execute, Clauses, NoClauses, MoreClauses}
use Rattle.cyc_tree.specs.Tree.{Item, FunctionItem, StructItem, UnionItem, GlobalItem}
use Rattle.source_meaning.specs.Shapes.{Shape, VoidShape, part_of, part_shapes}
use Rattle.source_meaning.specs.Steps.{World}
use Rattle.source_meaning.specs.Programs.{routine_of, unions_of}
use Rattle.source_lowering.specs.Members.{all_words}
use Rattle.source_lowering.specs.Lowered.{call_shape}
use Rattle.source_lowering.specs.Programs.{body_code}
use Rattle.source_lowering.specs.Temporaries.{temporaries_of, passed_by}
use Rattle.source_lowering.specs.Lowerable.{HaveFewMembers, TakesFunction}
use Rattle.cyc_tree.specs.Room.{room, argument_room, link_room, suffix_room, made_room, declaration_room, statement_room, item_room, clause_room}
use Rattle.cyc_tree.specs.Room.{function_room, program_room}
use Rattle.source_lowering.proofs.Programs.{routine_is}
use Rattle.source_lowering.proofs.bounds.Nodes.{expression_count, made_count, argument_count, joined_count, link_count, suffix_count, result_count, run_count}
use Rattle.source_lowering.proofs.bounds.Nodes.{declaration_count, statement_count, item_count, clause_count}
use Rattle.source_lowering.proofs.bounds.Nodes.{region_count, statement_regions, item_regions, clause_regions}
use Rattle.source_lowering.proofs.bounds.Bounded.{body_bounded, words_many}

-- ---- expressions: four temporaries for each node, and twelve more

mutual
  expression_room : (e : Expression) → 4 * expression_count e + 12 ≤ room e
  expression_room (Expression.Call name arguments) = omega (arith, argument_counts arguments)
  expression_room (Expression.MakeUnion tag member value) = omega (arith, expression_room value)
  expression_room (Expression.NumElts at operand) = omega (arith, expression_room operand)
  expression_room (Expression.Grouped at inner) = omega (arith, expression_room inner)
  expression_room (Expression.Suffixed primary suffixes) = omega (arith, expression_room primary, suffix_counts suffixes)
  expression_room (Expression.Prefixed at operator operand) = omega (arith, expression_room operand)
  expression_room (Expression.New at made) = omega (arith, made_counts made)
  expression_room (Expression.NewIn at handle made) = omega (arith, expression_room handle, made_counts made)
  expression_room (Expression.Chain first others) = omega (arith, expression_room first, link_counts others)
  expression_room (Expression.AllOf first others) = omega (arith, expression_room first, joined_counts others)
  expression_room (Expression.AnyOf first others) = omega (arith, expression_room first, joined_counts others)
  expression_room (Expression.Assign place value) = omega (arith, expression_room place, expression_room value)
  expression_room _ = omega arith

  argument_counts : (es : Expressions) → 4 * argument_count es ≤ argument_room es
  argument_counts NoExpressions = omega arith
  argument_counts (MoreExpressions first others) = omega (arith, expression_room first, argument_counts others)

  joined_counts : (es : Expressions) → 4 * joined_count es ≤ argument_room es
  joined_counts NoExpressions = omega arith
  joined_counts (MoreExpressions first others) = omega (arith, expression_room first, joined_counts others)

  link_counts : (ls : Links) → 4 * link_count ls ≤ link_room ls
  link_counts NoLinks = omega arith
  link_counts (MoreLinks operator operand others) = omega (arith, expression_room operand, link_counts others)

  suffix_counts : (ss : Suffixes) → 4 * suffix_count ss ≤ suffix_room ss
  suffix_counts NoSuffixes = omega arith
  suffix_counts (Index index others) = omega (arith, expression_room index, suffix_counts others)
  suffix_counts (Dot f others) = omega (arith, suffix_counts others)
  suffix_counts (Arrow f others) = omega (arith, suffix_counts others)

  made_counts : (made : Made) → 4 * made_count made ≤ made_room made
  made_counts (One value) = omega (arith, expression_room value)
  made_counts (Array index count element) = omega (arith, expression_room count, expression_room element)

result_few : (s : Shape) → result_count s ≤ 1
result_few VoidShape = omega arith
result_few _ = omega arith

-- of an expression that is a statement
run_counts : (w : World) (e : Expression) → 4 * run_count w e ≤ room e
run_counts w (Expression.Call name arguments) = omega (arith, result_few (call_shape w name.text), argument_counts arguments)
run_counts w (Expression.Grouped at inner) = omega (arith, run_counts w inner)
run_counts w e = omega (arith, expression_room e)

-- ---- statements: a temporary for each region, and four for each node

declaration_counts : (d : Declaration) → region_count d + 4 * declaration_count d ≤ declaration_room d
declaration_counts (tree.Local of name (Initializer.Value e)) = omega (arith, expression_room e)
declaration_counts _ = omega arith

mutual
  statement_counts : (w : World) (s : Statement) → statement_regions s + 4 * statement_count w s ≤ statement_room s
  statement_counts w (Statement.Block at items) = omega (arith, item_counts w items)
  statement_counts w (Statement.Run e) = omega (arith, run_counts w e)
  statement_counts w (Statement.Exchange left right) = omega (arith, expression_room left, expression_room right)
  statement_counts w (Statement.If at condition body) = omega (arith, expression_room condition, statement_counts w body)
  statement_counts w (Statement.IfElse at condition body otherwise) =
      omega (arith, expression_room condition, statement_counts w body, statement_counts w otherwise)
  statement_counts w (Statement.While at condition body) = omega (arith, expression_room condition, statement_counts w body)
  statement_counts w (Statement.Switch at place clauses) = omega (arith, expression_room place, clause_counts w clauses)
  statement_counts w (Statement.Return at (Some e)) = omega (arith, expression_room e)
  statement_counts w _ = omega arith

  item_counts : (w : World) (items : BlockItems) → item_regions items + 4 * item_count w items ≤ item_room items
  item_counts w NoItems = omega arith
  item_counts w (Declare d others) = omega (arith, declaration_counts d, item_counts w others)
  item_counts w (Execute s others) = omega (arith, statement_counts w s, item_counts w others)

  clause_counts : (w : World) (clauses : Clauses) → clause_regions clauses + 4 * clause_count w clauses ≤ clause_room clauses
  clause_counts w NoClauses = omega arith
  clause_counts w (MoreClauses at label body others) = omega (arith, item_counts w body, clause_counts w others)

-- ---- functions

-- three for each parameter
parameter_words_few : (f : tree.Function) → all_words (part_shapes (routine_of f).parameters) ≤ 3 * length f.parameters
parameter_words_few f = omega (arith, words_many (routine_of f).parameters, length-map f.parameters part_of)

-- the temporaries of its code
pub temporaries_have_room : (w : World) (f : tree.Function) → TakesFunction w f → temporaries_of (body_code w (routine_of f)) ≤ function_room f
temporaries_have_room w f h =
    let r = routine_of f in
    let b = body_bounded w r (routine_is w f h) in
    let t = subst (λ z. temporaries_of z ≤ all_words (part_shapes r.parameters) + (item_regions r.body + 4 * item_count w r.body + 2)) (sym b.is)
    b.costs.temporaries in
    omega (arith, t, parameter_words_few f, item_counts w f.body)

-- those that hold its parameters
pub parameters_have_room : (f : tree.Function) → all_words (part_shapes (routine_of f).parameters) ≤ function_room f
parameters_have_room f = omega (arith, parameter_words_few f)

-- the words that a statement of its code passes
pub passed_have_room : (w : World) (f : tree.Function) → TakesFunction w f → passed_by (body_code w (routine_of f)) ≤ function_room f
passed_have_room w f h =
    let r = routine_of f in
    let b = body_bounded w r (routine_is w f h) in
    let p = subst (λ z. passed_by z ≤ 3 * item_count w r.body) (sym b.is) b.costs.passes in
    omega (arith, p, item_counts w f.body)

-- ---- unions

-- a word counts the members of each union of a program whose room a word counts
pub members_have_room : (items : List Item) → program_room items < 2 ^ 32 → HaveFewMembers (unions_of items)
members_have_room [] room = tt
members_have_room (FunctionItem f ∷ items) room = members_have_room items (omega (arith, room))
members_have_room (StructItem s ∷ items) room = members_have_room items room
members_have_room (UnionItem u ∷ items) room = (omega (arith, room, length-map u.members part_of), members_have_room items (omega (arith, room)))
members_have_room (GlobalItem g ∷ items) room = members_have_room items room
