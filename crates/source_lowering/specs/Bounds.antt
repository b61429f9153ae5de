-- Believed: how large a function's frame may be, and how many operations a program may have, by its source; the same of Core stands below.
use Rattle.std.specs.Prelude.{◌≤◌, ℕ, suc, ◌+◌, ◌*◌, max, Some, List, [], ◌∷◌, length}
use Rattle.cyc_tree.specs.Tree as tree
use Rattle.cyc_tree.specs.Tree.{
  Expression,
  Expressions,
  NoExpressions,
  MoreExpressions,
  Links,
  NoLinks,
  MoreLinks,
  Made,
  One,
  Array,
  Suffixes,
  NoSuffixes,
  Index,
  Dot,
  Arrow,
  Initializer,
  Declaration,
  Statement,
  BlockItems,
  NoItems,
  Declare,
  Execute,
  Clauses,
  NoClauses,
  MoreClauses,
  Case,
  Default,
}
use Rattle.source_meaning.specs.Shapes.{Alone, Shared, Shape, IntShape, UnsignedShape, VoidShape, ThinShape, KeyShape, StructShape, UnionShape, Part}
use Rattle.source_meaning.specs.Shapes.{part_shape, part_shapes, pointee}
use Rattle.source_meaning.specs.Steps.{World, Routine}
use Rattle.source_meaning.specs.Operators.{operator_shape}
use Rattle.source_meaning.specs.Expressions.{is_unique_region}
use Rattle.source_lowering.specs.Layouts.{extent_of}
use Rattle.source_lowering.specs.Members.{all_words, member_shape}
use Rattle.source_lowering.specs.Pieces.{Named, element_names, call_shape, prefix_shape, owner_in, new_shape, static_shape, union_parts}
use Rattle.source_lowering.specs.Programs.{RegionsAround, no_regions, in_loop, in_switch, regions_with, local_shape, named_here, names_behind, function_code}
use Rattle.source_lowering.specs.Programs.{outward, parameter_names}
use Rattle.core_meaning.specs.Bounds.{words_of, core_bound}

-- ---- the source: nodes of expressions

-- the words of an object of a shape
abbrev pub shape_words : World → Shape → ℕ
shape_words w s = words_of (extent_of w s).size

-- the words of a value that is used: one at least
abbrev pub value_words : World → Shape → ℕ
value_words w s = max 1 (shape_words w s)

-- a node counts as one, and as the words of its value
abbrev pub node : World → Shape → ℕ
node w s = 1 + value_words w s

-- a struct, a tagged union, a unique pointer and a key that are assigned give no value
abbrev pub assigned_node : World → Shape → ℕ
assigned_node w (StructShape tag) = 1
assigned_node w (UnionShape tag) = 1
assigned_node w (ThinShape bound Alone to) = 1
assigned_node w KeyShape = 1
assigned_node w s = node w s

-- A literal, a variable, a call, what is made, an operator, a subscript and the use of a member are a node each. Parentheses and a call's name are none.
abbrev mutual
  pub frame_nodes : World → List Named → Expression → ℕ
  frame_nodes w names (Expression.Call name arguments) = node w (call_shape w name.text) + argument_nodes w names arguments
  frame_nodes w names (Expression.MakeUnion tag member value) = node w (UnionShape tag.text) + frame_nodes w names value
  frame_nodes w names (Expression.NumElts at operand) = node w UnsignedShape + frame_nodes w names operand
  frame_nodes w names (Expression.Grouped at inner) = frame_nodes w names inner
  frame_nodes w names (Expression.Suffixed primary suffixes) =
      frame_nodes w names primary + suffix_nodes w names suffixes (static_shape w names primary)
  frame_nodes w names (Expression.Prefixed at operator operand) =
      node w (prefix_shape operator (static_shape w names operand)) + frame_nodes w names operand
  frame_nodes w names (Expression.Chain first others) = frame_nodes w names first + link_nodes w names others (static_shape w names first)
  frame_nodes w names (Expression.AllOf first others) = frame_nodes w names first + joined_nodes w names others
  frame_nodes w names (Expression.AnyOf first others) = frame_nodes w names first + joined_nodes w names others
  frame_nodes w names (Expression.Assign place value) =
      assigned_node w (static_shape w names place) + (frame_nodes w names place + frame_nodes w names value)
  frame_nodes w names (Expression.New at new) = node w (new_shape w names Shared new) + made_nodes w names new
  frame_nodes w names (Expression.NewIn at handle new) =
      node w (new_shape w names (owner_in (is_unique_region handle)) new) + (frame_nodes w names handle + made_nodes w names new)
  frame_nodes w names e = node w (static_shape w names e)

  -- the index counts as one word
  pub made_nodes : World → List Named → Made → ℕ
  made_nodes w names (One value) = frame_nodes w names value
  made_nodes w names (Array index count element) = 1 + (frame_nodes w names count + frame_nodes w (element_names index.text names) element)

  pub argument_nodes : World → List Named → Expressions → ℕ
  argument_nodes w names NoExpressions = 0
  argument_nodes w names (MoreExpressions first others) = frame_nodes w names first + argument_nodes w names others

  -- operands of `&&` and `||` after the first, with the operators before them
  pub joined_nodes : World → List Named → Expressions → ℕ
  joined_nodes w names NoExpressions = 0
  joined_nodes w names (MoreExpressions first others) = node w IntShape + (frame_nodes w names first + joined_nodes w names others)

  -- of a chain, from what is on its left
  pub link_nodes : World → List Named → Links → Shape → ℕ
  link_nodes w names NoLinks left = 0
  link_nodes w names (MoreLinks operator operand others) left =
      let s = operator_shape operator left (static_shape w names operand) in
      node w s + (frame_nodes w names operand + link_nodes w names others s)

  pub suffix_nodes : World → List Named → Suffixes → Shape → ℕ
  suffix_nodes w names NoSuffixes left = 0
  suffix_nodes w names (Index index others) left = node w (pointee left) + (frame_nodes w names index + suffix_nodes w names others (pointee left))
  suffix_nodes w names (Dot f others) left =
      let s = member_shape w left f.text in node w s + suffix_nodes w names others s
  suffix_nodes w names (Arrow f others) left =
      let s = member_shape w (pointee left) f.text in node w s + suffix_nodes w names others s

-- a call that is a statement may have no value
abbrev pub result_words : World → Shape → ℕ
result_words w VoidShape = 0
result_words w s = value_words w s

-- of an expression that is a statement
abbrev pub run_nodes : World → List Named → Expression → ℕ
run_nodes w names (Expression.Call name arguments) = 1 + result_words w (call_shape w name.text) + argument_nodes w names arguments
run_nodes w names (Expression.Grouped at inner) = run_nodes w names inner
run_nodes w names e = frame_nodes w names e

-- ---- the source: nodes and locals of statements

abbrev pub initializer_nodes : World → List Named → Initializer → ℕ
initializer_nodes w names Initializer.Unset = 0
initializer_nodes w names (Initializer.Elements count) = 0
initializer_nodes w names (Initializer.Value e) = frame_nodes w names e

abbrev pub declaration_nodes : World → List Named → Declaration → ℕ
declaration_nodes w names (tree.Local of name initializer) = initializer_nodes w names initializer
declaration_nodes w names _ = 0

abbrev mutual
  -- nodes of the expressions of a statement
  pub statement_nodes : World → List Named → Statement → ℕ
  statement_nodes w names (Statement.Block at items) = item_nodes w (outward names) 0 items
  statement_nodes w names (Statement.Run e) = run_nodes w names e
  statement_nodes w names (Statement.Exchange left right) = frame_nodes w names left + frame_nodes w names right
  statement_nodes w names (Statement.If at condition body) = frame_nodes w names condition + statement_nodes w names body
  statement_nodes w names (Statement.IfElse at condition body otherwise) =
      frame_nodes w names condition + (statement_nodes w names body + statement_nodes w names otherwise)
  statement_nodes w names (Statement.While at condition body) = frame_nodes w names condition + statement_nodes w names body
  statement_nodes w names (Statement.Switch at place clauses) =
      frame_nodes w names place + clause_nodes w names (union_parts w (static_shape w names place)) clauses
  statement_nodes w names (Statement.Return at (Some e)) = frame_nodes w names e
  statement_nodes w names _ = 0

  -- the next local of the block has this number
  pub item_nodes : World → List Named → ℕ → BlockItems → ℕ
  item_nodes w names index NoItems = 0
  item_nodes w names index (Declare d others) =
      declaration_nodes w names d + item_nodes w (names_behind w names index d) (suc index) others
  item_nodes w names index (Execute s others) = statement_nodes w names s + item_nodes w names index others

  pub clause_nodes : World → List Named → List Part → Clauses → ℕ
  clause_nodes w names parts NoClauses = 0
  clause_nodes w names parts (MoreClauses at (Case f x) body others) =
      item_nodes w (named_here x.text (part_shape parts f.text) 0 ∷ outward names) 1 body + clause_nodes w names parts others
  clause_nodes w names parts (MoreClauses at Default body others) = item_nodes w (outward names) 0 body + clause_nodes w names parts others

abbrev mutual
  -- the words of the locals that are declared in a statement, and of the members that `case` binds
  pub statement_locals : World → List Named → Statement → ℕ
  statement_locals w names (Statement.Block at items) = item_locals w (outward names) 0 items
  statement_locals w names (Statement.If at condition body) = statement_locals w names body
  statement_locals w names (Statement.IfElse at condition body otherwise) = statement_locals w names body + statement_locals w names otherwise
  statement_locals w names (Statement.While at condition body) = statement_locals w names body
  statement_locals w names (Statement.Switch at place clauses) = clause_locals w names (union_parts w (static_shape w names place)) clauses
  statement_locals w names _ = 0

  -- the next local of the block has this number
  pub item_locals : World → List Named → ℕ → BlockItems → ℕ
  item_locals w names index NoItems = 0
  item_locals w names index (Declare d others) =
      shape_words w (local_shape w names d) + item_locals w (names_behind w names index d) (suc index) others
  item_locals w names index (Execute s others) = statement_locals w names s + item_locals w names index others

  pub clause_locals : World → List Named → List Part → Clauses → ℕ
  clause_locals w names parts NoClauses = 0
  clause_locals w names parts (MoreClauses at (Case f x) body others) =
      let s = part_shape parts f.text in
      shape_words w s + item_locals w (named_here x.text s 0 ∷ outward names) 1 body + clause_locals w names parts others
  clause_locals w names parts (MoreClauses at Default body others) = item_locals w (outward names) 0 body + clause_locals w names parts others

-- ---- the source: how large its text is at least

-- the tokens of an expression, each name and literal, sign and word; a text of strings one after the other has more
abbrev mutual
  pub tokens_of : Expression → ℕ
  tokens_of (Expression.Call name arguments) = 2 + argument_tokens arguments
  tokens_of (Expression.MakeUnion tag member value) = 5 + tokens_of value
  tokens_of (Expression.NumElts at operand) = 3 + tokens_of operand
  tokens_of (Expression.Grouped at inner) = 2 + tokens_of inner
  tokens_of (Expression.Suffixed primary suffixes) = tokens_of primary + suffix_tokens suffixes
  tokens_of (Expression.Prefixed at operator operand) = 1 + tokens_of operand
  tokens_of (Expression.Chain first others) = tokens_of first + link_tokens others
  tokens_of (Expression.AllOf first others) = tokens_of first + tested_tokens others
  tokens_of (Expression.AnyOf first others) = tokens_of first + tested_tokens others
  tokens_of (Expression.Assign place value) = tokens_of place + (1 + tokens_of value)
  tokens_of (Expression.New at new) = 1 + made_tokens new
  tokens_of (Expression.NewIn at handle new) = 3 + (tokens_of handle + made_tokens new)
  tokens_of _ = 1

  pub made_tokens : Made → ℕ
  made_tokens (One value) = tokens_of value
  made_tokens (Array index count element) = 6 + (tokens_of count + tokens_of element)

  -- each argument with the comma or the parenthesis behind it
  pub argument_tokens : Expressions → ℕ
  argument_tokens NoExpressions = 0
  argument_tokens (MoreExpressions first others) = 1 + (tokens_of first + argument_tokens others)

  -- operands of `&&` and `||` after the first, with the operators before them; a first one alone is a test too
  pub tested_tokens : Expressions → ℕ
  tested_tokens NoExpressions = 1
  tested_tokens (MoreExpressions first others) = 1 + (tokens_of first + joined_tokens others)

  pub joined_tokens : Expressions → ℕ
  joined_tokens NoExpressions = 0
  joined_tokens (MoreExpressions first others) = 1 + (tokens_of first + joined_tokens others)

  pub link_tokens : Links → ℕ
  link_tokens NoLinks = 0
  link_tokens (MoreLinks operator operand others) = 1 + (tokens_of operand + link_tokens others)

  pub suffix_tokens : Suffixes → ℕ
  suffix_tokens NoSuffixes = 0
  suffix_tokens (Index index others) = 2 + (tokens_of index + suffix_tokens others)
  suffix_tokens (Dot f others) = 2 + suffix_tokens others
  suffix_tokens (Arrow f others) = 2 + suffix_tokens others

abbrev pub initializer_tokens : Initializer → ℕ
initializer_tokens Initializer.Unset = 0
initializer_tokens (Initializer.Elements count) = 0
initializer_tokens (Initializer.Value e) = tokens_of e

abbrev pub declaration_tokens : Declaration → ℕ
declaration_tokens (tree.Local of name initializer) = initializer_tokens initializer
-- the name of its pointer, or of its key
declaration_tokens (tree.Alias at region of alias pointer) = 1
declaration_tokens (tree.Open at region handle key) = 1
declaration_tokens _ = 0

-- the tokens of a statement: those of its expressions, and one of its own; a declaration has its name and type
abbrev mutual
  pub statement_size : Statement → ℕ
  statement_size (Statement.Block at items) = 1 + item_size items
  statement_size (Statement.Run e) = 1 + tokens_of e
  statement_size (Statement.Exchange left right) = 2 + (tokens_of left + tokens_of right)
  statement_size (Statement.If at condition body) = 1 + (tokens_of condition + statement_size body)
  statement_size (Statement.IfElse at condition body otherwise) = 1 + (tokens_of condition + (statement_size body + statement_size otherwise))
  statement_size (Statement.While at condition body) = 1 + (tokens_of condition + statement_size body)
  statement_size (Statement.Switch at place clauses) = 5 + (tokens_of place + clauses_size clauses)
  statement_size (Statement.Return at (Some e)) = 1 + tokens_of e
  statement_size _ = 1

  pub item_size : BlockItems → ℕ
  item_size NoItems = 0
  item_size (Declare d others) = 1 + (declaration_tokens d + item_size others)
  item_size (Execute s others) = statement_size s + item_size others

  -- `case {.M = x}:` and `default:`, and what is behind them
  pub clauses_size : Clauses → ℕ
  clauses_size NoClauses = 0
  clauses_size (MoreClauses at (Case f x) body others) = 8 + (item_size body + clauses_size others)
  clauses_size (MoreClauses at Default body others) = 2 + (item_size body + clauses_size others)

-- a function has its name, its parentheses and its braces, and each parameter its name
abbrev pub routines_size : List Routine → ℕ
routines_size [] = 0
routines_size (f ∷ fs) = 5 + (length f.parameters + item_size f.body) + routines_size fs

-- ---- the source: how many regions are left by `return`, `break` and `continue`, each counted wherever it is left

abbrev mutual
  pub statement_left : RegionsAround → Statement → ℕ
  statement_left h (Statement.Block at items) = items_left h items
  statement_left h (Statement.If at condition body) = statement_left h body
  statement_left h (Statement.IfElse at condition body otherwise) = statement_left h body + statement_left h otherwise
  statement_left h (Statement.While at condition body) = statement_left (in_loop h) body
  statement_left h (Statement.Switch at place clauses) = clauses_left (in_switch h) clauses
  statement_left h (Statement.Break at) = h.broken
  statement_left h (Statement.Continue at) = h.continued
  statement_left h (Statement.Return at result) = h.all
  statement_left h _ = 0

  pub items_left : RegionsAround → BlockItems → ℕ
  items_left h NoItems = 0
  items_left h (Declare d others) = items_left (regions_with d h) others
  items_left h (Execute s others) = statement_left h s + items_left h others

  pub clauses_left : RegionsAround → Clauses → ℕ
  clauses_left h NoClauses = 0
  clauses_left h (MoreClauses at label body others) = items_left h body + clauses_left h others

abbrev pub regions_left : List Routine → ℕ
regions_left [] = 0
regions_left (f ∷ fs) = items_left no_regions f.body + regions_left fs

-- 4,096 bytes, and 512 for each token that a program of these functions has at least, and for each region that is left
abbrev pub code_bound : List Routine → ℕ
code_bound fs = 4096 + 512 * (routines_size fs + regions_left fs)

-- 128 bytes, and 16 for each word of parameters and locals, and for what the nodes of its expressions count
abbrev pub frame_bound : World → Routine → ℕ
frame_bound w f =
    let names = parameter_names f.parameters 0 [] in
    let next = length f.parameters in
    128 + 16 * (all_words (part_shapes f.parameters) + (item_locals w names next f.body + item_nodes w names next f.body))

-- each function's frame in Core is within its bound
abbrev pub FramesFit : World → List Routine → Type 0
FramesFit w [] = Unit {0}
FramesFit w (f ∷ fs) = (core_bound (function_code w f) ≤ frame_bound w f) × FramesFit w fs
