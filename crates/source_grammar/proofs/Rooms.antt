-- Sixteen words for each token are as many as a phrase's temporaries, and as a program's, with the members of its unions.
use Rattle.std.proofs.Common.{ℕ, ◌+◌, ◌*◌, ◌^◌, ◌<◌, ◌≤◌, List, [], ◌∷◌, length, Some, None, arith}
use Rattle.cyc_lexer.specs.Lexing.{text_limit}
use Rattle.cyc_lexer.specs.declared.token.Sign.{Sign}
use Rattle.cyc_tree.specs.Room.{room, argument_room, link_room, suffix_room, made_room, declaration_room, statement_room, item_room, clause_room}
use Rattle.cyc_tree.specs.Room.{function_room, program_room}
use Rattle.cyc_tree.specs.Tree as tree
use Rattle.cyc_tree.specs.Tree.{Expression, Expressions, NoExpressions, MoreExpressions, Links, NoLinks, MoreLinks, Suffixes, NoSuffixes, Index, Dot, Arrow}
use Rattle.cyc_tree.specs.Tree.{Made, One, Array, Declaration, BlockItems, NoItems, Declare, Execute, Clauses, NoClauses, MoreClauses, Item, Program}
use Rattle.source_grammar.specs.Phrases.{Tokens, InParentheses, Each}
use Rattle.source_grammar.specs.ExpressionGrammar.{IsExpression, AreArguments, AreOperands, AreLinks, AreSuffixes, IsMade}
use Rattle.source_grammar.specs.StatementGrammar.{IsDeclaration, IsStatement, AreItems, AreClauses}
use Rattle.source_grammar.specs.Grammar.{IsItem, IsProgram}
use Rattle.source_grammar.proofs.Parts.{chained, switched}
use Rattle.source_grammar.proofs.Shorter.{one_taken, keyword_taken, sign_taken, name_taken, string_taken, none_taken, one_region_shorter, type_shorter}
use Rattle.source_grammar.proofs.Shorter.{count_shorter, name_in_parentheses, named_case}
use Rattle.source_grammar.proofs.ItemTokens.{body_stands, struct_size, union_size, global_shorter}

-- so many words, sixteen for each token of a phrase
abbrev Pays : ℕ → Tokens → Tokens → Type 0
Pays words from to = words + 16 * length to ≤ 16 * length from

-- ---- expressions

mutual
  expression_room : (e : Expression) (from to : Tokens) → IsExpression e from to → Pays (room e) from to
  expression_room (Expression.Number at value suffix) from to is = omega (arith, one_taken is)
  expression_room (Expression.Character at byte) from to is = omega (arith, one_taken is)
  expression_room (Expression.Text at bytes) from to is = omega (arith, string_taken is)
  expression_room (Expression.Null at) from to is = omega (arith, one_taken is)
  expression_room (Expression.HeapRegion at) from to is = omega (arith, one_taken is)
  expression_room (Expression.UniqueRegion at) from to is = omega (arith, one_taken is)
  expression_room (Expression.Variable name) from to is = omega (arith, name_taken is)
  expression_room (Expression.Call name arguments) from to (a, b, called, opened, are) =
      omega (arith, name_taken called, arguments_room arguments b to are, sign_taken opened)
  expression_room (Expression.MakeUnion tag member value) from to (a, b, c, made, dot, named, (d, e, opened, is, closed)) =
      omega (
        arith,
        name_taken made,
        sign_taken dot,
        name_taken named,
        sign_taken opened,
        expression_room value d e is,
        sign_taken closed,
      )
  expression_room (Expression.NumElts at operand) from to (a, word, (b, c, opened, is, closed)) =
      omega (arith, one_taken word, sign_taken opened, expression_room operand b c is, sign_taken closed)
  expression_room (Expression.Grouped at inner) from to (a, b, opened, is, closed) =
      omega (arith, one_taken opened, expression_room inner a b is, sign_taken closed)
  expression_room (Expression.Suffixed primary NoSuffixes) from to is = absurd is
  expression_room (Expression.Suffixed primary (Index index others)) from to (a, level, first, (b, c, d, opened, is, closed, are)) =
      omega (
        arith,
        expression_room primary from a first,
        sign_taken opened,
        expression_room index b c is,
        sign_taken closed,
        suffixes_room others d to are,
      )
  expression_room (Expression.Suffixed primary (Dot member others)) from to (a, level, first, (b, c, sign, name, are)) =
      omega (arith, expression_room primary from a first, sign_taken sign, name_taken name, suffixes_room others c to are)
  expression_room (Expression.Suffixed primary (Arrow member others)) from to (a, level, first, (b, c, sign, name, are)) =
      omega (arith, expression_room primary from a first, sign_taken sign, name_taken name, suffixes_room others c to are)
  expression_room (Expression.Prefixed at operator operand) from to (a, level, sign, is) = omega (arith, one_taken sign, expression_room operand a to is)
  expression_room (Expression.New at made) from to (a, word, is) = omega (arith, one_taken word, new_room made a to is)
  expression_room (Expression.NewIn at handle made) from to (a, b, word, (c, d, opened, is, closed), of) =
      omega (arith, one_taken word, sign_taken opened, expression_room handle c d is, sign_taken closed, new_room made b to of)
  expression_room (Expression.Chain first NoLinks) from to is = absurd is
  expression_room (Expression.Chain first (MoreLinks operator operand others)) from to is =
      let (a, level, leads, (b, c, same, above, sign, of, are)) = chained first (MoreLinks operator operand others) from to is in
      omega (arith, expression_room first from a leads, sign_taken sign, expression_room operand b c of, links_room others level c to are)
  expression_room (Expression.AllOf first NoExpressions) from to is = absurd is
  expression_room (Expression.AllOf first (MoreExpressions second others)) from to (a, level, is, (b, c, above, sign, of, are)) =
      omega (arith, expression_room first from a is, sign_taken sign, expression_room second b c of, operands_room others _ _ c to are)
  expression_room (Expression.AnyOf first NoExpressions) from to is = absurd is
  expression_room (Expression.AnyOf first (MoreExpressions second others)) from to (a, level, is, (b, c, above, sign, of, are)) =
      omega (arith, expression_room first from a is, sign_taken sign, expression_room second b c of, operands_room others _ _ c to are)
  expression_room (Expression.Assign place value) from to (a, b, level, left, sign, right) =
      omega (arith, expression_room place from a left, sign_taken sign, expression_room value b to right)

  arguments_room : (es : Expressions) (from to : Tokens) → AreArguments es from to → Pays (argument_room es) from to
  arguments_room NoExpressions from to closed = omega (arith, sign_taken closed)
  arguments_room (MoreExpressions first others) from to (a, b, is, are, closed) =
      omega (arith, expression_room first from a is, operands_room others _ _ a b are, sign_taken closed)

  operands_room : (es : Expressions) (s : Sign) (least : ℕ) (from to : Tokens) → AreOperands s least es from to → Pays (argument_room es) from to
  operands_room NoExpressions s least from to is = omega (arith, none_taken is)
  operands_room (MoreExpressions e others) s least from to (a, b, level, sign, is, are) =
      omega (arith, sign_taken sign, expression_room e a b is, operands_room others s least b to are)

  links_room : (links : Links) (level : ℕ) (from to : Tokens) → AreLinks level links from to → Pays (link_room links) from to
  links_room NoLinks level from to is = omega (arith, none_taken is)
  links_room (MoreLinks operator operand others) level from to (a, b, same, above, sign, is, are) =
      omega (arith, sign_taken sign, expression_room operand a b is, links_room others level b to are)

  suffixes_room : (suffixes : Suffixes) (from to : Tokens) → AreSuffixes suffixes from to → Pays (suffix_room suffixes) from to
  suffixes_room NoSuffixes from to is = omega (arith, none_taken is)
  suffixes_room (Index index others) from to (a, b, c, opened, is, closed, are) =
      omega (arith, sign_taken opened, expression_room index a b is, sign_taken closed, suffixes_room others c to are)
  suffixes_room (Dot member others) from to (a, b, sign, name, are) = omega (arith, sign_taken sign, name_taken name, suffixes_room others b to are)
  suffixes_room (Arrow member others) from to (a, b, sign, name, are) = omega (arith, sign_taken sign, name_taken name, suffixes_room others b to are)

  new_room : (made : Made) (from to : Tokens) → IsMade made from to → Pays (made_room made) from to
  new_room (One value) from to (level, is) = omega (arith, expression_room value from to is)
  new_room (Array index count element) from to (a, b, c, d, e, f, g, opened, word, name, less, counted, colon, each, closed) =
      omega (
        arith,
        sign_taken opened,
        keyword_taken word,
        name_taken name,
        sign_taken less,
        expression_room count d e counted,
        sign_taken colon,
        expression_room element f g each,
        sign_taken closed,
      )

-- ---- statements

declared_room : (d : Declaration) (from to : Tokens) → IsDeclaration d from to → Pays (declaration_room d) from to
declared_room (tree.Local of name tree.Unset) from to (a, b, c, typed, is, none, ends) =
    omega (arith, type_shorter of from a typed, name_taken is, none_taken none, sign_taken ends)
declared_room (tree.Local of name (tree.Elements count)) from to (a, b, c, typed, is, counted, ends) =
    omega (arith, type_shorter of from a typed, name_taken is, count_shorter count b c counted, sign_taken ends)
declared_room (tree.Local of name (tree.Value value)) from to (a, b, c, typed, is, (d, begins, gives), ends) =
    omega (arith, type_shorter of from a typed, name_taken is, sign_taken begins, expression_room value d c gives, sign_taken ends)
declared_room (tree.Region at region handle) from to (a, b, c, word, of, is, ends) =
    omega (arith, one_taken word, one_region_shorter region a b of, name_taken is, sign_taken ends)
declared_room (tree.Open at region handle key) from to (a, b, c, d, e, f, word, of, is, begins, opens, by, ends) =
    omega (
      arith,
      one_taken word,
      one_region_shorter region a b of,
      name_taken is,
      sign_taken begins,
      keyword_taken opens,
      name_in_parentheses key e f by,
      sign_taken ends,
    )
declared_room (tree.Alias at region of alias pointer) from to (a, b, c, d, e, f, g, word, other, within, typed, is, begins, named, ends) =
    omega (
      arith,
      one_taken word,
      keyword_taken other,
      one_region_shorter region b c within,
      type_shorter of c d typed,
      name_taken is,
      sign_taken begins,
      name_taken named,
      sign_taken ends,
    )
declared_room (tree.NewKey at region key) from to
    (a, b, c, d, e, f, g, h, i, j, word, made, brace, within, is, closed, begins, call, opened, shut, ends) =
    omega (
      arith,
      one_taken word,
      keyword_taken made,
      sign_taken brace,
      one_region_shorter region c d within,
      name_taken is,
      sign_taken closed,
      sign_taken begins,
      keyword_taken call,
      sign_taken opened,
      sign_taken shut,
      sign_taken ends,
    )

-- an expression in parentheses, as a condition is
condition_room : (e : Expression) (from to : Tokens) → InParentheses (IsExpression e) from to → Pays (room e) from to
condition_room e from to (a, b, opened, is, closed) = omega (arith, sign_taken opened, expression_room e a b is, sign_taken closed)

mutual
  stated_room : (s : tree.Statement) (from to : Tokens) → IsStatement s from to → Pays (statement_room s) from to
  stated_room (tree.Empty at) from to is = omega (arith, one_taken is)
  stated_room (tree.Block at items) from to (a, b, opened, are, closed) = omega (arith, one_taken opened, items_room items a b are, sign_taken closed)
  stated_room (tree.Run e) from to (a, is, ends) = omega (arith, expression_room e from a is, sign_taken ends)
  stated_room (tree.Exchange left right) from to (a, b, c, one, sign, other, ends) =
      omega (arith, expression_room left from a one, sign_taken sign, expression_room right b c other, sign_taken ends)
  stated_room (tree.If at condition body) from to (a, b, word, tests, is) =
      omega (arith, one_taken word, condition_room condition a b tests, stated_room body b to is)
  stated_room (tree.IfElse at condition body otherwise) from to (a, b, c, d, word, tests, is, closes, other, follows) =
      omega (
        arith,
        one_taken word,
        condition_room condition a b tests,
        stated_room body b c is,
        keyword_taken other,
        stated_room otherwise d to follows,
      )
  stated_room (tree.While at condition body) from to (a, b, word, tests, is) =
      omega (arith, one_taken word, condition_room condition a b tests, stated_room body b to is)
  stated_room (tree.Switch at place clauses) from to is =
      let (a, b, c, d, word, chooses, opened, are, closed) = switched at place clauses from to is in
      omega (arith, one_taken word, condition_room place a b chooses, sign_taken opened, clauses_room clauses c d are, sign_taken closed)
  stated_room (tree.Break at) from to (a, word, ends) = omega (arith, one_taken word, sign_taken ends)
  stated_room (tree.Continue at) from to (a, word, ends) = omega (arith, one_taken word, sign_taken ends)
  stated_room (tree.Return at None) from to (a, word, ends) = omega (arith, one_taken word, sign_taken ends)
  stated_room (tree.Return at (Some value)) from to (a, word, (b, gives, ends)) =
      omega (arith, one_taken word, expression_room value a b gives, sign_taken ends)
  stated_room (tree.FreeUnique at pointer) from to (a, b, word, is, ends) =
      omega (arith, one_taken word, name_in_parentheses pointer a b is, sign_taken ends)
  stated_room (tree.FreeKey at key) from to (a, b, word, is, ends) = omega (arith, one_taken word, name_in_parentheses key a b is, sign_taken ends)

  items_room : (items : BlockItems) (from to : Tokens) → AreItems items from to → Pays (item_room items) from to
  items_room NoItems from to is = omega (arith, none_taken is)
  items_room (Declare declaration others) from to (a, is, are) = omega (arith, declared_room declaration from a is, items_room others a to are)
  items_room (Execute statement others) from to (a, is, are) = omega (arith, stated_room statement from a is, items_room others a to are)

  clauses_room : (clauses : Clauses) (from to : Tokens) → AreClauses clauses from to → Pays (clause_room clauses) from to
  clauses_room NoClauses from to is = omega (arith, none_taken is)
  clauses_room (MoreClauses at (tree.Case member name) body others) from to (a, b, c, is, colon, are, follow) =
      omega (arith, named_case at member name from a is, sign_taken colon, items_room body b c are, clauses_room others c to follow)
  clauses_room (MoreClauses at tree.Default body others) from to (a, b, c, is, colon, are, follow) =
      omega (arith, one_taken is, sign_taken colon, items_room body b c are, clauses_room others c to follow)

-- ---- programs

routine_room : (f : tree.Function) (from to : Tokens) → IsItem (tree.FunctionItem f) from to → Pays (function_room f) from to
routine_room f from to is =
    let (before, behind, does, above, below) = body_stands f from to is in
    omega (arith, above, items_room f.body before behind does, below)

-- a union's members are fewer than its tokens
all_room : (items : List Item) (from to : Tokens) → Each IsItem items from to → Pays (program_room items) from to
all_room [] from to is = omega (arith, none_taken is)
all_room (tree.StructItem s ∷ items) from to (a, is, are) = omega (arith, struct_size s from a is, all_room items a to are)
all_room (tree.UnionItem u ∷ items) from to (a, is, are) = omega (arith, union_size u from a is, all_room items a to are)
all_room (tree.GlobalItem g ∷ items) from to (a, is, are) = omega (arith, global_shorter g from a is, all_room items a to are)
all_room (tree.FunctionItem f ∷ items) from to (a, is, are) = omega (arith, routine_room f from a is, all_room items a to are)

-- a word counts the temporaries of a program of no more tokens than a text has, and the members of its unions
pub room_is_there : (p : Program) (tokens : Tokens) → length tokens ≤ text_limit → IsProgram p tokens → program_room p < 2 ^ 32
room_is_there [] tokens few is = absurd is
room_is_there (item ∷ items) tokens few are = let pays = all_room (item ∷ items) tokens [] are in omega (arith, few, pays)
