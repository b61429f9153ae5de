-- A statement has at least the tokens of its expressions, and one of its own.
use Rattle.std.proofs.Common.{◌+◌, Some, None, arith}
use Rattle.cyc_tree.specs.Tree as tree
use Rattle.cyc_tree.specs.Tree.{Expression, Declaration, BlockItems, NoItems, Declare, Execute, Clauses, NoClauses, MoreClauses}
use Rattle.source_grammar.specs.Phrases.{Tokens, InParentheses}
use Rattle.source_grammar.specs.ExpressionGrammar.{IsExpression}
use Rattle.source_grammar.specs.StatementGrammar.{IsDeclaration, IsStatement, AreItems, AreClauses}
use Rattle.source_grammar.proofs.Parts.{switched}
use Rattle.source_grammar.proofs.Shorter.{one_taken, keyword_taken, sign_taken, name_taken, none_taken, one_region_shorter, type_shorter}
use Rattle.source_grammar.proofs.Shorter.{count_shorter, name_in_parentheses, Takes, in_parentheses, named_case}
use Rattle.source_lowering.specs.Bounds.{tokens_of, declaration_tokens, statement_size, item_size, clauses_size}
use Rattle.token_proof.proofs.ExpressionSizes.{expression_size}

-- ---- declarations

-- its name and its semicolon are two tokens
declaration_size : (declaration : Declaration) (from to : Tokens) → IsDeclaration declaration from to → Takes (1 + declaration_tokens declaration) from to
declaration_size (tree.Local of name tree.Unset) from to (a, b, c, typed, is, none, ends) =
    omega (arith, type_shorter of from a typed, name_taken is, none_taken none, sign_taken ends)
declaration_size (tree.Local of name (tree.Elements count)) from to (a, b, c, typed, is, counted, ends) =
    omega (arith, type_shorter of from a typed, name_taken is, count_shorter count b c counted, sign_taken ends)
declaration_size (tree.Local of name (tree.Value value)) from to (a, b, c, typed, is, (d, begins, gives), ends) =
    omega (arith, type_shorter of from a typed, name_taken is, sign_taken begins, expression_size value d c gives, sign_taken ends)
declaration_size (tree.Region at region handle) from to (a, b, c, word, of, is, ends) =
    omega (arith, one_taken word, one_region_shorter region a b of, name_taken is, sign_taken ends)
declaration_size (tree.Open at region handle key) from to (a, b, c, d, e, f, word, of, is, begins, opens, by, ends) =
    omega (
      arith,
      one_taken word,
      one_region_shorter region a b of,
      name_taken is,
      sign_taken begins,
      keyword_taken opens,
      name_in_parentheses key e f by,
      sign_taken ends,
    )
declaration_size (tree.Alias at region of alias pointer) from to (a, b, c, d, e, f, g, word, other, within, typed, is, begins, named, ends) =
    omega (
      arith,
      one_taken word,
      keyword_taken other,
      one_region_shorter region b c within,
      type_shorter of c d typed,
      name_taken is,
      sign_taken begins,
      name_taken named,
      sign_taken ends,
    )
declaration_size (tree.NewKey at region key) from to
    (a, b, c, d, e, f, g, h, i, j, word, made, brace, within, is, closed, begins, call, opened, shut, ends) =
    omega (
      arith,
      one_taken word,
      keyword_taken made,
      sign_taken brace,
      one_region_shorter region c d within,
      name_taken is,
      sign_taken closed,
      sign_taken begins,
      keyword_taken call,
      sign_taken opened,
      sign_taken shut,
      sign_taken ends,
    )

-- ---- statements

-- an expression in parentheses, as a condition is
condition_size : (e : Expression) (from to : Tokens) → InParentheses (IsExpression e) from to → Takes (2 + tokens_of e) from to
condition_size e = in_parentheses (tokens_of e) (IsExpression e) (expression_size e)

mutual
  pub sized : (s : tree.Statement) (from to : Tokens) → IsStatement s from to → Takes (statement_size s) from to
  sized (tree.Empty at) from to is = omega (arith, one_taken is)
  sized (tree.Block at items) from to (a, b, opened, are, closed) = omega (arith, one_taken opened, items_sized items a b are, sign_taken closed)
  sized (tree.Run e) from to (a, is, ends) = omega (arith, expression_size e from a is, sign_taken ends)
  sized (tree.Exchange left right) from to (a, b, c, one, sign, other, ends) =
      omega (arith, expression_size left from a one, sign_taken sign, expression_size right b c other, sign_taken ends)
  sized (tree.If at condition body) from to (a, b, word, tests, is) = omega (arith, one_taken word, condition_size condition a b tests, sized body b to is)
  sized (tree.IfElse at condition body otherwise) from to (a, b, c, d, word, tests, is, closes, other, follows) =
      omega (arith, one_taken word, condition_size condition a b tests, sized body b c is, keyword_taken other, sized otherwise d to follows)
  sized (tree.While at condition body) from to (a, b, word, tests, is) = omega (arith, one_taken word, condition_size condition a b tests, sized body b to is)
  sized (tree.Switch at place clauses) from to is =
      let (a, b, c, d, word, chooses, opened, are, closed) = switched at place clauses from to is in
      omega (arith, one_taken word, condition_size place a b chooses, sign_taken opened, clauses_sized clauses c d are, sign_taken closed)
  sized (tree.Break at) from to (a, word, ends) = omega (arith, one_taken word, sign_taken ends)
  sized (tree.Continue at) from to (a, word, ends) = omega (arith, one_taken word, sign_taken ends)
  sized (tree.Return at None) from to (a, word, ends) = omega (arith, one_taken word, sign_taken ends)
  sized (tree.Return at (Some value)) from to (a, word, (b, gives, ends)) =
      omega (arith, one_taken word, expression_size value a b gives, sign_taken ends)
  sized (tree.FreeUnique at pointer) from to (a, b, word, is, ends) = omega (arith, one_taken word, name_in_parentheses pointer a b is, sign_taken ends)
  sized (tree.FreeKey at key) from to (a, b, word, is, ends) = omega (arith, one_taken word, name_in_parentheses key a b is, sign_taken ends)

  pub items_sized : (items : BlockItems) (from to : Tokens) → AreItems items from to → Takes (item_size items) from to
  items_sized NoItems from to is = omega (arith, none_taken is)
  items_sized (Declare declaration others) from to (a, is, are) = omega (arith, declaration_size declaration from a is, items_sized others a to are)
  items_sized (Execute statement others) from to (a, is, are) = omega (arith, sized statement from a is, items_sized others a to are)

  clauses_sized : (clauses : Clauses) (from to : Tokens) → AreClauses clauses from to → Takes (clauses_size clauses) from to
  clauses_sized NoClauses from to is = omega (arith, none_taken is)
  clauses_sized (MoreClauses at (tree.Case member name) body others) from to (a, b, c, is, colon, are, follow) =
      omega (arith, named_case at member name from a is, sign_taken colon, items_sized body b c are, clauses_sized others c to follow)
  clauses_sized (MoreClauses at tree.Default body others) from to (a, b, c, is, colon, are, follow) =
      omega (arith, one_taken is, sign_taken colon, items_sized body b c are, clauses_sized others c to follow)
