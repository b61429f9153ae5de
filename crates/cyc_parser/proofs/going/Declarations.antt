-- What the reader of declarations answers: the tree, or the place of the first token that is too deep.
use Rattle.std.proofs.Common.{◌≡◌, ℕ, true, Option, None, refl}
use Rattle.cyc_lexer.specs.declared.token.Keyword.TheVariants as word
use Rattle.cyc_lexer.specs.declared.token.Sign.TheVariants as sign_of
use Rattle.cyc_tree.specs.Tree as tree
use Rattle.cyc_tree.specs.Tree.{Name, TypeName, Expression, Declaration, Local, Open, Alias, NewKey}
use Rattle.cyc_tree.proofs.PartNesting.{declaration_nesting}
use Rattle.cyc_tree.specs.Depths.{first_deeper, expression_starts, declaration_starts}
use Rattle.source_grammar.specs.Phrases.{Tokens, IsSign}
use Rattle.source_grammar.specs.ExpressionGrammar.{IsExpression}
use Rattle.source_grammar.specs.StatementGrammar.{IsDeclaration}
use Rattle.cyc_parser.specs.Tests.{is_keyword, begins_type, continues}
use Rattle.cyc_parser.specs.Reader.{done, choose, next_is}
use Rattle.cyc_parser.specs.ReadTypes.{name, type_name}
use Rattle.cyc_parser.specs.ReadExpressions.{expression_at}
use Rattle.cyc_parser.specs.ReadStatements.{initializer_by, local_by, region_declaration, binding, declaration_by}
use Rattle.cyc_parser.specs.Exact.{Stops}
use Rattle.cyc_parser.proofs.exactness.Parts.{begins_stops}
use Rattle.cyc_parser.proofs.exactness.Types.{type_exact, name_exact}
use Rattle.cyc_parser.proofs.exactness.Expressions.{expression_exact}
use Rattle.cyc_parser.proofs.StatementsWithin.{within_none}
use Rattle.cyc_parser.proofs.exactness.Unguarded.{stops_never}
use Rattle.cyc_parser.proofs.exactness.Declarations.{type_no_region, type_no_let, type_begins, declaration_by_exact}
use Rattle.cyc_parser.proofs.Goes.{Goes, goes_behind, goes_before, goes_second}

module _ (limit n m : ℕ)
    (inner_goes : (e : Expression) (from to : Tokens) → IsExpression e from to → Stops (continues 0) to
    → Goes (expression_at m from) e to (first_deeper limit (expression_starts n e))) where
  -- a declaration in which no phrase nests is read
  plain_read : (x : Declaration) (from to : Tokens) → IsDeclaration x from to → declaration_nesting x ≡ 0
      → Goes (declaration_by (expression_at m) from) x to None
  plain_read x from to is none =
      (declaration_by_exact m (expression_at m) (expression_exact m)).again x from to (is, rw none (within_none true m)) (stops_never to)

  -- what is assigned
  value_goes : (e : Expression) (from mid to rest : Tokens) → IsSign sign_of.Assign from mid → IsExpression e mid to
      → IsSign sign_of.Semicolon to rest
      → Goes (initializer_by (expression_at m) from) (tree.Value e) to (first_deeper limit (expression_starts n e))
  unfolding initializer_by
  value_goes e from mid to rest assign is end =
      rw assign.1.1
      (goes_before (expression_at m) (λ e. done (tree.Value e)) mid e to (tree.Value e) to (first_deeper limit (expression_starts n e))
      (inner_goes e mid to is (rw end.1.1 refl)) refl)

  -- a variable with a value
  local_goes : (t : TypeName) (x : Name) (e : Expression) (from to : Tokens) → IsDeclaration (Local t x (tree.Value e)) from to
      → Goes (local_by (expression_at m) from) (Local t x (tree.Value e)) to (first_deeper limit (expression_starts n e))
  unfolding local_by
  local_goes t x e from to is =
      let (a, b, c, of, named, (d, assign, value), end) = is in
      let deep : Option ℕ = first_deeper limit (expression_starts n e) in
      goes_behind type_name _ from t a (Local t x (tree.Value e)) to deep (type_exact.again t from a of (rw named refl))
      (goes_behind name _ a x b (Local t x (tree.Value e)) to deep (name_exact.again x a b named (stops_never b))
      (goes_before (initializer_by (expression_at m)) _ b (tree.Value e) c (Local t x (tree.Value e)) to deep (value_goes e b d c to assign value end)
      (rw end.1.1 refl)))

  pub declaration_goes : (x : Declaration) (from to : Tokens) → IsDeclaration x from to
      → Goes (declaration_by (expression_at m) from) x to (first_deeper limit (declaration_starts n x))
  unfolding declaration_by
  declaration_goes (Local t x (tree.Value e)) from to is =
      let begins : next_is begins_type from ≡ true = type_begins t from is.0 is.3 in
      let deep : Option ℕ = first_deeper limit (expression_starts n e) in
      goes_second (is_keyword word.Region) region_declaration (choose (is_keyword word.Let) binding (local_by (expression_at m))) from
      (Local t x (tree.Value e)) to deep
      (begins_stops begins_type (is_keyword word.Region) type_no_region from begins)
      (goes_second (is_keyword word.Let) binding (local_by (expression_at m)) from (Local t x (tree.Value e)) to deep
      (begins_stops begins_type (is_keyword word.Let) type_no_let from begins) (local_goes t x e from to is))
  declaration_goes (Local t x tree.Initializer.Unset) from to is = plain_read (Local t x tree.Initializer.Unset) from to is refl
  declaration_goes (Local t x (tree.Initializer.Elements count)) from to is =
      plain_read (Local t x (tree.Initializer.Elements count)) from to is refl
  declaration_goes (tree.Region at r handle) from to is = plain_read (tree.Region at r handle) from to is refl
  declaration_goes (Open at r handle key) from to is = plain_read (Open at r handle key) from to is refl
  declaration_goes (Alias at r t alias pointer) from to is = plain_read (Alias at r t alias pointer) from to is refl
  declaration_goes (NewKey at r key) from to is = plain_read (NewKey at r key) from to is refl
