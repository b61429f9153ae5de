-- What the readers of a block's items and of blocks answer: the tree, or the place of the first token that is too deep.
use Rattle.std.proofs.Common.{◌≡◌, ℕ, suc, ◌+◌, false, List, [], ◌∷◌, Ok, Option, refl, sym, ap, ◌∙◌}
use Rattle.cyc_lexer.specs.declared.token.Keyword.TheVariants as word
use Rattle.cyc_lexer.specs.declared.token.Sign.TheVariants as sign_of
use Rattle.cyc_tree.specs.Tree.{Expression, Statement, Block, BlockItems}
use Rattle.cyc_tree.specs.View.{OneItem, items_of}
use Rattle.cyc_tree.specs.Depths.{first_deeper, expression_starts, declaration_starts, statement_starts, items_starts}
use Rattle.source_grammar.specs.Phrases.{Tokens}
use Rattle.source_grammar.specs.ExpressionGrammar.{IsExpression}
use Rattle.source_grammar.specs.StatementGrammar.{IsStatement, AreItems}
use Rattle.cyc_parser.specs.Tests.{is_keyword, begins_declaration, begins_statement, begins_item, continues}
use Rattle.cyc_parser.specs.Reader.{Outcome, done, read, many, sign}
use Rattle.cyc_parser.specs.ReadExpressions.{expression_at}
use Rattle.cyc_parser.specs.ReadStatements.{declaration_by, item_by, items_by, block_by, statement_at}
use Rattle.cyc_parser.specs.Exact.{Stops}
use Rattle.cyc_parser.proofs.exactness.Parts.{begins_stops}
use Rattle.cyc_parser.proofs.exactness.Types.{sign_exact}
use Rattle.cyc_parser.proofs.exactness.Expressions.{expression_exact}
use Rattle.cyc_parser.proofs.StatementsWithin.{takes_else, goes_on_in_block}
use Rattle.cyc_parser.proofs.exactness.Unguarded.{stops_never}
use Rattle.cyc_parser.proofs.exactness.Declarations.{declaration_begins}
use Rattle.cyc_parser.proofs.StatementKinds.{statement_begins, statement_no_declaration}
use Rattle.cyc_parser.proofs.exactness.Blocks.{IsItemAt, item_takes, item_begins, item_apart, item_within, list_of, list_same, listed, rows_back, item_exact}
use Rattle.cyc_parser.proofs.exactness.Statements.{statement_exact}
use Rattle.cyc_parser.proofs.Goes.{Goes, or_else, first_of, deeper_both, own_start, goes_as, goes_behind, goes_before, goes_first, goes_second, many_goes}
use Rattle.cyc_parser.proofs.going.Declarations.{declaration_goes}

module _ (limit n m : ℕ)
    (inner_goes : (e : Expression) (from to : Tokens) → IsExpression e from to → Stops (continues 0) to
    → Goes (expression_at m from) e to (first_deeper limit (expression_starts n e)))
    (statement_goes : (s : Statement) (from to : Tokens) → IsStatement s from to → Stops (takes_else s) to
    → Goes (statement_at m from) s to (first_deeper limit (statement_starts n s))) where
  abbrev declared : Tokens → Outcome OneItem
  declared = read (declaration_by (expression_at m)) (λ x. done (OneItem.Declare x))

  abbrev executed : Tokens → Outcome OneItem
  executed = read (statement_at m) (λ s. done (OneItem.Execute s))

  abbrev item : Tokens → Outcome OneItem
  item = item_by (expression_at m) (statement_at m)

  -- the first place of an item that is too deep
  abbrev item_deep : OneItem → Option ℕ
  item_deep (OneItem.Declare x) = first_deeper limit (declaration_starts n x)
  item_deep (OneItem.Execute s) = first_deeper limit (statement_starts n s)

  item_goes : (i : OneItem) (from to : Tokens) → IsItemAt m false i from to → Stops (item_takes i) to → Goes (item from) i to (item_deep i)
  unfolding item_by
  item_goes (OneItem.Declare x) from to is stops =
      goes_first begins_declaration declared executed from (OneItem.Declare x) to (first_deeper limit (declaration_starts n x))
      (declaration_begins x from to is.0)
      (goes_before (declaration_by (expression_at m)) (λ x. done (OneItem.Declare x)) from x to (OneItem.Declare x) to
      (first_deeper limit (declaration_starts n x))
      (declaration_goes limit n m inner_goes x from to is.0) refl)
  item_goes (OneItem.Execute s) from to is stops =
      goes_second begins_declaration declared executed from (OneItem.Execute s) to (first_deeper limit (statement_starts n s))
      (begins_stops begins_statement begins_declaration statement_no_declaration from (statement_begins s from to is.0))
      (goes_before (statement_at m) (λ s. done (OneItem.Execute s)) from s to (OneItem.Execute s) to (first_deeper limit (statement_starts n s))
      (statement_goes s from to is.0 stops) refl)

  -- the first place of items that is too deep is that of the first such item
  items_deep : (is : List OneItem) → first_of item_deep is ≡ first_deeper limit (items_starts n (items_of is))
  items_deep [] = refl
  items_deep (OneItem.Declare x ∷ is) =
      ap (or_else (first_deeper limit (declaration_starts n x))) (items_deep is)
      ∙ sym (deeper_both limit (declaration_starts n x) (items_starts n (items_of is)))
  items_deep (OneItem.Execute s ∷ is) =
      ap (or_else (first_deeper limit (statement_starts n s))) (items_deep is)
      ∙ sym (deeper_both limit (statement_starts n s) (items_starts n (items_of is)))

  pub items_goes : (items : BlockItems) (from to : Tokens) → AreItems items from to → Stops goes_on_in_block to
      → Goes (items_by (expression_at m) (statement_at m) from) (list_of items) to (first_deeper limit (items_starts n items))
  unfolding items_by
  items_goes items from to is stops =
      goes_as (many begins_item item from) (list_of items) to (first_of item_deep (list_of items)) (first_deeper limit (items_starts n items))
      (items_deep (list_of items) ∙ ap (λ (x : BlockItems). first_deeper limit (items_starts n x)) (list_same items))
      (many_goes begins_item (IsItemAt m) item_takes item
      (item_exact m (expression_at m) (expression_exact m) (statement_at m) (statement_exact m))
      (item_begins m) item_apart (is_keyword word.Else) item_within item_deep item_goes (list_of items) from to
      (rows_back m false (list_of items) from to (listed m false items from to (is, tt))) stops)

module _ (limit n m : ℕ) (same : n + suc m ≡ limit)
    (inner_goes : (e : Expression) (from to : Tokens) → IsExpression e from to → Stops (continues 0) to
    → Goes (expression_at m from) e to (first_deeper limit (expression_starts (n + 1) e)))
    (statement_goes : (s : Statement) (from to : Tokens) → IsStatement s from to → Stops (takes_else s) to
    → Goes (statement_at m from) s to (first_deeper limit (statement_starts (n + 1) s))) where
  abbrev items : Tokens → Outcome (List OneItem)
  items = items_by (expression_at m) (statement_at m)

  pub block_goes : (at : ℕ) (inner : BlockItems) (from to : Tokens) → IsStatement (Block at inner) from to
      → Goes (block_by (expression_at m) (statement_at m) from) (Block at inner) to (first_deeper limit (statement_starts n (Block at inner)))
  unfolding block_by
  block_goes at inner from to is =
      let (a, b, begin, inside, end) = is in
      let deep : Option ℕ = first_deeper limit (items_starts (n + 1) inner) in
      goes_as _ (Block at inner) to deep (first_deeper limit (statement_starts n (Block at inner)))
      (sym (own_start limit n m same at (items_starts (n + 1) inner)))
      (goes_behind (sign sign_of.LeftBrace) _ from at a (Block at inner) to deep
      ((sign_exact sign_of.LeftBrace).again at from a begin (stops_never a))
      (goes_before items _ a (list_of inner) b (Block at inner) to deep
      (items_goes limit (n + 1) m inner_goes statement_goes inner a b inside (rw end.1.1 refl))
      (rw end.1.1 (ap (λ (x : BlockItems). Ok (Block at x, to)) (list_same inner)))))
