-- The readers of a block's items and of blocks are exact.
use Rattle.std.proofs.Common.{◌≡◌, ℕ, suc, Bool, true, false, List, [], ◌∷◌, refl, sym, ap, subst, inl, inr}
use Rattle.std.proofs.Math.Bool.{and-false}
use Rattle.cyc_lexer.specs.declared.token.Keyword.TheVariants as word
use Rattle.cyc_lexer.specs.declared.token.Sign.TheVariants as sign_of
use Rattle.cyc_lexer.specs.declared.token.TokenKind.{TokenKind}
use Rattle.cyc_tree.specs.Tree as tree
use Rattle.cyc_tree.specs.Tree.{Expression, Statement, Block, BlockItems, NoItems}
use Rattle.cyc_tree.specs.View.{OneItem, items_of}
use Rattle.cyc_tree.proofs.PartNesting.{items_nesting}
use Rattle.source_grammar.specs.Phrases.{Tokens, SignAt}
use Rattle.source_grammar.specs.StatementGrammar.{AreItems, ends_open}
use Rattle.cyc_parser.specs.Tests.{is_keyword, begins_declaration, begins_statement, begins_item, continues}
use Rattle.cyc_parser.specs.Reader.{next_is}
use Rattle.cyc_parser.specs.ReadExpressions.{Reads}
use Rattle.cyc_parser.specs.ReadStatements.{item_by, items_by, block_by}
use Rattle.cyc_parser.specs.Exact.{Exact, Anything, ends, always, Whole, Within, Then, Either, Rows}
use Rattle.cyc_parser.proofs.exactness.Parts.{begins_stops}
use Rattle.cyc_parser.proofs.Exact.{exact_as, many_exact}
use Rattle.cyc_parser.proofs.exactness.Types.{sign_exact}
use Rattle.cyc_parser.proofs.exactness.Expressions.{IsExpressionAt}
use Rattle.cyc_parser.proofs.StatementsWithin.{takes_else_at, IsDeclarationAt, IsStatementAt, AreItemsAt, takes_else, goes_on_in_block, within_none, within_up}
use Rattle.cyc_parser.proofs.StatementsWithin.{within_down, within_max, within_left, within_right}
use Rattle.cyc_parser.proofs.exactness.Unguarded.{read_on, read_closed, choose_on, Made, make_on, make_closed, EndsWith, end_with}
use Rattle.cyc_parser.proofs.exactness.Declarations.{declaration_by_exact, declaration_begins}
use Rattle.cyc_parser.proofs.StatementKinds.{item_no_else, statement_no_declaration, statement_begins, declaration_begins_item, statement_begins_item}

abbrev pub IsItemAt : ℕ → Bool → OneItem → Tokens → Tokens → Type 0
IsItemAt d b (OneItem.Declare x) from to = IsDeclarationAt d b x from to
IsItemAt d b (OneItem.Execute s) from to = IsStatementAt d b s from to

abbrev pub item_takes : OneItem → TokenKind → Bool
item_takes (OneItem.Declare x) k = false
item_takes (OneItem.Execute s) k = takes_else s k

pub item_begins : (d : ℕ) (b : Bool) (i : OneItem) (from to : Tokens) → IsItemAt d b i from to → next_is begins_item from ≡ true
item_begins d b (OneItem.Declare x) from to w = declaration_begins_item x from to w.0
item_begins d b (OneItem.Execute s) from to w = statement_begins_item s from to w.0

pub item_apart : (i : OneItem) (k : TokenKind) → begins_item k ≡ true → item_takes i k ≡ false
item_apart (OneItem.Declare x) k h = refl
item_apart (OneItem.Execute s) k h = rw (item_no_else k h) (and-false (ends_open s))

pub item_within : (i : OneItem) (k : TokenKind) → item_takes i k ≡ true → is_keyword word.Else k ≡ true
item_within (OneItem.Declare x) k h = absurd cc
item_within (OneItem.Execute s) k h = takes_else_at s k h

-- ---- items as a list

pub list_of : BlockItems → List OneItem
list_of NoItems = []
list_of (tree.Declare x others) = OneItem.Declare x ∷ list_of others
list_of (tree.Execute s others) = OneItem.Execute s ∷ list_of others

pub list_same : (items : BlockItems) → items_of (list_of items) ≡ items
unfolding list_of
list_same NoItems = refl
list_same (tree.Declare x others) = ap (tree.Declare x) (list_same others)
list_same (tree.Execute s others) = ap (tree.Execute s) (list_same others)

pub listed : (d : ℕ) (b : Bool) (items : BlockItems) (from to : Tokens) → AreItems items from to × Within b d (items_nesting items)
    → AreItemsAt d b (list_of items) from to
listed d b items from to w = subst (λ (y : BlockItems). AreItems y from to × Within b d (items_nesting y)) (sym (list_same items)) w

rows_into : (d : ℕ) (b : Bool) (is : List OneItem) (from to : Tokens) → Rows (IsItemAt d) b is from to → AreItemsAt d b is from to
rows_into d b [] from to w = (w, within_none b d)
rows_into d b (OneItem.Declare x ∷ is) from to w =
    let others : AreItemsAt d b is w.0 to = rows_into d b is w.0 to w.2 in ((w.0, w.1.0, others.0), within_max b d _ _ w.1.1 others.1)
rows_into d b (OneItem.Execute s ∷ is) from to w =
    let others : AreItemsAt d b is w.0 to = rows_into d b is w.0 to w.2 in ((w.0, w.1.0, others.0), within_max b d _ _ w.1.1 others.1)

pub rows_back : (d : ℕ) (b : Bool) (is : List OneItem) (from to : Tokens) → AreItemsAt d b is from to → Rows (IsItemAt d) b is from to
rows_back d b [] from to w = w.0
rows_back d b (OneItem.Declare x ∷ is) from to w =
    (w.0.0, (w.0.1, within_left b d _ _ w.1), rows_back d b is w.0.0 to (w.0.2, within_right b d _ _ w.1))
rows_back d b (OneItem.Execute s ∷ is) from to w =
    (w.0.0, (w.0.1, within_left b d _ _ w.1), rows_back d b is w.0.0 to (w.0.2, within_right b d _ _ w.1))

module _ (d : ℕ) (expr : Reads Expression) (each : Exact Anything (IsExpressionAt d) (always (continues 0)) expr)
    (stmt : Reads Statement) (inner : Exact Anything (IsStatementAt d) takes_else stmt) where
  abbrev IsItemPart : Bool → OneItem → Tokens → Tokens → Type 0
  IsItemPart = Either (Made OneItem.Declare (IsDeclarationAt d)) (Made OneItem.Execute (IsStatementAt d))

  item_into : (b : Bool) (i : OneItem) (from to : Tokens) → IsItemPart b i from to → IsItemAt d b i from to
  item_into b i from to (inl w) = subst (λ (x : OneItem). IsItemAt d b x from to) (sym w.1) w.2
  item_into b i from to (inr w) = subst (λ (x : OneItem). IsItemAt d b x from to) (sym w.1) w.2

  item_back : (b : Bool) (i : OneItem) (from to : Tokens) → IsItemAt d b i from to → IsItemPart b i from to
  item_back b (OneItem.Declare x) from to w = inl (x, refl, w)
  item_back b (OneItem.Execute s) from to w = inr (s, refl, w)

  pub item_exact : Exact Anything (IsItemAt d) item_takes (item_by expr stmt)
  unfolding item_by
  item_exact =
      exact_as Anything IsItemPart item_takes _
      (choose_on begins_declaration
      (make_closed OneItem.Declare item_takes (declaration_by_exact d expr each))
      (make_on OneItem.Execute item_takes inner (λ a k h. h))
      (λ b i from to w. declaration_begins w.0 from to w.2.0)
      (λ b i from to w h. begins_stops begins_statement begins_declaration statement_no_declaration from (statement_begins w.0 from to w.2.0)))
      (IsItemAt d) item_into item_back

  pub items_by_exact : Exact Anything (AreItemsAt d) (always goes_on_in_block) (items_by expr stmt)
  unfolding items_by
  items_by_exact =
      exact_as Anything (Rows (IsItemAt d)) (always goes_on_in_block) _
      (many_exact begins_item (IsItemAt d) item_takes (item_by expr stmt) item_exact (item_begins d) item_apart (is_keyword word.Else) item_within)
      (AreItemsAt d) (rows_into d) (rows_back d)

  abbrev pub IsBlockPart : Bool → Statement → Tokens → Tokens → Type 0
  IsBlockPart = Then (Whole (SignAt sign_of.LeftBrace)) (λ at. Then (AreItemsAt d) (λ is. EndsWith sign_of.RightBrace (Block at (items_of is))))

  pub block_exact : Exact Anything IsBlockPart ends (block_by expr stmt)
  unfolding block_by
  block_exact =
      read_closed (sign_exact sign_of.LeftBrace) (λ at.
      read_on items_by_exact (λ is. end_with sign_of.RightBrace (Block at (items_of is)) ends) (λ b is s mid to w h. rw w.1.1.1 refl))

  pub block_into : (b : Bool) (s : Statement) (from to : Tokens) → IsBlockPart b s from to → IsStatementAt (suc d) b s from to
  block_into b s from to (at, a, h, (is, c, hi, w)) =
      subst (λ (y : Statement). IsStatementAt (suc d) b y from to) (sym w.0) ((a, c, h, hi.0, w.1), within_up b d _ hi.1)

  pub block_back : (b : Bool) (at : ℕ) (items : BlockItems) (from to : Tokens)
      → IsStatementAt (suc d) b (Block at items) from to → IsBlockPart b (Block at items) from to
  block_back b at items from to w =
      let within : AreItems items w.0.0 w.0.1 × Within b d (items_nesting items) = (w.0.3, within_down b d _ w.1) in
      (at, w.0.0, w.0.2, (list_of items, w.0.1, listed d b items w.0.0 w.0.1 within, (ap (Block at) (sym (list_same items)), w.0.4)))

  pub block_closed : (b : Bool) (s : Statement) (from to : Tokens) → IsBlockPart b s from to → ends_open s ≡ false
  block_closed b s from to (at, a, h, (is, c, hi, w)) = rw w.0 refl
