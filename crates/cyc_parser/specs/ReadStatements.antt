-- View of code: readers of declarations and statements. What reads a statement in another one is an argument, since it goes one phrase deeper.
use Rattle.std.specs.Prelude.{ℕ, zero, suc, List, ◌∷◌, Some, None}
use Rattle.cyc_lexer.specs.declared.token.Keyword.{Keyword}
use Rattle.cyc_lexer.specs.declared.token.Keyword.TheVariants as word
use Rattle.cyc_lexer.specs.declared.token.Sign.TheVariants as sign_of
use Rattle.cyc_tree.specs.Tree as tree
use Rattle.cyc_tree.specs.Tree.{Name, Declaration, Local, Open, Alias, NewKey, Pattern, Case, Default, Statement, Empty, Block, Run, Exchange, If, IfElse}
use Rattle.cyc_tree.specs.Tree.{While, Switch, Break, Continue, Return, FreeUnique, FreeKey}
use Rattle.cyc_tree.specs.View.{OneItem, OneClause, items_of, clauses_of}
use Rattle.cyc_parser.specs.Tests.{is_sign, is_keyword, begins_declaration, begins_item, begins_statement, begins_clause}
use Rattle.cyc_parser.specs.Reader.{done, read, choose, refuse, placed, many, sign, keyword}
use Rattle.cyc_parser.specs.ReadTypes.{name, one_region, type_name, element_count}
use Rattle.cyc_parser.specs.ReadExpressions.{Reads, parenthesized_by, expression_at}

-- ---- declarations

unfoldable pub initializer_by : Reads tree.Expression → Reads tree.Initializer
initializer_by expr =
    choose (is_sign sign_of.Assign) (read (sign sign_of.Assign) (λ _. read expr (λ e. done (tree.Value e))))
    (choose (is_sign sign_of.LeftBracket) (read element_count (λ n. done (tree.Initializer.Elements n))) (done tree.Initializer.Unset))

unfoldable pub local_by : Reads tree.Expression → Reads Declaration
local_by expr = read type_name (λ t. read name (λ n. read (initializer_by expr) (λ i. read (sign sign_of.Semicolon) (λ _. done (Local t n i)))))

unfoldable pub parenthesized_name : Reads Name
parenthesized_name = read (sign sign_of.LeftParenthesis) (λ _. read name (λ n. read (sign sign_of.RightParenthesis) (λ _. done n)))

unfoldable pub region_declaration : Reads Declaration
region_declaration =
    read (keyword word.Region) (λ at. read one_region (λ r. read name (λ handle.
    choose (is_sign sign_of.Assign)
    (read (sign sign_of.Assign) (λ _. read (keyword word.Open) (λ _. read parenthesized_name (λ key.
    read (sign sign_of.Semicolon) (λ _. done (Open at r handle key))))))
    (read (sign sign_of.Semicolon) (λ _. done (tree.Region at r handle))))))

-- behind the word that it begins with, which stands there
abbrev pub region_behind : ℕ → Reads Declaration
region_behind at =
    read one_region (λ r. read name (λ handle.
    choose (is_sign sign_of.Assign)
    (read (sign sign_of.Assign) (λ _. read (keyword word.Open) (λ _. read parenthesized_name (λ key.
    read (sign sign_of.Semicolon) (λ _. done (Open at r handle key))))))
    (read (sign sign_of.Semicolon) (λ _. done (tree.Region at r handle)))))

unfoldable pub alias_at : ℕ → Reads Declaration
alias_at at =
    read (keyword word.Alias) (λ _. read one_region (λ r. read type_name (λ t. read name (λ alias. read (sign sign_of.Assign) (λ _. read name (λ pointer.
    read (sign sign_of.Semicolon) (λ _. done (Alias at r t alias pointer))))))))

abbrev pub alias_behind : ℕ → Reads Declaration
alias_behind at =
    read one_region (λ r. read type_name (λ t. read name (λ alias. read (sign sign_of.Assign) (λ _. read name (λ pointer.
    read (sign sign_of.Semicolon) (λ _. done (Alias at r t alias pointer)))))))

unfoldable pub new_key_at : ℕ → Reads Declaration
new_key_at at =
    read (keyword word.NewDynamicRegion) (λ _. read (sign sign_of.LeftBrace) (λ _. read one_region (λ r. read name (λ key.
    read (sign sign_of.RightBrace) (λ _. read (sign sign_of.Assign) (λ _. read (keyword word.NewUkey) (λ _. read (sign sign_of.LeftParenthesis) (λ _.
    read (sign sign_of.RightParenthesis) (λ _. read (sign sign_of.Semicolon) (λ _. done (NewKey at r key)))))))))))

unfoldable pub binding : Reads Declaration
binding = read (keyword word.Let) (λ at. choose (is_keyword word.Alias) (alias_at at) (new_key_at at))

abbrev pub binding_behind : ℕ → Reads Declaration
binding_behind at = choose (is_keyword word.Alias) (alias_at at) (new_key_at at)

unfoldable pub declaration_by : Reads tree.Expression → Reads Declaration
declaration_by expr = choose (is_keyword word.Region) region_declaration (choose (is_keyword word.Let) binding (local_by expr))

-- ---- statements that hold no other

-- a word and a semicolon
unfoldable pub word_read : Keyword → Reads ℕ
word_read w = read (keyword w) (λ at. read (sign sign_of.Semicolon) (λ _. done at))

-- a word, a name in parentheses and a semicolon
unfoldable pub freed : Keyword → Reads (ℕ × Name)
freed w = read (keyword w) (λ at. read parenthesized_name (λ n. read (sign sign_of.Semicolon) (λ _. done (at, n))))

unfoldable pub returned_by : Reads tree.Expression → Reads Statement
returned_by expr =
    read (keyword word.Return) (λ at.
    choose (is_sign sign_of.Semicolon) (read (sign sign_of.Semicolon) (λ _. done (Return at None)))
    (read expr (λ e. read (sign sign_of.Semicolon) (λ _. done (Return at (Some e))))))

abbrev pub returned_behind : Reads tree.Expression → ℕ → Reads Statement
returned_behind expr at =
    choose (is_sign sign_of.Semicolon) (read (sign sign_of.Semicolon) (λ _. done (Return at None)))
    (read expr (λ e. read (sign sign_of.Semicolon) (λ _. done (Return at (Some e)))))

unfoldable pub run_by : Reads tree.Expression → Reads Statement
run_by expr =
    read expr (λ first.
    choose (is_sign sign_of.Exchange)
    (read (sign sign_of.Exchange) (λ _. read expr (λ second. read (sign sign_of.Semicolon) (λ _. done (Exchange first second)))))
    (read (sign sign_of.Semicolon) (λ _. done (Run first))))

unfoldable pub simple_by : Reads tree.Expression → Reads Statement
simple_by expr =
    choose (is_sign sign_of.Semicolon) (read (sign sign_of.Semicolon) (λ at. done (Empty at)))
    (choose (is_keyword word.Break) (read (word_read word.Break) (λ at. done (Break at)))
    (choose (is_keyword word.Continue) (read (word_read word.Continue) (λ at. done (Continue at)))
    (choose (is_keyword word.Return) (returned_by expr)
    (choose (is_keyword word.Ufree) (read (freed word.Ufree) (λ x. done (FreeUnique x.0 x.1)))
    (choose (is_keyword word.FreeUkey) (read (freed word.FreeUkey) (λ x. done (FreeKey x.0 x.1))) (run_by expr))))))

-- ---- statements that hold others

unfoldable pub item_by : Reads tree.Expression → Reads Statement → Reads OneItem
item_by expr stmt =
    choose begins_declaration (read (declaration_by expr) (λ d. done (OneItem.Declare d))) (read stmt (λ s. done (OneItem.Execute s)))

unfoldable pub items_by : Reads tree.Expression → Reads Statement → Reads (List OneItem)
items_by expr stmt = many begins_item (item_by expr stmt)

unfoldable pub block_by : Reads tree.Expression → Reads Statement → Reads Statement
block_by expr stmt =
    read (sign sign_of.LeftBrace) (λ at. read (items_by expr stmt) (λ is. read (sign sign_of.RightBrace) (λ _. done (Block at (items_of is)))))

abbrev pub block_behind : Reads tree.Expression → Reads Statement → ℕ → Reads Statement
block_behind expr stmt at = read (items_by expr stmt) (λ is. read (sign sign_of.RightBrace) (λ _. done (Block at (items_of is))))

-- the `else` that may stand behind the statement of an `if`
unfoldable pub otherwise_by : Reads Statement → ℕ → tree.Expression → Statement → Reads Statement
otherwise_by stmt at condition body =
    choose (is_keyword word.Else) (read (keyword word.Else) (λ _. read stmt (λ otherwise. done (IfElse at condition body otherwise))))
    (done (If at condition body))

unfoldable pub conditional_by : Reads tree.Expression → Reads Statement → Reads Statement
conditional_by expr stmt =
    read (keyword word.If) (λ at. read (parenthesized_by expr) (λ condition. read stmt (λ body. otherwise_by stmt at condition body)))

abbrev pub conditional_behind : Reads tree.Expression → Reads Statement → ℕ → Reads Statement
conditional_behind expr stmt at = read (parenthesized_by expr) (λ condition. read stmt (λ body. otherwise_by stmt at condition body))

unfoldable pub repeated_by : Reads tree.Expression → Reads Statement → Reads Statement
repeated_by expr stmt =
    read (keyword word.While) (λ at. read (parenthesized_by expr) (λ condition. read stmt (λ body. done (While at condition body))))

abbrev pub repeated_behind : Reads tree.Expression → Reads Statement → ℕ → Reads Statement
repeated_behind expr stmt at = read (parenthesized_by expr) (λ condition. read stmt (λ body. done (While at condition body)))

unfoldable pub pattern : Reads Pattern
pattern =
    choose (is_keyword word.Default) (read (keyword word.Default) (λ _. done Default))
    (read (keyword word.Case) (λ _. read (sign sign_of.LeftBrace) (λ _. read (sign sign_of.Dot) (λ _. read name (λ member. read (sign sign_of.Assign) (λ _.
    read name (λ n. read (sign sign_of.RightBrace) (λ _. done (Case member n)))))))))

unfoldable pub clause_by : Reads tree.Expression → Reads Statement → Reads OneClause
clause_by expr stmt =
    read (placed pattern) (λ p. read (sign sign_of.Colon)
    (λ _. read (items_by expr stmt) (λ is. done (record { at = p.0; pattern = p.1; body = items_of is }))))

unfoldable pub clauses_by : Reads tree.Expression → Reads Statement → Reads (List OneClause)
clauses_by expr stmt = read (clause_by expr stmt) (λ c. read (many begins_clause (clause_by expr stmt)) (λ cs. done (c ∷ cs)))

unfoldable pub switch_by : Reads tree.Expression → Reads Statement → Reads Statement
switch_by expr stmt =
    read (keyword word.Switch) (λ at. read (parenthesized_by expr) (λ place. read (sign sign_of.LeftBrace) (λ _. read (clauses_by expr stmt) (λ cs.
    read (sign sign_of.RightBrace) (λ _. done (Switch at place (clauses_of cs)))))))

abbrev pub switch_behind : Reads tree.Expression → Reads Statement → ℕ → Reads Statement
switch_behind expr stmt at =
    read (parenthesized_by expr) (λ place. read (sign sign_of.LeftBrace) (λ _. read (clauses_by expr stmt) (λ cs.
    read (sign sign_of.RightBrace) (λ _. done (Switch at place (clauses_of cs))))))

unfoldable pub compound_by : Reads tree.Expression → Reads Statement → Reads Statement
compound_by expr stmt =
    choose (is_sign sign_of.LeftBrace) (block_by expr stmt)
    (choose (is_keyword word.If) (conditional_by expr stmt)
    (choose (is_keyword word.While) (repeated_by expr stmt)
    (choose (is_keyword word.Switch) (switch_by expr stmt) (simple_by expr))))

-- n is how many phrases may nest from here on
unfoldable pub statement_at : ℕ → Reads Statement
statement_at zero = refuse begins_statement
statement_at (suc n) = compound_by (expression_at n) (statement_at n)
