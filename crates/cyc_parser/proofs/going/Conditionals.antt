-- What the readers of `if` and `while` answer: the tree, or the place of its first token that is too deep.
use Rattle.std.proofs.Common.{◌≡◌, ℕ, suc, ◌+◌, false, List, ◌∷◌, ◌++◌, Option, Ok, refl, sym, ap, ◌∙◌}
use Rattle.cyc_lexer.specs.declared.token.Keyword.TheVariants as word
use Rattle.cyc_tree.specs.Tree.{Expression, Statement, If, IfElse, While}
use Rattle.cyc_tree.specs.Depths.{Start, start, expression_starts, statement_starts, first_deeper}
use Rattle.source_grammar.specs.Phrases.{Tokens, IsKeyword}
use Rattle.source_grammar.specs.ExpressionGrammar.{IsExpression}
use Rattle.source_grammar.specs.StatementGrammar.{IsStatement}
use Rattle.cyc_parser.specs.Tests.{is_keyword, continues}
use Rattle.cyc_parser.specs.Reader.{done, read, keyword, next_is}
use Rattle.cyc_parser.specs.ReadExpressions.{Reads, parenthesized_by, expression_at}
use Rattle.cyc_parser.specs.ReadStatements.{otherwise_by, conditional_by, repeated_by, statement_at}
use Rattle.cyc_parser.specs.Exact.{Stops}
use Rattle.cyc_parser.proofs.exactness.Conditionals.{else_stops, shut_stops}
use Rattle.cyc_parser.proofs.StatementsWithin.{takes_else}
use Rattle.cyc_parser.proofs.Goes.{Goes, or_else, else_else, deeper_both, own_start, goes_as, goes_then, goes_before, goes_first}
use Rattle.cyc_parser.proofs.going.Tokens.{keyword_goes}
use Rattle.cyc_parser.proofs.going.Arguments.{parenthesized_goes}

module _ (limit n m : ℕ) (same : n + suc m ≡ limit)
    (inner_goes : (e : Expression) (from to : Tokens) → IsExpression e from to → Stops (continues 0) to
    → Goes (expression_at m from) e to (first_deeper limit (expression_starts (n + 1) e)))
    (statement_goes : (s : Statement) (from to : Tokens) → IsStatement s from to → Stops (takes_else s) to
    → Goes (statement_at m from) s to (first_deeper limit (statement_starts (n + 1) s))) where
  -- ---- what stands in the statement

  -- the first place in a condition, and in a statement
  abbrev in_condition : Expression → Option ℕ
  in_condition e = first_deeper limit (expression_starts (n + 1) e)

  abbrev in_statement : Statement → Option ℕ
  in_statement s = first_deeper limit (statement_starts (n + 1) s)

  -- ---- `if`

  -- what reads from the condition on, and from the statement on
  abbrev condition_by : ℕ → Reads Statement
  condition_by at =
      read (parenthesized_by (expression_at m)) (λ condition. read (statement_at m) (λ body. otherwise_by (statement_at m) at condition body))

  abbrev body_by : ℕ → Expression → Reads Statement
  body_by at condition = read (statement_at m) (λ body. otherwise_by (statement_at m) at condition body)

  -- where no `else` stands, none is read
  otherwise_none : (at : ℕ) (condition : Expression) (body : Statement) (ts : Tokens) → next_is (is_keyword word.Else) ts ≡ false
      → otherwise_by (statement_at m) at condition body ts ≡ Ok (If at condition body, ts)
  unfolding otherwise_by
  otherwise_none at condition body ts h = rw h refl

  pub conditional_goes : (at : ℕ) (condition : Expression) (body : Statement) (from to : Tokens) → IsStatement (If at condition body) from to
      → Stops (takes_else (If at condition body)) to
      → Goes (conditional_by (expression_at m) (statement_at m) from) (If at condition body) to
      (first_deeper limit (statement_starts n (If at condition body)))
  unfolding conditional_by
  conditional_goes at condition body from to w stops =
      let s : Statement = If at condition body in
      let inside : List Start = expression_starts (n + 1) condition ++ statement_starts (n + 1) body in
      goes_as (conditional_by (expression_at m) (statement_at m) from) s to (or_else (in_condition condition) (in_statement body))
      (first_deeper limit (start at (n + 1) ∷ inside))
      (sym (own_start limit n m same at inside ∙ deeper_both limit (expression_starts (n + 1) condition) (statement_starts (n + 1) body)))
      (keyword_goes word.If condition_by at from w.0 to s (or_else (in_condition condition) (in_statement body)) w.2
      (goes_then (parenthesized_by (expression_at m)) (body_by at) w.0 condition w.1 s to (in_condition condition) (in_statement body)
      (parenthesized_goes limit n m same inner_goes condition w.0 w.1 w.3)
      (goes_before (statement_at m) (otherwise_by (statement_at m) at condition) w.1 body to s to (in_statement body)
      (statement_goes body w.1 to w.4 (else_stops body to stops))
      (otherwise_none at condition body to stops))))

  -- an `else` and its statement
  abbrev else_by : ℕ → Expression → Statement → Reads Statement
  else_by at condition body = read (keyword word.Else) (λ _. read (statement_at m) (λ otherwise. done (IfElse at condition body otherwise)))

  otherwise_goes : (at : ℕ) (condition : Expression) (body otherwise : Statement) (from mid to : Tokens) → IsKeyword word.Else from mid
      → IsStatement otherwise mid to → Stops (takes_else otherwise) to
      → Goes (otherwise_by (statement_at m) at condition body from) (IfElse at condition body otherwise) to (in_statement otherwise)
  unfolding otherwise_by
  otherwise_goes at condition body otherwise from mid to word_is is stops =
      let s : Statement = IfElse at condition body otherwise in
      goes_first (is_keyword word.Else) (else_by at condition body) (done (If at condition body)) from s to (in_statement otherwise)
      (rw word_is.1.1 refl)
      (keyword_goes word.Else (λ _. read (statement_at m) (λ x. done (IfElse at condition body x))) word_is.0 from mid to s
      (in_statement otherwise) word_is.1
      (goes_before (statement_at m) (λ x. done (IfElse at condition body x)) mid otherwise to s to (in_statement otherwise)
      (statement_goes otherwise mid to is stops)
      refl))

  pub conditional_else_goes : (at : ℕ) (condition : Expression) (body otherwise : Statement) (from to : Tokens)
      → IsStatement (IfElse at condition body otherwise) from to → Stops (takes_else (IfElse at condition body otherwise)) to
      → Goes (conditional_by (expression_at m) (statement_at m) from) (IfElse at condition body otherwise) to
      (first_deeper limit (statement_starts n (IfElse at condition body otherwise)))
  unfolding conditional_by
  conditional_else_goes at condition body otherwise from to w stops =
      let s : Statement = IfElse at condition body otherwise in
      let front : List Start = expression_starts (n + 1) condition ++ statement_starts (n + 1) body in
      let behind : List Start = statement_starts (n + 1) otherwise in
      let in_both : Option ℕ = or_else (in_statement body) (in_statement otherwise) in
      let front_same : first_deeper limit front ≡ or_else (in_condition condition) (in_statement body) =
      deeper_both limit (expression_starts (n + 1) condition) (statement_starts (n + 1) body) in
      goes_as (conditional_by (expression_at m) (statement_at m) from) s to (or_else (in_condition condition) in_both)
      (first_deeper limit (start at (n + 1) ∷ (front ++ behind)))
      (sym (own_start limit n m same at (front ++ behind) ∙ deeper_both limit front behind
      ∙ ap (λ (x : Option ℕ). or_else x (in_statement otherwise)) front_same
      ∙ else_else (in_condition condition) (in_statement body) (in_statement otherwise)))
      (keyword_goes word.If condition_by at from w.0 to s (or_else (in_condition condition) in_both) w.4
      (goes_then (parenthesized_by (expression_at m)) (body_by at) w.0 condition w.1 s to (in_condition condition) in_both
      (parenthesized_goes limit n m same inner_goes condition w.0 w.1 w.5)
      (goes_then (statement_at m) (otherwise_by (statement_at m) at condition) w.1 body w.2 s to (in_statement body) (in_statement otherwise)
      (statement_goes body w.1 w.2 w.6 (shut_stops body w.7 w.2))
      (otherwise_goes at condition body otherwise w.2 w.3 to w.8 w.9 stops))))

  -- ---- `while`

  -- what reads from the condition on, and from the statement on
  abbrev loop_by : ℕ → Reads Statement
  loop_by at = read (parenthesized_by (expression_at m)) (λ condition. read (statement_at m) (λ body. done (While at condition body)))

  abbrev turn_by : ℕ → Expression → Reads Statement
  turn_by at condition = read (statement_at m) (λ body. done (While at condition body))

  pub repeated_goes : (at : ℕ) (condition : Expression) (body : Statement) (from to : Tokens) → IsStatement (While at condition body) from to
      → Stops (takes_else (While at condition body)) to
      → Goes (repeated_by (expression_at m) (statement_at m) from) (While at condition body) to
      (first_deeper limit (statement_starts n (While at condition body)))
  unfolding repeated_by
  repeated_goes at condition body from to w stops =
      let s : Statement = While at condition body in
      let inside : List Start = expression_starts (n + 1) condition ++ statement_starts (n + 1) body in
      goes_as (repeated_by (expression_at m) (statement_at m) from) s to (or_else (in_condition condition) (in_statement body))
      (first_deeper limit (start at (n + 1) ∷ inside))
      (sym (own_start limit n m same at inside ∙ deeper_both limit (expression_starts (n + 1) condition) (statement_starts (n + 1) body)))
      (keyword_goes word.While loop_by at from w.0 to s (or_else (in_condition condition) (in_statement body)) w.2
      (goes_then (parenthesized_by (expression_at m)) (turn_by at) w.0 condition w.1 s to (in_condition condition) (in_statement body)
      (parenthesized_goes limit n m same inner_goes condition w.0 w.1 w.3)
      (goes_before (statement_at m) (λ x. done (While at condition x)) w.1 body to s to (in_statement body)
      (statement_goes body w.1 to w.4 stops)
      refl)))
