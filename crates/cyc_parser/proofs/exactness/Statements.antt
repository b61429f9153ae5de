-- The readers of declarations and statements are exact.
use Rattle.std.proofs.Common.{◌≡◌, ◌⊎◌, ℕ, zero, suc, max, Bool, true, [], ◌++◌, Some, None, Ok, refl, sym, ◌∙◌, inl, inr, arith}
use Rattle.std.proofs.lemmas.Bool.{cases_Bool}
use Rattle.cyc_lexer.specs.declared.token.Keyword.TheVariants as word
use Rattle.cyc_lexer.specs.declared.token.Sign.TheVariants as sign_of
use Rattle.cyc_lexer.specs.declared.token.TokenKind.{TokenKind}
use Rattle.cyc_tree.specs.Tree.{Expression, Statement, Empty, Block, Run, Exchange, If, IfElse, While, Switch, Break, Continue, Return, FreeUnique, FreeKey}
use Rattle.cyc_tree.proofs.PartNesting.{expression_nesting}
use Rattle.source_grammar.specs.Phrases.{Tokens}
use Rattle.source_grammar.specs.StatementGrammar.{IsStatement}
use Rattle.cyc_parser.specs.Tests.{is_sign, is_keyword, begins_statement, continues}
use Rattle.cyc_parser.specs.Reader.{Outcome, choose, next_is}
use Rattle.cyc_parser.specs.ReadExpressions.{Reads, parenthesized_by, expression_at}
use Rattle.cyc_parser.specs.ReadStatements.{declaration_by, items_by, block_by, conditional_by, repeated_by, switch_by, simple_by, compound_by, statement_at}
use Rattle.cyc_parser.specs.Exact.{Found, PhraseFrom, Exact, Stops, Anything, ends, always, Within, Either}
use Rattle.cyc_parser.proofs.Exact.{exact_as, exact_wider, refuse_exact}
use Rattle.cyc_parser.proofs.exactness.Choice.{choose_first, choose_second}
use Rattle.cyc_parser.proofs.exactness.Expressions.{IsExpressionAt, IsParenthesizedAt, expression_exact, parenthesized_exact}
pub use Rattle.cyc_parser.proofs.StatementsWithin.{IsDeclarationAt, IsStatementAt, AreItemsAt, takes_else, goes_on_in_block}
use Rattle.cyc_parser.proofs.StatementsWithin.{within_down, within_left, within_right}
use Rattle.cyc_parser.proofs.exactness.Unguarded.{choose_on}
use Rattle.cyc_parser.proofs.exactness.Declarations.{declaration_by_exact}
use Rattle.cyc_parser.proofs.StatementKinds.{Leads, leads_less, leads_past, past_block, past_if, past_while, past_switch, statement_begins}
use Rattle.cyc_parser.proofs.exactness.Simple.{IsSimplePart, simple_leads, simple_exact, simple_into, simple_closed}
use Rattle.cyc_parser.proofs.exactness.Blocks.{IsBlockPart, items_by_exact, block_exact, block_into, block_back, block_closed}
use Rattle.cyc_parser.proofs.exactness.Clauses.{IsSwitchPart, switch_exact, switch_into, switch_back, switch_closed}
use Rattle.cyc_parser.proofs.exactness.Conditionals.{shut_stops, IsIfPart, if_exact, if_into, if_back, else_back, if_stops, IsWhilePart, while_exact}
use Rattle.cyc_parser.proofs.exactness.Conditionals.{while_into, while_back, while_stops}
use Rattle.cyc_parser.proofs.SomeStatements.{statement_from, some_statement, statement_nests}

pub declaration_exact : (d : ℕ) → Exact Anything (IsDeclarationAt d) ends (declaration_by (expression_at d))
declaration_exact d = declaration_by_exact d (expression_at d) (expression_exact d)

-- what a choice reads is what one of the two reads
chosen : {A : Type 0} (test : TokenKind → Bool) (p q : Tokens → Outcome A) (ts : Tokens) (y : Outcome A) → choose test p q ts ≡ y
    → (p ts ≡ y) ⊎ (q ts ≡ y)
chosen test p q ts y e = elim (cases_Bool (next_is test ts)) [
  | inl h ↦ inl (sym (choose_first test p q ts h) ∙ e)
  | inr h ↦ inr (sym (choose_second test p q ts h) ∙ e)
]

module _ (d : ℕ) (expr : Reads Expression) (each : Exact Anything (IsExpressionAt d) (always (continues 0)) expr)
    (inside : Exact Anything (IsParenthesizedAt d) ends (parenthesized_by expr))
    (stmt : Reads Statement) (inner : Exact Anything (IsStatementAt d) takes_else stmt)
    (closed : (ts : Tokens) (s : Statement) (rest : Tokens) → stmt ts ≡ Ok (s, rest) → Stops (takes_else s) rest) where
  abbrev IsBlock : Bool → Statement → Tokens → Tokens → Type 0
  IsBlock = IsBlockPart d expr each stmt inner

  abbrev IsIf : Bool → Statement → Tokens → Tokens → Type 0
  IsIf = IsIfPart d stmt inner expr inside closed

  abbrev IsWhile : Bool → Statement → Tokens → Tokens → Type 0
  IsWhile = IsWhilePart d stmt inner expr inside closed

  abbrev IsSwitch : Bool → Statement → Tokens → Tokens → Type 0
  IsSwitch = IsSwitchPart d expr each stmt inner inside

  abbrev IsSimple : Bool → Statement → Tokens → Tokens → Type 0
  IsSimple = IsSimplePart d expr each

  -- those of a number or a greater one

  abbrev From3 : Bool → Statement → Tokens → Tokens → Type 0
  From3 = Either IsSwitch IsSimple

  abbrev From2 : Bool → Statement → Tokens → Tokens → Type 0
  From2 = Either IsWhile From3

  abbrev From1 : Bool → Statement → Tokens → Tokens → Type 0
  From1 = Either IsIf From2

  abbrev IsPart : Bool → Statement → Tokens → Tokens → Type 0
  IsPart = Either IsBlock From1

  leads4 : (b : Bool) (s : Statement) (from to : Tokens) → IsSimple b s from to → Leads 4 from
  leads4 b s from to w = simple_leads d expr each b s from to w

  leads3 : (b : Bool) (s : Statement) (from to : Tokens) → From3 b s from to → Leads 3 from
  leads3 b s from to (inl w) = (_, _, w.2.1, omega arith)
  leads3 b s from to (inr w) = leads_less 3 from (leads4 b s from to w)

  leads2 : (b : Bool) (s : Statement) (from to : Tokens) → From2 b s from to → Leads 2 from
  leads2 b s from to (inl w) = (_, _, w.2.1, omega arith)
  leads2 b s from to (inr w) = leads_less 2 from (leads3 b s from to w)

  leads1 : (b : Bool) (s : Statement) (from to : Tokens) → From1 b s from to → Leads 1 from
  leads1 b s from to (inl w) = (_, _, w.2.1, omega arith)
  leads1 b s from to (inr w) = leads_less 1 from (leads2 b s from to w)

  -- none of these ends with an `if`
  closed_block : Exact Anything IsBlock takes_else (block_by expr stmt)
  closed_block = exact_wider Anything IsBlock ends takes_else _ (block_exact d expr each stmt inner) (λ s k h. absurd cc)

  closed_switch : Exact Anything IsSwitch takes_else (switch_by expr stmt)
  closed_switch = exact_wider Anything IsSwitch ends takes_else _ (switch_exact d expr each stmt inner inside) (λ s k h. absurd cc)

  closed_simple : Exact Anything IsSimple takes_else (simple_by expr)
  closed_simple = exact_wider Anything IsSimple ends takes_else _ (simple_exact d expr each) (λ s k h. absurd cc)

  part_into : (b : Bool) (s : Statement) (from to : Tokens) → IsPart b s from to → IsStatementAt (suc d) b s from to
  part_into b s from to (inl w) = block_into d expr each stmt inner b s from to w
  part_into b s from to (inr (inl w)) = if_into d stmt inner expr inside closed b s from to w
  part_into b s from to (inr (inr (inl w))) = while_into d stmt inner expr inside closed b s from to w
  part_into b s from to (inr (inr (inr (inl w)))) = switch_into d expr each stmt inner inside b s from to w
  part_into b s from to (inr (inr (inr (inr w)))) = simple_into d expr each b s from to w

  abbrev simple : (b : Bool) (s : Statement) (from to : Tokens) → IsSimple b s from to → IsPart b s from to
  simple b s from to w = inr (inr (inr (inr w)))

  part_back : (b : Bool) (s : Statement) (from to : Tokens) → IsStatementAt (suc d) b s from to → IsPart b s from to
  part_back b (Empty at) from to w = simple b _ from to (inl (at, refl, w.0))
  part_back b (Block at items) from to w = inl (block_back d expr each stmt inner b at items from to w)
  part_back b (Run e) from to w =
      simple b _ from to (inr (inr (inr (inr (inr (inr (e, w.0.0, (w.0.1, within_down b d _ w.1), inr (refl, w.0.2))))))))
  part_back b (Exchange left right) from to w =
      let nests : Within b d (max (expression_nesting left) (expression_nesting right)) = within_down b d _ w.1 in
      simple b _ from to (inr (inr (inr (inr (inr (inr (
        left,
        w.0.0,
        (w.0.3, within_left b d _ _ nests),
        inl (w.0.1, w.0.4, (right, w.0.2, (w.0.5, within_right b d _ _ nests), (refl, w.0.6))),
      )))))))
  part_back b (If at condition body) from to w = inr (inl (if_back d stmt inner expr inside closed b at condition body from to w))
  part_back b (IfElse at condition body otherwise) from to w =
      inr (inl (else_back d stmt inner expr inside closed b at condition body otherwise from to w))
  part_back b (While at condition body) from to w = inr (inr (inl (while_back d stmt inner expr inside closed b at condition body from to w)))
  part_back b (Switch at place clauses) from to w = inr (inr (inr (inl (switch_back d expr each stmt inner inside b at place clauses from to w))))
  part_back b (Break at) from to w = simple b _ from to (inr (inl (at, refl, w.0)))
  part_back b (Continue at) from to w = simple b _ from to (inr (inr (inl (at, refl, w.0))))
  part_back b (Return at None) from to w = simple b _ from to (inr (inr (inr (inl (at, w.0.0, w.0.1, inl (refl, w.0.2))))))
  part_back b (Return at (Some e)) from to w =
      simple b _ from to (inr (inr (inr (inl (at, w.0.0, w.0.1, inr (e, w.0.2.0, (w.0.2.1, within_down b d _ w.1), (refl, w.0.2.2)))))))
  part_back b (FreeUnique at pointer) from to w = simple b _ from to (inr (inr (inr (inr (inl ((at, pointer), refl, w.0))))))
  part_back b (FreeKey at key) from to w = simple b _ from to (inr (inr (inr (inr (inr (inl ((at, key), refl, w.0)))))))

  compound_exact : Exact Anything (IsStatementAt (suc d)) takes_else (compound_by expr stmt)
  unfolding compound_by
  compound_exact =
      exact_as Anything IsPart takes_else _
      (choose_on (is_sign sign_of.LeftBrace) closed_block
      (choose_on (is_keyword word.If) (if_exact d stmt inner expr inside closed)
      (choose_on (is_keyword word.While) (while_exact d stmt inner expr inside closed)
      (choose_on (is_keyword word.Switch) closed_switch closed_simple
      (λ b s from to w. rw w.2.1 refl)
      (λ b s from to w h. leads_past (is_keyword word.Switch) 4 past_switch from (leads4 b s from to w)))
      (λ b s from to w. rw w.2.1 refl)
      (λ b s from to w h. leads_past (is_keyword word.While) 3 past_while from (leads3 b s from to w)))
      (λ b s from to w. rw w.2.1 refl)
      (λ b s from to w h. leads_past (is_keyword word.If) 2 past_if from (leads2 b s from to w)))
      (λ b s from to w. rw w.2.1 refl)
      (λ b s from to w h. leads_past (is_sign sign_of.LeftBrace) 1 past_block from (leads1 b s from to w)))
      (IsStatementAt (suc d)) part_into part_back

  -- ---- what was read stops before no `else` that its tree would take

  block_stops : (ts : Tokens) (s : Statement) (rest : Tokens) → block_by expr stmt ts ≡ Ok (s, rest) → Stops (takes_else s) rest
  block_stops ts s rest e =
      let found : Found (IsBlock true) (block_by expr stmt) ts s rest = (block_exact d expr each stmt inner).sound ts s rest tt e in
      shut_stops s (block_closed d expr each stmt inner true s (found.taken ++ []) [] (found.is [])) rest

  switch_stops : (ts : Tokens) (s : Statement) (rest : Tokens) → switch_by expr stmt ts ≡ Ok (s, rest) → Stops (takes_else s) rest
  switch_stops ts s rest e =
      let found : Found (IsSwitch true) (switch_by expr stmt) ts s rest = (switch_exact d expr each stmt inner inside).sound ts s rest tt e in
      shut_stops s (switch_closed d expr each stmt inner inside true s (found.taken ++ []) [] (found.is [])) rest

  simple_stops : (ts : Tokens) (s : Statement) (rest : Tokens) → simple_by expr ts ≡ Ok (s, rest) → Stops (takes_else s) rest
  simple_stops ts s rest e =
      let found : Found (IsSimple true) (simple_by expr) ts s rest = (simple_exact d expr each).sound ts s rest tt e in
      shut_stops s (simple_closed d expr each true s (found.taken ++ []) [] (found.is [])) rest

  -- what reads those

  abbrev from3 : Reads Statement
  from3 = choose (is_keyword word.Switch) (switch_by expr stmt) (simple_by expr)

  abbrev from2 : Reads Statement
  from2 = choose (is_keyword word.While) (repeated_by expr stmt) from3

  abbrev from1 : Reads Statement
  from1 = choose (is_keyword word.If) (conditional_by expr stmt) from2

  compound_stops : (ts : Tokens) (s : Statement) (rest : Tokens) → compound_by expr stmt ts ≡ Ok (s, rest) → Stops (takes_else s) rest
  unfolding compound_by
  compound_stops ts s rest e =
      elim (chosen (is_sign sign_of.LeftBrace) (block_by expr stmt) from1 ts (Ok (s, rest)) e) [
        | inl h ↦ block_stops ts s rest h
        | inr e1 ↦ elim (chosen (is_keyword word.If) (conditional_by expr stmt) from2 ts (Ok (s, rest)) e1) [
          | inl h ↦ if_stops d stmt inner expr inside closed ts s rest h
          | inr e2 ↦ elim (chosen (is_keyword word.While) (repeated_by expr stmt) from3 ts (Ok (s, rest)) e2) [
            | inl h ↦ while_stops d stmt inner expr inside closed ts s rest h
            | inr e3 ↦ elim (chosen (is_keyword word.Switch) (switch_by expr stmt) (simple_by expr) ts (Ok (s, rest)) e3) [
              | inl h ↦ switch_stops ts s rest h
              | inr h ↦ simple_stops ts s rest h
            ]
          ]
        ]
      ]

-- at each nesting
levels : (d : ℕ) → Exact Anything (IsStatementAt d) takes_else (statement_at d)
    × ((ts : Tokens) (s : Statement) (rest : Tokens) → statement_at d ts ≡ Ok (s, rest) → Stops (takes_else s) rest)
unfolding statement_at
levels zero = (
  refuse_exact begins_statement (IsStatementAt 0) takes_else (λ s from to w. statement_nests s w.1) (λ s from to w. statement_begins s from to w.0)
      (λ t h.
      let p : PhraseFrom IsStatement t = statement_from t h in
      record { tree = p.tree; tokens = p.tokens; made_up = p.made_up; is = λ more. (p.is more, tt) })
      (record {
        tree = some_statement.tree;
        tokens = some_statement.tokens;
        made_up = some_statement.made_up;
        is = λ more. (some_statement.is more, tt);
      }),
  λ ts s rest e. absurd cc,
)
levels (suc d) = (
  compound_exact d (expression_at d) (expression_exact d) (parenthesized_exact d) (statement_at d) (levels d).0 (levels d).1,
  compound_stops d (expression_at d) (expression_exact d) (parenthesized_exact d) (statement_at d) (levels d).0 (levels d).1,
)

pub statement_exact : (d : ℕ) → Exact Anything (IsStatementAt d) takes_else (statement_at d)
statement_exact d = (levels d).0

pub items_exact : (d : ℕ) → Exact Anything (AreItemsAt d) (always goes_on_in_block) (items_by (expression_at d) (statement_at d))
items_exact d = items_by_exact d (expression_at d) (expression_exact d) (statement_at d) (statement_exact d)
