-- What the readers of statements answer: the tree, or the place of its first token that is too deep.
use Rattle.std.proofs.Common.{◌≡◌, ℕ, zero, suc, ◌+◌, true, Option, Some, None, Err, refl, sym, ap, ◌∙◌, arith}
use Rattle.cyc_lexer.specs.declared.token.Keyword.TheVariants as word
use Rattle.cyc_lexer.specs.declared.token.Sign.TheVariants as sign_of
use Rattle.cyc_tree.specs.Tree.{Expression, Statement, Empty, Block, Run, Exchange, If, IfElse, While, Switch, Break, Continue, Return}
use Rattle.cyc_tree.specs.Tree.{FreeUnique, FreeKey, NoClauses, MoreClauses}
use Rattle.cyc_tree.specs.Places.{statement_place}
use Rattle.cyc_tree.specs.Depths.{expression_starts, statement_starts, first_deeper}
use Rattle.cyc_parser.specs.declared.fault.ParseFault.TheVariants.{TooDeep}
use Rattle.source_grammar.specs.Phrases.{Tokens, KeywordAt}
use Rattle.source_grammar.specs.ExpressionGrammar.{IsExpression}
use Rattle.source_grammar.specs.StatementGrammar.{IsStatement}
use Rattle.cyc_parser.specs.Tests.{is_sign, is_keyword, begins_statement, continues}
use Rattle.cyc_parser.specs.Reader.{choose, refuse}
use Rattle.cyc_parser.specs.ReadExpressions.{Reads, expression_at}
use Rattle.cyc_parser.specs.ReadStatements.{block_by, conditional_by, repeated_by, switch_by, simple_by, compound_by, statement_at}
use Rattle.cyc_parser.specs.Exact.{Stops}
use Rattle.cyc_parser.proofs.exactness.Choice.{choose_second}
use Rattle.cyc_parser.proofs.StatementsWithin.{takes_else}
use Rattle.cyc_parser.proofs.StatementKinds.{Leads, leads_less, leads_past, past_block, past_if, past_while, past_switch, statement_begins}
use Rattle.cyc_parser.proofs.Goes.{Goes, deeper_here, goes_as, goes_same, goes_first, goes_second}
use Rattle.cyc_parser.proofs.going.Expressions.{expression_goes}
use Rattle.cyc_parser.proofs.going.Simple.{is_simple, simple_first, simple_goes}
use Rattle.cyc_parser.proofs.going.Blocks.{block_goes}
use Rattle.cyc_parser.proofs.going.Conditionals.{conditional_goes, conditional_else_goes, repeated_goes}
use Rattle.cyc_parser.proofs.going.Clauses.{switch_goes}
use Rattle.cyc_parser.proofs.going.StatementPlaces.{statement_first, place_of_statement}

-- ---- where another phrase may nest

module _ (limit n m : ℕ) (same : n + suc m ≡ limit)
    (inner_goes : (e : Expression) (from to : Tokens) → IsExpression e from to → Stops (continues 0) to
    → Goes (expression_at m from) e to (first_deeper limit (expression_starts (n + 1) e)))
    (nested_goes : (s : Statement) (from to : Tokens) → IsStatement s from to → Stops (takes_else s) to
    → Goes (statement_at m from) s to (first_deeper limit (statement_starts (n + 1) s))) where
  -- the first place in a statement that is too deep
  abbrev deep : Statement → Option ℕ
  deep s = first_deeper limit (statement_starts n s)

  -- the readers of the kinds of statements
  abbrev blocks : Reads Statement
  blocks = block_by (expression_at m) (statement_at m)

  abbrev conditionals : Reads Statement
  conditionals = conditional_by (expression_at m) (statement_at m)

  abbrev loops : Reads Statement
  loops = repeated_by (expression_at m) (statement_at m)

  abbrev switches : Reads Statement
  switches = switch_by (expression_at m) (statement_at m)

  abbrev simples : Reads Statement
  simples = simple_by (expression_at m)

  -- what reads the kinds of a number or a greater one
  abbrev from3 : Reads Statement
  from3 = choose (is_keyword word.Switch) switches simples

  abbrev from2 : Reads Statement
  from2 = choose (is_keyword word.While) loops from3

  abbrev from1 : Reads Statement
  from1 = choose (is_keyword word.If) conditionals from2

  -- a first token that begins none of the other kinds leads to the last reader
  simple_chosen : (from : Tokens) → Leads 4 from → compound_by (expression_at m) (statement_at m) from ≡ simples from
  unfolding compound_by
  simple_chosen from h =
      let h3 : Leads 3 from = leads_less 3 from h in
      let h2 : Leads 2 from = leads_less 2 from h3 in
      let h1 : Leads 1 from = leads_less 1 from h2 in
      choose_second (is_sign sign_of.LeftBrace) blocks from1 from (leads_past (is_sign sign_of.LeftBrace) 1 past_block from h1)
      ∙ choose_second (is_keyword word.If) conditionals from2 from (leads_past (is_keyword word.If) 2 past_if from h2)
      ∙ choose_second (is_keyword word.While) loops from3 from (leads_past (is_keyword word.While) 3 past_while from h3)
      ∙ choose_second (is_keyword word.Switch) switches simples from (leads_past (is_keyword word.Switch) 4 past_switch from h)

  simple : (s : Statement) (from to : Tokens) → is_simple s ≡ true → IsStatement s from to
      → Goes (compound_by (expression_at m) (statement_at m) from) s to (deep s)
  simple s from to kind w =
      goes_same (compound_by (expression_at m) (statement_at m) from) (simples from) s to (deep s) (simple_chosen from (simple_first s from to kind w))
      (simple_goes limit n m same inner_goes s from to kind w)

  -- an `if` at the front leads to the reader of conditionals
  conditional : (s : Statement) (at : ℕ) (behind from to : Tokens) → KeywordAt word.If at from behind → Goes (conditionals from) s to (deep s)
      → Goes (compound_by (expression_at m) (statement_at m) from) s to (deep s)
  unfolding compound_by
  conditional s at behind from to h g =
      goes_second (is_sign sign_of.LeftBrace) blocks from1 from s to (deep s) (rw h.1 refl)
      (goes_first (is_keyword word.If) conditionals from2 from s to (deep s) (rw h.1 refl) g)

  compound_goes : (s : Statement) (from to : Tokens) → IsStatement s from to → Stops (takes_else s) to
      → Goes (compound_by (expression_at m) (statement_at m) from) s to (deep s)
  unfolding compound_by
  compound_goes (Empty at) from to w stops = simple (Empty at) from to refl w
  compound_goes (Block at items) from to w stops =
      goes_first (is_sign sign_of.LeftBrace) blocks from1 from (Block at items) to (deep (Block at items)) (rw w.2.1 refl)
      (block_goes limit n m same inner_goes nested_goes at items from to w)
  compound_goes (Run e) from to w stops = simple (Run e) from to refl w
  compound_goes (Exchange left right) from to w stops = simple (Exchange left right) from to refl w
  compound_goes (If at condition body) from to w stops =
      conditional (If at condition body) at w.0 from to w.2
      (conditional_goes limit n m same inner_goes nested_goes at condition body from to w stops)
  compound_goes (IfElse at condition body otherwise) from to w stops =
      conditional (IfElse at condition body otherwise) at w.0 from to w.4
      (conditional_else_goes limit n m same inner_goes nested_goes at condition body otherwise from to w stops)
  compound_goes (While at condition body) from to w stops =
      let s : Statement = While at condition body in
      goes_second (is_sign sign_of.LeftBrace) blocks from1 from s to (deep s) (rw w.2.1 refl)
      (goes_second (is_keyword word.If) conditionals from2 from s to (deep s) (rw w.2.1 refl)
      (goes_first (is_keyword word.While) loops from3 from s to (deep s) (rw w.2.1 refl)
      (repeated_goes limit n m same inner_goes nested_goes at condition body from to w stops)))
  compound_goes (Switch at place NoClauses) from to w stops = absurd w
  compound_goes (Switch at place (MoreClauses first pattern body others)) from to w stops =
      let s : Statement = Switch at place (MoreClauses first pattern body others) in
      goes_second (is_sign sign_of.LeftBrace) blocks from1 from s to (deep s) (rw w.4.1 refl)
      (goes_second (is_keyword word.If) conditionals from2 from s to (deep s) (rw w.4.1 refl)
      (goes_second (is_keyword word.While) loops from3 from s to (deep s) (rw w.4.1 refl)
      (goes_first (is_keyword word.Switch) switches simples from s to (deep s) (rw w.4.1 refl)
      (switch_goes limit n m same inner_goes nested_goes at place (MoreClauses first pattern body others) from to w))))
  compound_goes (Break at) from to w stops = simple (Break at) from to refl w
  compound_goes (Continue at) from to w stops = simple (Continue at) from to refl w
  compound_goes (Return at None) from to w stops = simple (Return at None) from to refl w
  compound_goes (Return at (Some e)) from to w stops = simple (Return at (Some e)) from to refl w
  compound_goes (FreeUnique at pointer) from to w stops = simple (FreeUnique at pointer) from to refl w
  compound_goes (FreeKey at key) from to w stops = simple (FreeKey at key) from to refl w

-- ---- where none may nest any more

-- a statement that stands in as many phrases as may nest is itself too deep
refused_goes : (limit n : ℕ) → n + zero ≡ limit → (s : Statement) (from to : Tokens) → IsStatement s from to
    → Goes (refuse begins_statement from) s to (first_deeper limit (statement_starts n s))
refused_goes limit n same s from to w =
    let first = statement_first n s in
    let deep : first_deeper limit (statement_starts n s) ≡ Some (statement_place s) =
    ap (first_deeper limit) first.1 ∙ deeper_here limit (statement_place s) (n + 1) first.0 (omega (arith, same)) in
    goes_as (refuse begins_statement from) s to (Some (statement_place s)) (first_deeper limit (statement_starts n s)) (sym deep)
    (rw (statement_begins s from to w) (ap (λ (x : ℕ). Err (TooDeep x)) (place_of_statement s from to w)))

-- ---- all statements

pub statement_goes : (limit n m : ℕ) → n + m ≡ limit → (s : Statement) (from to : Tokens) → IsStatement s from to → Stops (takes_else s) to
    → Goes (statement_at m from) s to (first_deeper limit (statement_starts n s))
unfolding statement_at
statement_goes limit n zero same s from to w stops = refused_goes limit n same s from to w
statement_goes limit n (suc m) same s from to w stops =
    compound_goes limit n m same (expression_goes limit (n + 1) m (omega (arith, same))) (statement_goes limit (n + 1) m (omega (arith, same)))
    s from to w stops
