-- What the reader of statements that hold no other answers: the tree, or the place of the first token that is too deep.
use Rattle.std.proofs.Common.{◌≡◌, ℕ, suc, ◌+◌, arith, Bool, true, false, [], ◌∷◌, ◌++◌, Option, Some, None, refl, sym, ◌∙◌, inl, inr}
use Rattle.cyc_lexer.specs.declared.token.Keyword.TheVariants as word
use Rattle.cyc_lexer.specs.declared.token.Sign.TheVariants as sign_of
use Rattle.cyc_tree.specs.Tree.{Expression, Statement, Empty, Run, Exchange, Break, Continue, Return, FreeUnique, FreeKey}
use Rattle.cyc_tree.specs.Depths.{start, first_deeper, expression_starts, statement_starts}
use Rattle.cyc_tree.specs.Places.{expression_place}
use Rattle.source_grammar.specs.Phrases.{Tokens}
use Rattle.source_grammar.specs.ExpressionGrammar.{IsExpression}
use Rattle.source_grammar.specs.StatementGrammar.{IsStatement}
use Rattle.cyc_parser.specs.Tests.{is_sign, is_keyword, begins_unary, continues}
use Rattle.cyc_parser.specs.Reader.{Outcome, done, read, choose, sign}
use Rattle.cyc_parser.specs.ReadExpressions.{expression_at}
use Rattle.cyc_parser.specs.ReadStatements.{returned_by, run_by, simple_by}
use Rattle.cyc_parser.specs.Exact.{Stops}
use Rattle.cyc_parser.proofs.exactness.Parts.{begins_stops}
use Rattle.cyc_parser.proofs.exactness.Expressions.{expression_begins, expression_exact}
use Rattle.cyc_parser.proofs.exactness.Unguarded.{stops_never}
use Rattle.cyc_parser.proofs.StatementKinds.{Leads, leads_past, unary_leads, past_empty, past_break, past_continue, past_return, past_ufree, past_free_key}
use Rattle.cyc_parser.proofs.StatementKinds.{unary_no_semicolon}
use Rattle.cyc_parser.proofs.exactness.Simple.{IsSimplePart, simple_exact}
use Rattle.cyc_parser.proofs.Goes.{Goes, or_else, deeper_both, own_start, goes_as, goes_same, goes_then, goes_before, goes_second}

-- a statement that holds no other
abbrev pub is_simple : Statement → Bool
is_simple (Empty at) = true
is_simple (Run e) = true
is_simple (Exchange left right) = true
is_simple (Break at) = true
is_simple (Continue at) = true
is_simple (Return at value) = true
is_simple (FreeUnique at pointer) = true
is_simple (FreeKey at key) = true
is_simple _ = false

unary_first : (from : Tokens) → Leads 10 from → Leads 4 from
unary_first from l = (l.0, l.1, l.2, omega (arith, l.3))

-- its first token begins no block, `if`, `while` or `switch`
pub simple_first : (s : Statement) (from to : Tokens) → is_simple s ≡ true → IsStatement s from to → Leads 4 from
simple_first (Empty at) from to h is = (_, _, is.1, omega arith)
simple_first (Run e) from to h is = unary_first from (unary_leads from (expression_begins e from is.0 is.1))
simple_first (Exchange left right) from to h is = unary_first from (unary_leads from (expression_begins left from is.0 is.3))
simple_first (Break at) from to h is = (_, _, is.1.1, omega arith)
simple_first (Continue at) from to h is = (_, _, is.1.1, omega arith)
simple_first (Return at value) from to h is = (_, _, is.1.1, omega arith)
simple_first (FreeUnique at pointer) from to h is = (_, _, is.2.1, omega arith)
simple_first (FreeKey at key) from to h is = (_, _, is.2.1, omega arith)
simple_first _ from to h is = absurd cc

module _ (limit n m : ℕ) (same : n + suc m ≡ limit)
    (inner_goes : (e : Expression) (from to : Tokens) → IsExpression e from to → Stops (continues 0) to
    → Goes (expression_at m from) e to (first_deeper limit (expression_starts (n + 1) e))) where
  abbrev IsSimple : Bool → Statement → Tokens → Tokens → Type 0
  IsSimple = IsSimplePart m (expression_at m) (expression_exact m)

  -- the first place of an expression in the statement that is too deep
  abbrev deep : Expression → Option ℕ
  deep e = first_deeper limit (expression_starts (n + 1) e)

  -- one that holds no expression is read
  plain_goes : (at : ℕ) (s : Statement) (from to : Tokens) → IsSimple true s from to
      → Goes (simple_by (expression_at m) from) s to (first_deeper limit (start at (n + 1) ∷ []))
  plain_goes at s from to is =
      goes_as (simple_by (expression_at m) from) s to None (first_deeper limit (start at (n + 1) ∷ [])) (sym (own_start limit n m same at []))
      ((simple_exact m (expression_at m) (expression_exact m)).again s from to is (stops_never to))

  return_goes : (at : ℕ) (e : Expression) (from to : Tokens) → IsStatement (Return at (Some e)) from to
      → Goes (simple_by (expression_at m) from) (Return at (Some e)) to (deep e)
  unfolding simple_by returned_by
  return_goes at e from to is =
      let (a, begin, (b, value, end)) = is in
      rw begin.1
      (goes_second (is_sign sign_of.Semicolon) (read (sign sign_of.Semicolon) (λ _. done (Return at None)))
      (read (expression_at m) (λ e. read (sign sign_of.Semicolon) (λ _. done (Return at (Some e))))) a (Return at (Some e)) to (deep e)
      (begins_stops begins_unary (is_sign sign_of.Semicolon) unary_no_semicolon a (expression_begins e a b value))
      (goes_before (expression_at m) (λ e. read (sign sign_of.Semicolon) (λ _. done (Return at (Some e)))) a e b (Return at (Some e)) to (deep e)
      (inner_goes e a b value (rw end.1.1 refl)) (rw end.1.1 refl)))

  -- ---- a statement that begins with an expression

  run_chosen : (from : Tokens) → Leads 10 from → simple_by (expression_at m) from ≡ run_by (expression_at m) from
  unfolding simple_by
  run_chosen from l =
      rw (leads_past (is_sign sign_of.Semicolon) 10 (λ k h. past_empty k (omega (arith, h))) from l)
      (rw (leads_past (is_keyword word.Break) 10 (λ k h. past_break k (omega (arith, h))) from l)
      (rw (leads_past (is_keyword word.Continue) 10 (λ k h. past_continue k (omega (arith, h))) from l)
      (rw (leads_past (is_keyword word.Return) 10 (λ k h. past_return k (omega (arith, h))) from l)
      (rw (leads_past (is_keyword word.Ufree) 10 (λ k h. past_ufree k (omega (arith, h))) from l)
      (rw (leads_past (is_keyword word.FreeUkey) 10 past_free_key from l) refl)))))

  -- what stands behind the first expression
  abbrev behind_first : Expression → Tokens → Outcome Statement
  behind_first first =
      choose (is_sign sign_of.Exchange)
      (read (sign sign_of.Exchange)
      (λ _. read (expression_at m) (λ second. read (sign sign_of.Semicolon) (λ _. done (Exchange first second)))))
      (read (sign sign_of.Semicolon) (λ _. done (Run first)))

  run_goes : (e : Expression) (from to : Tokens) → IsStatement (Run e) from to → Goes (run_by (expression_at m) from) (Run e) to (deep e)
  unfolding run_by
  run_goes e from to is =
      let (a, value, end) = is in
      goes_before (expression_at m) behind_first from e a (Run e) to (deep e) (inner_goes e from a value (rw end.1.1 refl)) (rw end.1.1 refl)

  exchange_goes : (left right : Expression) (from to : Tokens) → IsStatement (Exchange left right) from to
      → Goes (run_by (expression_at m) from) (Exchange left right) to (or_else (deep left) (deep right))
  unfolding run_by
  exchange_goes left right from to is =
      let (a, b, c, first, between, second, end) = is in
      goes_then (expression_at m) behind_first from left a (Exchange left right) to (deep left) (deep right)
      (inner_goes left from a first (rw between.1.1 refl))
      (rw between.1.1
      (goes_before (expression_at m) (λ second. read (sign sign_of.Semicolon) (λ _. done (Exchange left second))) b right c (Exchange left right) to
      (deep right) (inner_goes right b c second (rw end.1.1 refl)) (rw end.1.1 refl)))

  -- ---- any of these

  pub simple_goes : (s : Statement) (from to : Tokens) → is_simple s ≡ true → IsStatement s from to
      → Goes (simple_by (expression_at m) from) s to (first_deeper limit (statement_starts n s))
  simple_goes (Empty at) from to h is = plain_goes at (Empty at) from to (inl (at, refl, is))
  simple_goes (Run e) from to h is =
      goes_as (simple_by (expression_at m) from) (Run e) to (deep e) (first_deeper limit (statement_starts n (Run e)))
      (sym (own_start limit n m same (expression_place e) (expression_starts (n + 1) e)))
      (goes_same (simple_by (expression_at m) from) (run_by (expression_at m) from) (Run e) to (deep e)
      (run_chosen from (unary_leads from (expression_begins e from is.0 is.1))) (run_goes e from to is))
  simple_goes (Exchange left right) from to h is =
      goes_as (simple_by (expression_at m) from) (Exchange left right) to (or_else (deep left) (deep right))
      (first_deeper limit (statement_starts n (Exchange left right)))
      (sym (own_start limit n m same (expression_place left) (expression_starts (n + 1) left ++ expression_starts (n + 1) right)
      ∙ deeper_both limit (expression_starts (n + 1) left) (expression_starts (n + 1) right)))
      (goes_same (simple_by (expression_at m) from) (run_by (expression_at m) from) (Exchange left right) to (or_else (deep left) (deep right))
      (run_chosen from (unary_leads from (expression_begins left from is.0 is.3))) (exchange_goes left right from to is))
  simple_goes (Break at) from to h is = plain_goes at (Break at) from to (inr (inl (at, refl, is)))
  simple_goes (Continue at) from to h is = plain_goes at (Continue at) from to (inr (inr (inl (at, refl, is))))
  simple_goes (Return at None) from to h is =
      plain_goes at (Return at None) from to (inr (inr (inr (inl (at, is.0, is.1, inl (refl, is.2))))))
  simple_goes (Return at (Some e)) from to h is =
      goes_as (simple_by (expression_at m) from) (Return at (Some e)) to (deep e) (first_deeper limit (statement_starts n (Return at (Some e))))
      (sym (own_start limit n m same at (expression_starts (n + 1) e))) (return_goes at e from to is)
  simple_goes (FreeUnique at pointer) from to h is =
      plain_goes at (FreeUnique at pointer) from to (inr (inr (inr (inr (inl ((at, pointer), refl, is))))))
  simple_goes (FreeKey at key) from to h is =
      plain_goes at (FreeKey at key) from to (inr (inr (inr (inr (inr (inl ((at, key), refl, is)))))))
  simple_goes _ from to h is = absurd cc
