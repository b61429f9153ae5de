-- Operands with binary operators between them go as their starts say.
use Rattle.std.proofs.Common.{◌≡◌, ℕ, zero, suc, ◌-◌, ◌≤◌, ◌||◌, Bool, true, false, List, [], ◌∷◌, Option, Ok, refl, sym, ap, subst, ◌∙◌, arith}
use Rattle.cyc_lexer.specs.Lexing.{Token}
use Rattle.cyc_lexer.specs.declared.token.TokenKind.{TokenKind}
use Rattle.cyc_tree.specs.declared.expression.Operator.{Operator}
use Rattle.cyc_tree.specs.Tree.{Expression}
use Rattle.cyc_tree.specs.View.{links_of}
use Rattle.cyc_tree.specs.Depths.{inner_starts, link_starts, first_deeper}
use Rattle.source_grammar.specs.Phrases.{Tokens}
use Rattle.source_grammar.specs.ExpressionGrammar.{IsExpression, binds, unary_level}
use Rattle.cyc_parser.specs.Parts.{chained}
use Rattle.cyc_parser.specs.Tests.{continues, is_operator}
use Rattle.cyc_parser.specs.Reader.{Outcome, done, read, token}
use Rattle.cyc_parser.specs.ReadExpressions.{operator_of, level_over, links_by, chain_by}
use Rattle.cyc_parser.specs.Exact.{Exact, Anything, Stops, Rows, always}
use Rattle.cyc_parser.proofs.exactness.Composed.{begins_stops, stops_wider}
use Rattle.cyc_parser.proofs.exactness.Begins.{IsUnary}
use Rattle.cyc_parser.proofs.exactness.Operands.{IsUnaryAt, IsOperandAt, continues_wider, rows_stop}
use Rattle.cyc_parser.proofs.exactness.Chains.{IsLink, LinkRead, ChainRead, link_back, link_begins, link_exact, operator_stops, goes_on_wider, links}
use Rattle.cyc_parser.proofs.exactness.Chains.{chain_back, chain_exact}
use Rattle.cyc_parser.proofs.Goes.{Goes, or_else, none_else, deeper_both, goes_as, goes_then, goes_behind, goes_before, first_of, many_goes}

-- ---- where operands are too deep

-- an operand with its operator
abbrev link_deep : (limit n : ℕ) → Operator × Expression → Option ℕ
link_deep limit n x = first_deeper limit (inner_starts n x.1)

-- operands behind one another: the first place of them all
links_deep : (limit n : ℕ) (xs : List (Operator × Expression)) → first_of (link_deep limit n) xs ≡ first_deeper limit (link_starts n (links_of xs))
links_deep limit n [] = refl
links_deep limit n (x ∷ xs) =
    ap (or_else (link_deep limit n x)) (links_deep limit n xs) ∙ sym (deeper_both limit (inner_starts n x.1) (link_starts n (links_of xs)))

-- an operand and those behind it, where there are such
chain_deep : (limit n : ℕ) (first : Expression) (xs : List (Operator × Expression))
    → or_else (first_deeper limit (inner_starts n first)) (first_of (link_deep limit n) xs)
    ≡ first_deeper limit (inner_starts n (chained first (links_of xs)))
chain_deep limit n first [] = none_else (first_deeper limit (inner_starts n first))
chain_deep limit n first (x ∷ xs) =
    ap (or_else (first_deeper limit (inner_starts n first))) (links_deep limit n (x ∷ xs))
    ∙ sym (deeper_both limit (inner_starts n first) (link_starts n (links_of (x ∷ xs))))

-- a token that passes is read
token_is : (test : TokenKind → Bool) (from : Tokens) (t : Token) (rest : Tokens) → from ≡ t ∷ rest → test t.kind ≡ true
    → token test from ≡ Ok (t, rest)
token_is test from t rest same passes = rw same (rw passes refl)

-- ---- one level

module _ (limit n d level : ℕ) (low : 3 ≤ level) (high : level ≤ 10) (operand : Tokens → Outcome Expression)
    (each : Exact Anything (IsOperandAt (suc level) d) (always (continues (suc level))) operand)
    (goes : (e : Expression) (from to : Tokens) → IsExpression e from to → suc level ≤ binds e → Stops (continues (suc level)) to
    → Goes (operand from) e to (first_deeper limit (inner_starts n e))) where
  abbrev link : Tokens → Outcome (Operator × Expression)
  link = read (token (is_operator level)) (λ t. read operand (λ e. done (operator_of t.kind, e)))

  -- an operator and its right operand
  link_goes_read : (x : Operator × Expression) (from to : Tokens) → LinkRead d level low high false x from to → Stops (continues (suc level)) to
      → Goes (link from) x to (link_deep limit n x)
  link_goes_read x from to h stops =
      let t : Token = h.0 in
      let e : Expression = h.3.0 in
      subst (λ (y : Operator × Expression). Goes (link from) y to (link_deep limit n y)) (sym h.3.1)
      (goes_behind (token (is_operator level)) (λ t. read operand (λ e. done (operator_of t.kind, e))) from t h.1 (operator_of t.kind, e) to
      (link_deep limit n (operator_of t.kind, e)) (token_is (is_operator level) from t h.1 h.2.0 h.2.1)
      (goes_before operand (λ e. done (operator_of t.kind, e)) h.1 e to (operator_of t.kind, e) to (link_deep limit n (operator_of t.kind, e))
      (goes e h.1 to h.3.2.0.0 h.3.2.0.1 stops) refl))

  link_goes : (x : Operator × Expression) (from to : Tokens) → IsLink d level low high false x from to → Stops (continues (suc level)) to
      → Goes (link from) x to (link_deep limit n x)
  link_goes x from to h stops = link_goes_read x from to (link_back d level low high false x from to h) stops

  -- operators with their right operands
  links_go : (xs : List (Operator × Expression)) (from to : Tokens) → Rows (IsLink d level low high) false xs from to → Stops (continues level) to
      → Goes (links d level low high operand each from) xs to (first_of (link_deep limit n) xs)
  links_go xs from to h stops =
      many_goes (is_operator level) (IsLink d level low high) (always (continues (suc level))) link (link_exact d level low high operand each)
      (link_begins d level low high) (λ x. operator_stops d level low high operand each) (continues (suc level)) (λ x k g. g) (link_deep limit n)
      link_goes xs from to h
      (stops_wider (λ k. is_operator level k || continues (suc level) k) (continues level) (goes_on_wider d level low high operand each) to stops)

  -- the level's reader
  abbrev level_read : Tokens → Outcome Expression
  level_read = read operand (λ first. read (links d level low high operand each) (λ xs. done (chained first (links_of xs))))

  -- an operand with what is behind it
  chain_goes_read : (e : Expression) (from to : Tokens) → ChainRead d level low high operand each false e from to → Stops (continues level) to
      → Goes (level_read from) e to (first_deeper limit (inner_starts n e))
  chain_goes_read e from to h stops =
      let first : Expression = h.0 in
      let xs : List (Operator × Expression) = h.3.0 in
      let chain : Expression = chained first (links_of xs) in
      let meets : Stops (continues (suc level)) h.1 =
      rows_stop (IsLink d level low high) (is_operator level) (continues (suc level)) (continues level) (link_begins d level low high)
      (begins_stops (is_operator level) (continues (suc level)) (operator_stops d level low high operand each))
      (continues_wider (suc level) level (omega arith)) false xs h.1 to h.3.2 stops in
      subst (λ (y : Expression). Goes (level_read from) y to (first_deeper limit (inner_starts n y))) (sym h.3.1)
      (goes_as (level_read from) chain to (or_else (first_deeper limit (inner_starts n first)) (first_of (link_deep limit n) xs))
      (first_deeper limit (inner_starts n chain)) (chain_deep limit n first xs)
      (goes_then operand (λ first. read (links d level low high operand each) (λ xs. done (chained first (links_of xs)))) from first h.1 chain to
      (first_deeper limit (inner_starts n first)) (first_of (link_deep limit n) xs) (goes first from h.1 h.2.0.0 h.2.0.1 meets)
      (goes_before (links d level low high operand each) (λ xs. done (chained first (links_of xs))) h.1 xs to chain to
      (first_of (link_deep limit n) xs) (links_go xs h.1 to h.3.2 stops) refl)))

  -- operands with operators of the level between them
  level_goes : (e : Expression) (from to : Tokens) → IsExpression e from to → level ≤ binds e → Stops (continues level) to
      → Goes (level_read from) e to (first_deeper limit (inner_starts n e))
  level_goes e from to h l stops = chain_goes_read e from to (chain_back d level low high operand each false e from to ((h, l), tt)) stops

-- ---- all levels

module _ (limit n d : ℕ) (unary : Tokens → Outcome Expression) (each : Exact Anything (IsUnaryAt d) (always (continues unary_level)) unary)
    (unary_goes : (e : Expression) (from to : Tokens) → IsUnary e from to → Stops (continues unary_level) to
    → Goes (unary from) e to (first_deeper limit (inner_starts n e))) where
  -- k levels, from the one that has k - 1 above it: with none, a unary expression
  pub chain_goes : (k : ℕ) → k ≤ 8 → (e : Expression) (from to : Tokens) → IsExpression e from to → 11 - k ≤ binds e → Stops (continues (11 - k)) to
      → Goes (chain_by unary k from) e to (first_deeper limit (inner_starts n e))
  unfolding chain_by links_by
  chain_goes zero h e from to is l stops = unary_goes e from to (is, l) stops
  chain_goes (suc k) h e from to is l stops =
      let last : 11 - suc k ≡ level_over k = omega arith in
      let next : 11 - k ≡ suc (level_over k) = omega (arith, h) in
      let operand : Exact Anything (IsOperandAt (suc (level_over k)) d) (always (continues (suc (level_over k)))) (chain_by unary k) =
      subst (λ l. Exact Anything (IsOperandAt l d) (always (continues l)) (chain_by unary k)) next (chain_exact d unary each k (omega (arith, h))) in
      level_goes limit n d (level_over k) (omega (arith, h)) (omega arith) (chain_by unary k) operand
      (λ e from to is l stops. chain_goes k (omega (arith, h)) e from to is (omega (arith, l, next))
      (subst (λ l. Stops (continues l) to) (sym next) stops))
      e from to is (omega (arith, l, last)) (subst (λ l. Stops (continues l) to) last stops)
