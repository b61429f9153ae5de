-- What the readers of a `switch` and its clauses answer: the tree, or the place of the first token that is too deep.
use Rattle.std.proofs.Common.{◌≡◌, ℕ, suc, ◌+◌, false, List, [], ◌∷◌, ◌++◌, Ok, Option, refl, sym, ap, subst, ◌∙◌}
use Rattle.cyc_lexer.specs.declared.token.Keyword.TheVariants as word
use Rattle.cyc_lexer.specs.declared.token.Sign.TheVariants as sign_of
use Rattle.cyc_tree.specs.Tree.{Expression, Statement, Switch, Pattern, BlockItems, Clauses, NoClauses, MoreClauses}
use Rattle.cyc_tree.specs.View.{OneItem, OneClause, items_of, clauses_of}
use Rattle.cyc_tree.specs.Depths.{first_deeper, expression_starts, statement_starts, items_starts, clauses_starts}
use Rattle.source_grammar.specs.Phrases.{Tokens}
use Rattle.source_grammar.specs.ExpressionGrammar.{IsExpression}
use Rattle.source_grammar.specs.StatementGrammar.{IsPattern, IsStatement, AreClauses}
use Rattle.cyc_parser.specs.Tests.{begins_clause, continues}
use Rattle.cyc_parser.specs.Reading.{next_place}
use Rattle.cyc_parser.specs.Reader.{Outcome, done, read, placed, many, sign}
use Rattle.cyc_parser.specs.ReadExpressions.{parenthesized_by, expression_at}
use Rattle.cyc_parser.specs.ReadStatements.{pattern, items_by, clause_by, clauses_by, switch_by, statement_at}
use Rattle.cyc_parser.specs.Exact.{Stops, Anything, ends, always, Rows}
use Rattle.cyc_parser.proofs.Exact.{placed_exact}
use Rattle.cyc_parser.proofs.exactness.Expressions.{expression_exact}
use Rattle.cyc_parser.proofs.StatementsWithin.{takes_else, goes_on_in_block}
use Rattle.cyc_parser.proofs.exactness.Unguarded.{stops_never}
use Rattle.cyc_parser.proofs.StatementKinds.{clause_no_block}
use Rattle.cyc_parser.proofs.exactness.Blocks.{list_of, list_same}
use Rattle.cyc_parser.proofs.exactness.Clauses.{IsPatternHere, pattern_exact, pattern_some, IsClauseAt, goes_on_in_switch, clause_list, clause_list_same}
use Rattle.cyc_parser.proofs.exactness.Clauses.{rows_back, clause_begins, pattern_place, clause_exact, clauses_meet}
use Rattle.cyc_parser.proofs.exactness.Statements.{statement_exact}
use Rattle.cyc_parser.proofs.Goes.{Goes, or_else, first_of, deeper_both, own_start, goes_as, goes_then, goes_behind, goes_before, many_goes}
use Rattle.cyc_parser.proofs.going.Tokens.{keyword_goes}
use Rattle.cyc_parser.proofs.going.Arguments.{parenthesized_goes}
use Rattle.cyc_parser.proofs.going.Blocks.{items_goes}

module _ (limit n m : ℕ)
    (inner_goes : (e : Expression) (from to : Tokens) → IsExpression e from to → Stops (continues 0) to
    → Goes (expression_at m from) e to (first_deeper limit (expression_starts n e)))
    (statement_goes : (s : Statement) (from to : Tokens) → IsStatement s from to → Stops (takes_else s) to
    → Goes (statement_at m from) s to (first_deeper limit (statement_starts n s))) where
  abbrev items : Tokens → Outcome (List OneItem)
  items = items_by (expression_at m) (statement_at m)

  abbrev clause : Tokens → Outcome OneClause
  clause = clause_by (expression_at m) (statement_at m)

  -- the first place of a clause that is too deep
  abbrev clause_deep : OneClause → Option ℕ
  clause_deep c = first_deeper limit (items_starts n c.body)

  -- a clause, from its place and pattern
  abbrev clause_of : ℕ × Pattern → List OneItem → OneClause
  clause_of p is = record { at = p.0; pattern = p.1; body = items_of is }

  clause_goes : (c : OneClause) (from to : Tokens) → IsClauseAt m false c from to → Stops goes_on_in_block to
      → Goes (clause from) c to (clause_deep c)
  unfolding clause_by
  clause_goes c from to is stops =
      let (a, b, begin, colon, inside, within) = is in
      let there : c.at ≡ next_place from =
      pattern_place m (expression_at m) (expression_exact m) (statement_at m) (statement_exact m) c.at c.pattern from a begin in
      let here : IsPattern (next_place from) c.pattern from a = subst (λ (at : ℕ). IsPattern at c.pattern from a) there begin in
      goes_behind (placed pattern) (λ p. read (sign sign_of.Colon) (λ _. read items (λ is. done (clause_of p is)))) from (c.at, c.pattern) a c to
      (clause_deep c)
      ((placed_exact Anything IsPatternHere ends pattern pattern_exact pattern_some).again (c.at, c.pattern) from a (there, here) (stops_never a))
      (rw colon.1.1
      (goes_before items (λ is. done (clause_of (c.at, c.pattern) is)) b (list_of c.body) to c to (clause_deep c)
      (items_goes limit n m inner_goes statement_goes c.body b to inside stops)
      (ap (λ (x : BlockItems). Ok (record { at = c.at; pattern = c.pattern; body = x }, to)) (list_same c.body))))

  -- the first place of clauses that is too deep is that of the first such clause
  clauses_deep : (cs : List OneClause) → first_of clause_deep cs ≡ first_deeper limit (clauses_starts n (clauses_of cs))
  clauses_deep [] = refl
  clauses_deep (c ∷ cs) =
      ap (or_else (clause_deep c)) (clauses_deep cs) ∙ sym (deeper_both limit (items_starts n c.body) (clauses_starts n (clauses_of cs)))

  -- one clause at least
  abbrev clauses_from : ℕ → Pattern → BlockItems → Clauses → List OneClause
  clauses_from at p body others = record { at = at; pattern = p; body = body } ∷ clause_list others

  clauses_goes : (at : ℕ) (p : Pattern) (body : BlockItems) (others : Clauses) (from to : Tokens)
      → AreClauses (MoreClauses at p body others) from to → Stops goes_on_in_switch to
      → Goes (clauses_by (expression_at m) (statement_at m) from) (clauses_from at p body others) to
      (first_deeper limit (clauses_starts n (MoreClauses at p body others)))
  unfolding clauses_by
  clauses_goes at p body others from to is stops =
      let (a, b, mid, begin, colon, inside, more) = is in
      let c : OneClause = record { at = at; pattern = p; body = body } in
      let all : List OneClause = clause_list others in
      let these : AreClauses (clauses_of all) mid to = subst (λ (x : Clauses). AreClauses x mid to) (sym (clause_list_same others)) more in
      let rows : Rows (IsClauseAt m) false all mid to = rows_back m false all mid to (these, tt) in
      let next : Stops goes_on_in_block mid =
      clauses_meet m (expression_at m) (expression_exact m) (statement_at m) (statement_exact m) false all mid to rows stops in
      let same : first_of clause_deep all ≡ first_deeper limit (clauses_starts n others) =
      clauses_deep all ∙ ap (λ (x : Clauses). first_deeper limit (clauses_starts n x)) (clause_list_same others) in
      goes_as (clauses_by (expression_at m) (statement_at m) from) (c ∷ all) to (or_else (clause_deep c) (first_of clause_deep all))
      (first_deeper limit (clauses_starts n (MoreClauses at p body others)))
      (ap (or_else (clause_deep c)) same ∙ sym (deeper_both limit (items_starts n body) (clauses_starts n others)))
      (goes_then clause (λ c. read (many begins_clause clause) (λ cs. done (c ∷ cs))) from c mid (c ∷ all) to (clause_deep c)
      (first_of clause_deep all)
      (clause_goes c from mid (a, b, begin, colon, inside, tt) next)
      (goes_before (many begins_clause clause) (λ cs. done (c ∷ cs)) mid all to (c ∷ all) to (first_of clause_deep all)
      (many_goes begins_clause (IsClauseAt m) (always goes_on_in_block) clause
      (clause_exact m (expression_at m) (expression_exact m) (statement_at m) (statement_exact m))
      (clause_begins m) (λ c k h. clause_no_block k h) goes_on_in_block (λ c k h. h) clause_deep clause_goes all mid to rows stops)
      refl))

module _ (limit n m : ℕ) (same : n + suc m ≡ limit)
    (inner_goes : (e : Expression) (from to : Tokens) → IsExpression e from to → Stops (continues 0) to
    → Goes (expression_at m from) e to (first_deeper limit (expression_starts (n + 1) e)))
    (statement_goes : (s : Statement) (from to : Tokens) → IsStatement s from to → Stops (takes_else s) to
    → Goes (statement_at m from) s to (first_deeper limit (statement_starts (n + 1) s))) where
  abbrev clauses : Tokens → Outcome (List OneClause)
  clauses = clauses_by (expression_at m) (statement_at m)

  -- what stands behind the expression of a `switch`
  abbrev clauses_behind : ℕ → Expression → Tokens → Outcome Statement
  clauses_behind at place =
      read (sign sign_of.LeftBrace) (λ _. read clauses (λ cs. read (sign sign_of.RightBrace) (λ _. done (Switch at place (clauses_of cs)))))

  pub switch_goes : (at : ℕ) (place : Expression) (cs : Clauses) (from to : Tokens) → IsStatement (Switch at place cs) from to
      → Goes (switch_by (expression_at m) (statement_at m) from) (Switch at place cs) to
      (first_deeper limit (statement_starts n (Switch at place cs)))
  unfolding switch_by
  switch_goes at place NoClauses from to is = absurd is
  switch_goes at place (MoreClauses first p body others) from to is =
      let (a, b, c, d, begin, condition, brace, inside, end) = is in
      let cs : Clauses = MoreClauses first p body others in
      let s : Statement = Switch at place cs in
      let place_deep : Option ℕ = first_deeper limit (expression_starts (n + 1) place) in
      let deep : Option ℕ = first_deeper limit (clauses_starts (n + 1) cs) in
      let listed : List OneClause = record { at = first; pattern = p; body = body } ∷ clause_list others in
      goes_as (switch_by (expression_at m) (statement_at m) from) s to (or_else place_deep deep) (first_deeper limit (statement_starts n s))
      (sym (own_start limit n m same at (expression_starts (n + 1) place ++ clauses_starts (n + 1) cs)
      ∙ deeper_both limit (expression_starts (n + 1) place) (clauses_starts (n + 1) cs)))
      (keyword_goes word.Switch (λ at. read (parenthesized_by (expression_at m)) (λ place. clauses_behind at place)) at from a to s
      (or_else place_deep deep) begin
      (goes_then (parenthesized_by (expression_at m)) (λ place. clauses_behind at place) a place b s to place_deep deep
      (parenthesized_goes limit n m same inner_goes place a b condition)
      (rw brace.1.1
      (goes_before clauses (λ cs. read (sign sign_of.RightBrace) (λ _. done (Switch at place (clauses_of cs)))) c listed d s to deep
      (clauses_goes limit (n + 1) m inner_goes statement_goes first p body others c d inside (rw end.1.1 refl))
      (rw end.1.1 (ap (λ (x : Clauses). Ok (Switch at place (MoreClauses first p body x), to)) (clause_list_same others)))))))
