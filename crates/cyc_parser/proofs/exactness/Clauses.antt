-- The readers of a `switch` and its clauses are exact.
use Rattle.std.proofs.Common.{◌≡◌, ◌||◌, ℕ, suc, max, Bool, true, false, List, [], ◌∷◌, refl, sym, ap, subst, inl, inr}
use Rattle.std.proofs.lemmas.Bool.{or_right}
use Rattle.cyc_lexer.specs.Lexing.{Token}
use Rattle.cyc_lexer.specs.declared.token.Keyword.{Keyword}
use Rattle.cyc_lexer.specs.declared.token.Keyword.TheVariants as word
use Rattle.cyc_lexer.specs.declared.token.Sign.TheVariants as sign_of
use Rattle.cyc_lexer.specs.declared.token.TokenKind.{TokenKind}
use Rattle.cyc_tree.specs.Tree.{Expression, Statement, Switch, Pattern, Case, Default, BlockItems, Clauses, NoClauses, MoreClauses}
use Rattle.cyc_tree.specs.View.{OneItem, OneClause, items_of, clauses_of}
use Rattle.cyc_tree.proofs.PartNesting.{expression_nesting, items_nesting, clauses_nesting}
use Rattle.source_grammar.specs.Phrases.{Tokens, KeywordAt, IsKeyword, IsSign, IsName}
use Rattle.source_grammar.specs.StatementGrammar.{IsPattern, AreItems, AreClauses, ends_open}
use Rattle.cyc_parser.specs.Tests.{is_keyword, begins_clause, continues}
use Rattle.cyc_parser.specs.Reading.{next_place}
use Rattle.cyc_parser.specs.Reader.{next_is}
use Rattle.cyc_parser.specs.ReadExpressions.{Reads, parenthesized_by}
use Rattle.cyc_parser.specs.ReadStatements.{pattern, clause_by, clauses_by, switch_by}
use Rattle.cyc_parser.specs.Exact.{Exact, Stops, Anything, ends, always, Whole, Within, IsDone, IsPlaced, Then, Either, Rows}
use Rattle.cyc_parser.proofs.exactness.Parts.{begins_stops, stops_wider}
use Rattle.cyc_parser.proofs.Exact.{exact_as, done_exact, many_exact, placed_exact}
use Rattle.cyc_parser.proofs.exactness.Types.{keyword_exact, name_exact}
use Rattle.cyc_parser.proofs.exactness.Expressions.{IsExpressionAt, IsParenthesizedAt}
use Rattle.cyc_parser.proofs.StatementsWithin.{IsStatementAt, AreItemsAt, takes_else, goes_on_in_block, within_none, within_up, within_down, within_max}
use Rattle.cyc_parser.proofs.StatementsWithin.{within_left, within_right}
use Rattle.cyc_parser.proofs.exactness.Unguarded.{read_on, read_closed, BehindSign, BehindKeyword, sign_then, keyword_then, choose_on, Made, make_on, EndsWith}
use Rattle.cyc_parser.proofs.exactness.Unguarded.{end_with}
use Rattle.cyc_parser.proofs.exactness.Blocks.{list_of, list_same, listed, items_by_exact}
use Rattle.cyc_parser.proofs.StatementKinds.{clause_no_block}

-- ---- patterns

-- a pattern, whose place is that of its first token
abbrev pub IsPatternHere : Bool → Pattern → Tokens → Tokens → Type 0
IsPatternHere b p from to = IsPattern (next_place from) p from to

abbrev IsPatternPart : Bool → Pattern → Tokens → Tokens → Type 0
IsPatternPart =
    Either (BehindKeyword word.Default (IsDone Default))
    (BehindKeyword word.Case (BehindSign sign_of.LeftBrace (BehindSign sign_of.Dot (Then (Whole IsName) (λ member.
    BehindSign sign_of.Assign (Then (Whole IsName) (λ n. EndsWith sign_of.RightBrace (Case member n))))))))

keyword_here : (w : Keyword) (from to : Tokens) → IsKeyword w from to → KeywordAt w (next_place from) from to
keyword_here w from to h = subst (λ (x : Tokens). KeywordAt w (next_place x) x to) (sym h.1.1) (h.1.0, refl)

pattern_into : (b : Bool) (p : Pattern) (from to : Tokens) → IsPatternPart b p from to → IsPatternHere b p from to
pattern_into b p from to (inl w) =
    let here : KeywordAt word.Default (next_place from) from w.0 = keyword_here word.Default from w.0 w.1 in
    subst (λ (y : Pattern). IsPatternHere b y from to) (sym w.2.0)
    (subst (λ (x : Tokens). KeywordAt word.Default (next_place from) from x) w.2.1 here)
pattern_into b p from to (inr (m1, k, (m2, lb, (m3, dot, (member, m4, hm, (m5, hs, (n, m6, hn, (same, end)))))))) =
    subst (λ (y : Pattern). IsPatternHere b y from to) (sym same) (m1, m2, m3, m4, m5, m6, keyword_here word.Case from m1 k, lb, dot, hm, hs, hn, end)

pattern_back : (b : Bool) (p : Pattern) (from to : Tokens) → IsPatternHere b p from to → IsPatternPart b p from to
pattern_back b (Case member n) from to w =
    inr (w.0, (next_place from, w.6), (w.1, w.7, (w.2, w.8, (member, w.3, w.9, (w.4, w.10, (n, w.5, w.11, (refl, w.12)))))))
pattern_back b Default from to w = inl (to, (next_place from, w), (refl, refl))

pub pattern_exact : Exact Anything IsPatternHere ends pattern
unfolding pattern
pattern_exact =
    exact_as Anything IsPatternPart ends _
    (choose_on (is_keyword word.Default)
    (keyword_then word.Default (done_exact Default))
    (keyword_then word.Case (sign_then sign_of.LeftBrace (sign_then sign_of.Dot (read_closed name_exact (λ member.
    sign_then sign_of.Assign (read_closed name_exact (λ n. end_with sign_of.RightBrace (Case member n) ends)))))))
    (λ b p from to w. rw w.1.1.1 refl)
    (λ b p from to w h. rw w.1.1.1 refl))
    IsPatternHere pattern_into pattern_back

pub pattern_some : (b : Bool) (p : Pattern) (from to : Tokens) → IsPatternHere b p from to → (t : Token) × (rest : Tokens) × (from ≡ t ∷ rest)
pattern_some b (Case member n) from to w = (_, _, w.6.1)
pattern_some b Default from to w = (_, _, w.1)

pattern_begins : (at : ℕ) (p : Pattern) (from to : Tokens) → IsPattern at p from to → next_is begins_clause from ≡ true
pattern_begins at (Case member n) from to w = rw w.6.1 refl
pattern_begins at Default from to w = rw w.1 refl

-- ---- clauses

abbrev pub IsClauseAt : ℕ → Bool → OneClause → Tokens → Tokens → Type 0
IsClauseAt d b c from to =
    (a : Tokens) × (m : Tokens) × IsPattern c.at c.pattern from a × IsSign sign_of.Colon a m × AreItems c.body m to
    × Within b d (items_nesting c.body)

-- one clause at least
abbrev AreClausesAt : ℕ → Bool → List OneClause → Tokens → Tokens → Type 0
AreClausesAt d b [] from to = ⊥
AreClausesAt d b (c ∷ cs) from to = AreClauses (clauses_of (c ∷ cs)) from to × Within b d (clauses_nesting (clauses_of (c ∷ cs)))

abbrev pub goes_on_in_switch : TokenKind → Bool
goes_on_in_switch k = begins_clause k || goes_on_in_block k

block_in_switch : (k : TokenKind) → goes_on_in_block k ≡ true → goes_on_in_switch k ≡ true
block_in_switch k h = or_right (begins_clause k) (goes_on_in_block k) h

pub clause_list : Clauses → List OneClause
clause_list NoClauses = []
clause_list (MoreClauses at p body others) = record { at = at; pattern = p; body = body } ∷ clause_list others

pub clause_list_same : (cs : Clauses) → clauses_of (clause_list cs) ≡ cs
unfolding clause_list
clause_list_same NoClauses = refl
clause_list_same (MoreClauses at p body others) = ap (MoreClauses at p body) (clause_list_same others)

rows_into : (d : ℕ) (b : Bool) (cs : List OneClause) (from to : Tokens) → Rows (IsClauseAt d) b cs from to
    → AreClauses (clauses_of cs) from to × Within b d (clauses_nesting (clauses_of cs))
rows_into d b [] from to w = (w, within_none b d)
rows_into d b (c ∷ cs) from to w =
    let others : AreClauses (clauses_of cs) w.0 to × Within b d (clauses_nesting (clauses_of cs)) = rows_into d b cs w.0 to w.2 in
    ((w.1.0, w.1.1, w.0, w.1.2, w.1.3, w.1.4, others.0), within_max b d _ _ w.1.5 others.1)

pub rows_back : (d : ℕ) (b : Bool) (cs : List OneClause) (from to : Tokens)
    → AreClauses (clauses_of cs) from to × Within b d (clauses_nesting (clauses_of cs)) → Rows (IsClauseAt d) b cs from to
rows_back d b [] from to w = w.0
rows_back d b (c ∷ cs) from to w =
    (w.0.2, (w.0.0, w.0.1, w.0.3, w.0.4, w.0.5, within_left b d _ _ w.1), rows_back d b cs w.0.2 to (w.0.6, within_right b d _ _ w.1))

pub clause_begins : (d : ℕ) (b : Bool) (c : OneClause) (from to : Tokens) → IsClauseAt d b c from to → next_is begins_clause from ≡ true
clause_begins d b c from to w = pattern_begins c.at c.pattern from w.0 w.2

module _ (d : ℕ) (expr : Reads Expression) (each : Exact Anything (IsExpressionAt d) (always (continues 0)) expr)
    (stmt : Reads Statement) (inner : Exact Anything (IsStatementAt d) takes_else stmt) where
  abbrev clause_of : ℕ × Pattern → List OneItem → OneClause
  clause_of p is = record { at = p.0; pattern = p.1; body = items_of is }

  abbrev IsClausePart : Bool → OneClause → Tokens → Tokens → Type 0
  IsClausePart = Then (IsPlaced IsPatternHere) (λ p. BehindSign sign_of.Colon (Made (clause_of p) (AreItemsAt d)))

  clause_into : (b : Bool) (c : OneClause) (from to : Tokens) → IsClausePart b c from to → IsClauseAt d b c from to
  clause_into b c from to (p, a, hp, (m, colon, (is, same, hi))) =
      subst (λ (y : OneClause). IsClauseAt d b y from to) (sym same)
      (a, m, subst (λ (at : ℕ). IsPattern at p.1 from a) (sym hp.0) hp.1, colon, hi.0, hi.1)

  pub pattern_place : (at : ℕ) (p : Pattern) (from to : Tokens) → IsPattern at p from to → at ≡ next_place from
  pattern_place at (Case member n) from to w = rw w.6.1 refl
  pattern_place at Default from to w = rw w.1 refl

  abbrev body_in : OneClause → BlockItems → OneClause
  body_in c y = record { at = c.at; pattern = c.pattern; body = y }

  clause_back : (b : Bool) (c : OneClause) (from to : Tokens) → IsClauseAt d b c from to → IsClausePart b c from to
  clause_back b c from to w =
      let there : c.at ≡ next_place from = pattern_place c.at c.pattern from w.0 w.2 in
      let begins : IsPatternHere b c.pattern from w.0 = subst (λ (at : ℕ). IsPattern at c.pattern from w.0) there w.2 in
      let items : AreItemsAt d b (list_of c.body) w.1 to = listed d b c.body w.1 to (w.4, w.5) in
      ((c.at, c.pattern), w.0, (there, begins), (w.1, w.3, (list_of c.body, ap (body_in c) (sym (list_same c.body)), items)))

  pub clause_exact : Exact Anything (IsClauseAt d) (always goes_on_in_block) (clause_by expr stmt)
  unfolding clause_by
  clause_exact =
      exact_as Anything IsClausePart (always goes_on_in_block) _
      (read_closed (placed_exact Anything IsPatternHere ends pattern pattern_exact pattern_some)
      (λ p. sign_then sign_of.Colon (make_on (clause_of p) (always goes_on_in_block) (items_by_exact d expr each stmt inner) (λ is k h. h))))
      (IsClauseAt d) clause_into clause_back

  abbrev AreClausesPart : Bool → List OneClause → Tokens → Tokens → Type 0
  AreClausesPart = Then (IsClauseAt d) (λ c. Made (λ cs. c ∷ cs) (Rows (IsClauseAt d)))

  pub clauses_meet : (b : Bool) (cs : List OneClause) (mid to : Tokens) → Rows (IsClauseAt d) b cs mid to → Stops goes_on_in_switch to
      → Stops goes_on_in_block mid
  clauses_meet b [] mid to w h = rw w (stops_wider goes_on_in_block goes_on_in_switch block_in_switch to h)
  clauses_meet b (c ∷ cs) mid to w h = begins_stops begins_clause goes_on_in_block clause_no_block mid (clause_begins d b c mid w.0 w.1)

  clauses_into : (b : Bool) (cs : List OneClause) (from to : Tokens) → AreClausesPart b cs from to → AreClausesAt d b cs from to
  clauses_into b cs from to (c, a, hc, (others, same, w)) =
      subst (λ (y : List OneClause). AreClausesAt d b y from to) (sym same) (rows_into d b (c ∷ others) from to (a, hc, w))

  clauses_back : (b : Bool) (cs : List OneClause) (from to : Tokens) → AreClausesAt d b cs from to → AreClausesPart b cs from to
  clauses_back b [] from to w = absurd w
  clauses_back b (c ∷ cs) from to w =
      let rows : Rows (IsClauseAt d) b (c ∷ cs) from to = rows_back d b (c ∷ cs) from to w in (c, rows.0, rows.1, (cs, refl, rows.2))

  clauses_exact : Exact Anything (AreClausesAt d) (always goes_on_in_switch) (clauses_by expr stmt)
  unfolding clauses_by
  clauses_exact =
      exact_as Anything AreClausesPart (always goes_on_in_switch) _
      (read_on clause_exact
      (λ c. make_on (λ cs. c ∷ cs) (always goes_on_in_switch)
      (many_exact begins_clause (IsClauseAt d) (always goes_on_in_block) (clause_by expr stmt) clause_exact (clause_begins d)
      (λ a k h. clause_no_block k h) goes_on_in_block (λ a k h. h))
      (λ cs k h. h))
      (λ b c cs mid to w h. clauses_meet b w.0 mid to w.2 h))
      (AreClausesAt d) clauses_into clauses_back

  abbrev clauses_from : ℕ → Pattern → BlockItems → Clauses → List OneClause
  clauses_from at p body others = record { at = at; pattern = p; body = body } ∷ clause_list others

  clauses_listed : (b : Bool) (at : ℕ) (p : Pattern) (body : BlockItems) (others : Clauses) (from to : Tokens)
      → AreClauses (MoreClauses at p body others) from to × Within b d (clauses_nesting (MoreClauses at p body others))
      → AreClausesAt d b (clauses_from at p body others) from to
  clauses_listed b at p body others from to w =
      subst (λ (y : Clauses). AreClauses (MoreClauses at p body y) from to × Within b d (clauses_nesting (MoreClauses at p body y)))
      (sym (clause_list_same others)) w

  -- ---- `switch`

  module _ (inside : Exact Anything (IsParenthesizedAt d) ends (parenthesized_by expr)) where
    abbrev pub IsSwitchPart : Bool → Statement → Tokens → Tokens → Type 0
    IsSwitchPart =
        Then (Whole (KeywordAt word.Switch)) (λ at. Then (IsParenthesizedAt d) (λ place.
        BehindSign sign_of.LeftBrace (Then (AreClausesAt d) (λ cs. EndsWith sign_of.RightBrace (Switch at place (clauses_of cs))))))

    pub switch_exact : Exact Anything IsSwitchPart ends (switch_by expr stmt)
    unfolding switch_by
    switch_exact =
        read_closed (keyword_exact word.Switch) (λ at. read_closed inside (λ place. sign_then sign_of.LeftBrace
        (read_on clauses_exact (λ cs. end_with sign_of.RightBrace (Switch at place (clauses_of cs)) ends) (λ b cs s mid to w h. rw w.1.1.1 refl))))

    pub switch_into : (b : Bool) (s : Statement) (from to : Tokens) → IsSwitchPart b s from to → IsStatementAt (suc d) b s from to
    switch_into b s from to (at, a, h, (place, c, hp, (m, lb, ([], e, hc, w)))) = absurd hc
    switch_into b s from to (at, a, h, (place, c, hp, (m, lb, (x ∷ xs, e, hc, w)))) =
        subst (λ (y : Statement). IsStatementAt (suc d) b y from to) (sym w.0)
        ((a, c, m, e, h, hp.0, lb, hc.0, w.1), within_up b d _ (within_max b d _ _ hp.1 hc.1))

    pub switch_back : (b : Bool) (at : ℕ) (place : Expression) (cs : Clauses) (from to : Tokens)
        → IsStatementAt (suc d) b (Switch at place cs) from to → IsSwitchPart b (Switch at place cs) from to
    switch_back b at place NoClauses from to w = absurd w.0
    switch_back b at place (MoreClauses here p body others) from to w =
        let v = w.0 in
        let nests : Within b d (max (expression_nesting place) (clauses_nesting (MoreClauses here p body others))) = within_down b d _ w.1 in
        let clauses : AreClausesAt d b (clauses_from here p body others) v.2 v.3 =
        clauses_listed b here p body others v.2 v.3 (v.7, within_right b d _ _ nests) in
        let same : Switch at place (MoreClauses here p body others) ≡ Switch at place (clauses_of (clauses_from here p body others)) =
        ap (λ (cs : Clauses). Switch at place (MoreClauses here p body cs)) (sym (clause_list_same others)) in
        (at, v.0, v.4, (place, v.1, (v.5, within_left b d _ _ nests), (v.2, v.6, (clauses_from here p body others, v.3, clauses, (same, v.8)))))

    pub switch_closed : (b : Bool) (s : Statement) (from to : Tokens) → IsSwitchPart b s from to → ends_open s ≡ false
    switch_closed b s from to (at, a, h, (place, c, hp, (m, lb, (cs, e, hc, w)))) = rw w.0 refl
