-- The readers of statements that hold no other are exact.
use Rattle.std.proofs.Common.{◌≡◌, ℕ, suc, arith, Bool, false, Some, None, refl, sym, subst, inl, inr}
use Rattle.cyc_lexer.specs.declared.token.Keyword.{Keyword}
use Rattle.cyc_lexer.specs.declared.token.Keyword.TheVariants as word
use Rattle.cyc_lexer.specs.declared.token.Sign.TheVariants as sign_of
use Rattle.cyc_tree.specs.Tree.{Name, Expression, Statement, Empty, Run, Exchange, Break, Continue, Return, FreeUnique, FreeKey}
use Rattle.source_grammar.specs.Phrases.{Tokens, KeywordAt, SignAt, IsSign}
use Rattle.source_grammar.specs.StatementGrammar.{IsNameInParentheses, ends_open}
use Rattle.cyc_parser.specs.Tests.{is_sign, is_keyword, begins_unary, continues}
use Rattle.cyc_parser.specs.Reader.{next_is}
use Rattle.cyc_parser.specs.ReadExpressions.{Reads}
use Rattle.cyc_parser.specs.ReadStatements.{word_read, freed, returned_by, run_by, simple_by}
use Rattle.cyc_parser.specs.Exact.{Exact, Anything, ends, always, Whole, Then, Either}
use Rattle.cyc_parser.proofs.exactness.Parts.{begins_stops}
use Rattle.cyc_parser.proofs.Exact.{exact_as}
use Rattle.cyc_parser.proofs.exactness.Types.{sign_exact, keyword_exact}
use Rattle.cyc_parser.proofs.exactness.Expressions.{IsExpressionAt, expression_begins}
use Rattle.cyc_parser.proofs.exactness.Unguarded.{read_on, read_closed, BehindSign, sign_then, choose_on, Made, make_closed, EndsWith, end_with}
use Rattle.cyc_parser.proofs.exactness.Declarations.{parenthesized_name_exact}
use Rattle.cyc_parser.proofs.StatementsWithin.{IsStatementAt, within_one, within_up, within_max}
use Rattle.cyc_parser.proofs.StatementKinds.{Leads, leads_less, leads_past, unary_leads, past_empty, past_break, past_continue, past_return, past_ufree}
use Rattle.cyc_parser.proofs.StatementKinds.{past_free_key, unary_no_semicolon}

-- ---- words and names

-- a word and a semicolon
abbrev IsWord : Keyword → ℕ → Tokens → Tokens → Type 0
IsWord w at from to = (a : Tokens) × KeywordAt w at from a × IsSign sign_of.Semicolon a to

word_exact : (w : Keyword) → Exact Anything (Whole (IsWord w)) ends (word_read w)
unfolding word_read
word_exact w =
    exact_as Anything (Then (Whole (KeywordAt w)) (λ at. EndsWith sign_of.Semicolon at)) ends _
    (read_closed (keyword_exact w) (λ at. end_with sign_of.Semicolon at ends))
    (Whole (IsWord w))
    (λ b at from to h. (h.1, subst (λ (n : ℕ). KeywordAt w n from h.1) (sym h.3.0) h.2, h.3.1))
    (λ b at from to h. (at, h.0, h.1, (refl, h.2)))

-- a word, a name in parentheses and a semicolon
abbrev IsFreed : Keyword → ℕ × Name → Tokens → Tokens → Type 0
IsFreed w x from to = (a : Tokens) × (b : Tokens) × KeywordAt w x.0 from a × IsNameInParentheses x.1 a b × IsSign sign_of.Semicolon b to

freed_exact : (w : Keyword) → Exact Anything (Whole (IsFreed w)) ends (freed w)
unfolding freed
freed_exact w =
    exact_as Anything (Then (Whole (KeywordAt w)) (λ at. Then (Whole IsNameInParentheses) (λ n. EndsWith sign_of.Semicolon (at, n)))) ends _
    (read_closed (keyword_exact w) (λ at. read_closed parenthesized_name_exact (λ n. end_with sign_of.Semicolon (at, n) ends)))
    (Whole (IsFreed w))
    (λ b x from to h. subst (λ (y : ℕ × Name). IsFreed w y from to) (sym h.3.3.0) (h.1, h.3.1, h.2, h.3.2, h.3.3.1))
    (λ b x from to h. (x.0, h.0, h.2, (x.1, h.1, h.3, (refl, h.4))))

-- ---- statements

semicolon_stops : (from to : Tokens) → IsSign sign_of.Semicolon from to → next_is (continues 0) from ≡ false
semicolon_stops from to h = rw h.1.1 refl

module _ (d : ℕ) (expr : Reads Expression) (each : Exact Anything (IsExpressionAt d) (always (continues 0)) expr) where
  abbrev IsReturnPart : Bool → Statement → Tokens → Tokens → Type 0
  IsReturnPart =
      Then (Whole (KeywordAt word.Return)) (λ at.
      Either (EndsWith sign_of.Semicolon (Return at None)) (Then (IsExpressionAt d) (λ e. EndsWith sign_of.Semicolon (Return at (Some e)))))

  return_exact : Exact Anything IsReturnPart ends (returned_by expr)
  unfolding returned_by
  return_exact =
      read_closed (keyword_exact word.Return) (λ at.
      choose_on (is_sign sign_of.Semicolon)
      (end_with sign_of.Semicolon (Return at None) ends)
      (read_on each (λ e. end_with sign_of.Semicolon (Return at (Some e)) ends) (λ b e s mid to w h. semicolon_stops mid to w.1))
      (λ b s from to w. rw w.1.1.1 refl)
      (λ b s from to w h. begins_stops begins_unary (is_sign sign_of.Semicolon) unary_no_semicolon from (expression_begins w.0 from w.1 w.2.0)))

  abbrev IsRunPart : Bool → Statement → Tokens → Tokens → Type 0
  IsRunPart =
      Then (IsExpressionAt d) (λ first.
      Either (BehindSign sign_of.Exchange (Then (IsExpressionAt d) (λ second. EndsWith sign_of.Semicolon (Exchange first second))))
      (EndsWith sign_of.Semicolon (Run first)))

  run_exact : Exact Anything IsRunPart ends (run_by expr)
  unfolding run_by
  run_exact =
      read_on each
      (λ first.
      choose_on (is_sign sign_of.Exchange)
      (sign_then sign_of.Exchange
      (read_on each (λ second. end_with sign_of.Semicolon (Exchange first second) ends) (λ b e s mid to w h. semicolon_stops mid to w.1)))
      (end_with sign_of.Semicolon (Run first) ends)
      (λ b s from to w. rw w.1.1.1 refl)
      (λ b s from to w h. rw w.1.1.1 refl))
      (λ b e s mid to w h. elim w [ inl v ↦ rw v.1.1.1 refl | inr v ↦ rw v.1.1.1 refl ])

  abbrev IsEmptyPart : Bool → Statement → Tokens → Tokens → Type 0
  IsEmptyPart = Made Empty (Whole (SignAt sign_of.Semicolon))

  abbrev IsBreakPart : Bool → Statement → Tokens → Tokens → Type 0
  IsBreakPart = Made Break (Whole (IsWord word.Break))

  abbrev IsContinuePart : Bool → Statement → Tokens → Tokens → Type 0
  IsContinuePart = Made Continue (Whole (IsWord word.Continue))

  abbrev IsUfreePart : Bool → Statement → Tokens → Tokens → Type 0
  IsUfreePart = Made (λ x. FreeUnique x.0 x.1) (Whole (IsFreed word.Ufree))

  abbrev IsFreeKeyPart : Bool → Statement → Tokens → Tokens → Type 0
  IsFreeKeyPart = Made (λ x. FreeKey x.0 x.1) (Whole (IsFreed word.FreeUkey))

  -- ---- one or the other, by the first token: those of a number or a greater one

  abbrev From9 : Bool → Statement → Tokens → Tokens → Type 0
  From9 = Either IsFreeKeyPart IsRunPart

  abbrev From8 : Bool → Statement → Tokens → Tokens → Type 0
  From8 = Either IsUfreePart From9

  abbrev From7 : Bool → Statement → Tokens → Tokens → Type 0
  From7 = Either IsReturnPart From8

  abbrev From6 : Bool → Statement → Tokens → Tokens → Type 0
  From6 = Either IsContinuePart From7

  abbrev From5 : Bool → Statement → Tokens → Tokens → Type 0
  From5 = Either IsBreakPart From6

  abbrev pub IsSimplePart : Bool → Statement → Tokens → Tokens → Type 0
  IsSimplePart = Either IsEmptyPart From5

  run_leads : (b : Bool) (s : Statement) (from to : Tokens) → IsRunPart b s from to → Leads 10 from
  run_leads b s from to w = unary_leads from (expression_begins w.0 from w.1 w.2.0)

  leads9 : (b : Bool) (s : Statement) (from to : Tokens) → From9 b s from to → Leads 9 from
  leads9 b s from to (inl w) = (_, _, w.2.2.1, omega arith)
  leads9 b s from to (inr w) = leads_less 9 from (run_leads b s from to w)

  leads8 : (b : Bool) (s : Statement) (from to : Tokens) → From8 b s from to → Leads 8 from
  leads8 b s from to (inl w) = (_, _, w.2.2.1, omega arith)
  leads8 b s from to (inr w) = leads_less 8 from (leads9 b s from to w)

  leads7 : (b : Bool) (s : Statement) (from to : Tokens) → From7 b s from to → Leads 7 from
  leads7 b s from to (inl w) = (_, _, w.2.1, omega arith)
  leads7 b s from to (inr w) = leads_less 7 from (leads8 b s from to w)

  leads6 : (b : Bool) (s : Statement) (from to : Tokens) → From6 b s from to → Leads 6 from
  leads6 b s from to (inl w) = (_, _, w.2.1.1, omega arith)
  leads6 b s from to (inr w) = leads_less 6 from (leads7 b s from to w)

  leads5 : (b : Bool) (s : Statement) (from to : Tokens) → From5 b s from to → Leads 5 from
  leads5 b s from to (inl w) = (_, _, w.2.1.1, omega arith)
  leads5 b s from to (inr w) = leads_less 5 from (leads6 b s from to w)

  pub simple_leads : (b : Bool) (s : Statement) (from to : Tokens) → IsSimplePart b s from to → Leads 4 from
  simple_leads b s from to (inl w) = (_, _, w.2.1, omega arith)
  simple_leads b s from to (inr w) = leads_less 4 from (leads5 b s from to w)

  pub simple_exact : Exact Anything IsSimplePart ends (simple_by expr)
  unfolding simple_by
  simple_exact =
      choose_on (is_sign sign_of.Semicolon) (make_closed Empty ends (sign_exact sign_of.Semicolon))
      (choose_on (is_keyword word.Break) (make_closed Break ends (word_exact word.Break))
      (choose_on (is_keyword word.Continue) (make_closed Continue ends (word_exact word.Continue))
      (choose_on (is_keyword word.Return) return_exact
      (choose_on (is_keyword word.Ufree) (make_closed (λ x. FreeUnique x.0 x.1) ends (freed_exact word.Ufree))
      (choose_on (is_keyword word.FreeUkey) (make_closed (λ x. FreeKey x.0 x.1) ends (freed_exact word.FreeUkey)) run_exact
      (λ b s from to w. rw w.2.2.1 refl)
      (λ b s from to w h. leads_past (is_keyword word.FreeUkey) 10 past_free_key from (run_leads b s from to w)))
      (λ b s from to w. rw w.2.2.1 refl)
      (λ b s from to w h. leads_past (is_keyword word.Ufree) 9 past_ufree from (leads9 b s from to w)))
      (λ b s from to w. rw w.2.1 refl)
      (λ b s from to w h. leads_past (is_keyword word.Return) 8 past_return from (leads8 b s from to w)))
      (λ b s from to w. rw w.2.1.1 refl)
      (λ b s from to w h. leads_past (is_keyword word.Continue) 7 past_continue from (leads7 b s from to w)))
      (λ b s from to w. rw w.2.1.1 refl)
      (λ b s from to w h. leads_past (is_keyword word.Break) 6 past_break from (leads6 b s from to w)))
      (λ b s from to w. rw w.2.1 refl)
      (λ b s from to w h. leads_past (is_sign sign_of.Semicolon) 5 past_empty from (leads5 b s from to w))

  pub simple_into : (b : Bool) (s : Statement) (from to : Tokens) → IsSimplePart b s from to → IsStatementAt (suc d) b s from to
  simple_into b s from to (inl w) = subst (λ (y : Statement). IsStatementAt (suc d) b y from to) (sym w.1) (w.2, within_one b d)
  simple_into b s from to (inr (inl w)) = subst (λ (y : Statement). IsStatementAt (suc d) b y from to) (sym w.1) (w.2, within_one b d)
  simple_into b s from to (inr (inr (inl w))) = subst (λ (y : Statement). IsStatementAt (suc d) b y from to) (sym w.1) (w.2, within_one b d)
  simple_into b s from to (inr (inr (inr (inl (at, a, h, inl w))))) =
      subst (λ (y : Statement). IsStatementAt (suc d) b y from to) (sym w.0) ((a, h, w.1), within_one b d)
  simple_into b s from to (inr (inr (inr (inl (at, a, h, inr (e, c, he, w)))))) =
      subst (λ (y : Statement). IsStatementAt (suc d) b y from to) (sym w.0) ((a, h, (c, he.0, w.1)), within_up b d _ he.1)
  simple_into b s from to (inr (inr (inr (inr (inl w))))) =
      subst (λ (y : Statement). IsStatementAt (suc d) b y from to) (sym w.1) (w.2, within_one b d)
  simple_into b s from to (inr (inr (inr (inr (inr (inl w)))))) =
      subst (λ (y : Statement). IsStatementAt (suc d) b y from to) (sym w.1) (w.2, within_one b d)
  simple_into b s from to (inr (inr (inr (inr (inr (inr (e, a, he, inl w))))))) =
      subst (λ (y : Statement). IsStatementAt (suc d) b y from to) (sym w.2.3.0)
      ((a, w.0, w.2.1, he.0, w.1, w.2.2.0, w.2.3.1), within_up b d _ (within_max b d _ _ he.1 w.2.2.1))
  simple_into b s from to (inr (inr (inr (inr (inr (inr (e, a, he, inr w))))))) =
      subst (λ (y : Statement). IsStatementAt (suc d) b y from to) (sym w.0) ((a, he.0, w.1), within_up b d _ he.1)

  pub simple_closed : (b : Bool) (s : Statement) (from to : Tokens) → IsSimplePart b s from to → ends_open s ≡ false
  simple_closed b s from to (inl w) = rw w.1 refl
  simple_closed b s from to (inr (inl w)) = rw w.1 refl
  simple_closed b s from to (inr (inr (inl w))) = rw w.1 refl
  simple_closed b s from to (inr (inr (inr (inl (at, a, h, inl w))))) = rw w.0 refl
  simple_closed b s from to (inr (inr (inr (inl (at, a, h, inr (e, c, he, w)))))) = rw w.0 refl
  simple_closed b s from to (inr (inr (inr (inr (inl w))))) = rw w.1 refl
  simple_closed b s from to (inr (inr (inr (inr (inr (inl w)))))) = rw w.1 refl
  simple_closed b s from to (inr (inr (inr (inr (inr (inr (e, a, he, inl w))))))) = rw w.2.3.0 refl
  simple_closed b s from to (inr (inr (inr (inr (inr (inr (e, a, he, inr w))))))) = rw w.0 refl
