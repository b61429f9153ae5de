-- The readers of `if` and `while` are exact, and none stops before an `else` that its tree would take.
use Rattle.std.proofs.Common.{◌≡◌, ◌⊎◌, ◌&&◌, ℕ, suc, max, Bool, true, false, [], ◌∷◌, Ok, Err, refl, sym, subst, ◌∙◌, inl, inr}
use Rattle.std.proofs.lemmas.Bool.{cases_Bool}
use Rattle.cyc_lexer.specs.declared.token.Keyword.TheVariants as word
use Rattle.cyc_tree.specs.Tree.{Expression, Statement, If, IfElse, While}
use Rattle.cyc_tree.proofs.PartNesting.{expression_nesting, statement_nesting}
use Rattle.cyc_parser.specs.declared.fault.ParseFault.{ParseFault}
use Rattle.cyc_parser.specs.declared.fault.ParseFault.TheVariants.{Parse, TooDeep, Memory}
use Rattle.source_grammar.specs.Phrases.{Tokens, KeywordAt}
use Rattle.source_grammar.specs.StatementGrammar.{IsStatement, ends_open}
use Rattle.cyc_parser.specs.Tests.{is_keyword}
use Rattle.cyc_parser.specs.Reader.{Outcome, done, read, next_is, keyword}
use Rattle.cyc_parser.specs.ReadExpressions.{Reads, parenthesized_by}
use Rattle.cyc_parser.specs.ReadStatements.{otherwise_by, conditional_by, repeated_by}
use Rattle.cyc_parser.specs.Exact.{Found, Exact, Stops, Anything, ends, Whole, Within, IsDone, Then, Either}
use Rattle.cyc_parser.proofs.Exact.{read_exact, exact_as, exact_on, exact_wider, done_exact}
use Rattle.cyc_parser.proofs.exactness.Parts.{bind_ok, no_fault, ok_is, stops_wider}
use Rattle.cyc_parser.proofs.exactness.Choice.{choose_first, choose_second}
use Rattle.cyc_parser.proofs.exactness.Types.{keyword_exact}
use Rattle.cyc_parser.proofs.exactness.Expressions.{IsParenthesizedAt}
use Rattle.cyc_parser.proofs.StatementsWithin.{takes_else_at, IsStatementAt, takes_else, within_up, within_down, within_max, within_left, within_right}
use Rattle.cyc_parser.proofs.exactness.Unguarded.{read_closed, BehindKeyword, keyword_then, choose_on, Made, make_on}

-- ---- steps that were read

read_ok : {A B : Type 0} (p : Tokens → Outcome A) (q : A → Tokens → Outcome B) (ts : Tokens) (y : B × Tokens) → read p q ts ≡ Ok y
    → (x : A × Tokens) × (p ts ≡ Ok x) × (q x.0 x.1 ≡ Ok y)
read_ok p q ts y e = bind_ok (p ts) (λ x. q x.0 x.1) y e

-- ---- `else`

-- an `else` would go on with a statement that ends open
open_stops : (s : Statement) → ends_open s ≡ true → (ts : Tokens) → Stops (takes_else s) ts → next_is (is_keyword word.Else) ts ≡ false
open_stops s opens ts h = stops_wider (is_keyword word.Else) (takes_else s) (λ k e. rw opens e) ts h

-- where no `else` stands, each statement stops
pub else_stops : (s : Statement) (ts : Tokens) → next_is (is_keyword word.Else) ts ≡ false → Stops (takes_else s) ts
else_stops s ts h = stops_wider (takes_else s) (is_keyword word.Else) (λ k e. takes_else_at s k e) ts h

pub shut_stops : (s : Statement) → ends_open s ≡ false → (ts : Tokens) → Stops (takes_else s) ts
shut_stops s shut [] = refl
shut_stops s shut (t ∷ ts) = rw shut refl

module _ (d : ℕ) (stmt : Reads Statement) (inner : Exact Anything (IsStatementAt d) takes_else stmt) where
  -- ---- behind the statement of an `if`

  module _ (at : ℕ) (condition : Expression) (body : Statement) where
    abbrev IsElsePart : Bool → Statement → Tokens → Tokens → Type 0
    IsElsePart = BehindKeyword word.Else (Made (IfElse at condition body) (IsStatementAt d))

    abbrev IsOtherwise : Bool → Statement → Tokens → Tokens → Type 0
    IsOtherwise b s from to = ((ends_open body ≡ false) × IsElsePart b s from to) ⊎ IsDone (If at condition body) b s from to

    shut_exact : ends_open body ≡ false → Exact Anything IsOtherwise takes_else (otherwise_by stmt at condition body)
    unfolding otherwise_by
    shut_exact shut =
        exact_as Anything (Either IsElsePart (IsDone (If at condition body))) takes_else _
        (choose_on (is_keyword word.Else)
        (keyword_then word.Else (make_on (IfElse at condition body) takes_else inner (λ s k h. h)))
        (exact_wider Anything (IsDone (If at condition body)) ends takes_else _ (done_exact (If at condition body)) (λ s k h. absurd cc))
        (λ b s from to w. rw w.1.1.1 refl)
        (λ b s from to w h. rw w.1 (open_stops s (rw w.0 refl) to h)))
        IsOtherwise
        (λ b s from to w. elim w [ inl v ↦ inl (shut, v) | inr v ↦ inr v ])
        (λ b s from to w. elim w [ inl v ↦ inl v.1 | inr v ↦ inr v ])

    module _ (opens : ends_open body ≡ true) where
      open_reads : (ts : Tokens) → next_is (is_keyword word.Else) ts ≡ false → otherwise_by stmt at condition body ts ≡ Ok (If at condition body, ts)
      unfolding otherwise_by
      open_reads ts h = rw h refl

      open_sound : (ts : Tokens) (s : Statement) (rest : Tokens) → Stops (takes_else body) ts → otherwise_by stmt at condition body ts ≡ Ok (s, rest)
          → Found (IsOtherwise true) (otherwise_by stmt at condition body) ts s rest
      open_sound ts s rest guard e =
          let stops : next_is (is_keyword word.Else) ts ≡ false = open_stops body opens ts guard in
          let same : (If at condition body, ts) ≡ (s, rest) = ok_is (If at condition body, ts) (s, rest) (sym (open_reads ts stops) ∙ e) in
          subst (λ (y : Statement × Tokens). Found (IsOtherwise true) (otherwise_by stmt at condition body) ts y.0 y.1) same (record {
            taken = [];
            parts = refl;
            is = λ more. inr (refl, refl);
            kept = λ t others after h.
                let next : next_is (is_keyword word.Else) (t ∷ others) ≡ false =
                subst (λ (x : Tokens). next_is (is_keyword word.Else) x ≡ false) h stops in
                open_reads (t ∷ after) next;
          })

      open_again : (b : Bool) (s : Statement) (from to : Tokens) → IsOtherwise b s from to → Stops (takes_else s) to
          → otherwise_by stmt at condition body from ≡ Ok (s, to)
      open_again b s from to (inl w) h = absurd (let no : true ≡ false = sym opens ∙ w.0 in cc)
      open_again b s from to (inr w) h = rw (w.1, w.0) (open_reads to (open_stops s (rw w.0 refl) to h))

      never_fails : (ts : Tokens) (fault : ParseFault) → Stops (takes_else body) ts → otherwise_by stmt at condition body ts ≡ Err fault → ⊥
      never_fails ts fault guard e =
          no_fault (If at condition body, ts) fault (sym (open_reads ts (open_stops body opens ts guard)) ∙ e)

      open_exact : Exact (Stops (takes_else body)) IsOtherwise takes_else (otherwise_by stmt at condition body)
      open_exact = record {
        sound = open_sound;
        of_any = λ s from to w. elim w [ inl v ↦ absurd (let no : true ≡ false = sym opens ∙ v.0 in cc) | inr v ↦ inr v ];
        again = λ s from to w h. open_again true s from to w h;
        never = λ s from to w h. inl (open_again false s from to w h);
        refused = λ ts place guard e. absurd (never_fails ts (Parse place) guard e);
        deepened = λ ts place guard e. absurd (never_fails ts (TooDeep place) guard e);
        enough = λ ts guard e. never_fails ts Memory guard e;
        some = record { tree = If at condition body; tokens = []; made_up = tt; is = λ more. inr (refl, refl) };
      }

    otherwise_exact : Exact (Stops (takes_else body)) IsOtherwise takes_else (otherwise_by stmt at condition body)
    otherwise_exact = elim (cases_Bool (ends_open body)) [
      | inl opens ↦ open_exact opens
      | inr shut ↦ exact_on Anything (Stops (takes_else body)) IsOtherwise takes_else _ (shut_exact shut) (λ ts h. tt)
    ]

    otherwise_meets : (b : Bool) (s : Statement) (mid to : Tokens) → IsOtherwise b s mid to → Stops (takes_else s) to → Stops (takes_else body) mid
    otherwise_meets b s mid to (inl w) h = shut_stops body w.0 mid
    otherwise_meets b s mid to (inr w) h = rw w.1 (else_stops body to (open_stops s (rw w.0 refl) to h))

  module _ (expr : Reads Expression) (inside : Exact Anything (IsParenthesizedAt d) ends (parenthesized_by expr))
      (closed : (ts : Tokens) (s : Statement) (rest : Tokens) → stmt ts ≡ Ok (s, rest) → Stops (takes_else s) rest) where
    -- ---- `if`

    abbrev pub IsIfPart : Bool → Statement → Tokens → Tokens → Type 0
    IsIfPart =
        Then (Whole (KeywordAt word.If)) (λ at. Then (IsParenthesizedAt d) (λ condition.
        Then (IsStatementAt d) (λ body. IsOtherwise at condition body)))

    pub if_exact : Exact Anything IsIfPart takes_else (conditional_by expr stmt)
    unfolding conditional_by
    if_exact =
        read_closed (keyword_exact word.If) (λ at. read_closed inside (λ condition.
        read_exact Anything (IsStatementAt d) takes_else stmt inner (λ body. Stops (takes_else body))
        (IsOtherwise at condition) takes_else (otherwise_by stmt at condition) (otherwise_exact at condition)
        (λ ts body mid guard e. closed ts body mid e) (λ b body s mid to w h. otherwise_meets at condition body b s mid to w h)))

    pub if_into : (b : Bool) (s : Statement) (from to : Tokens) → IsIfPart b s from to → IsStatementAt (suc d) b s from to
    if_into b s from to (at, a, h, (condition, c, hc, (body, m, hb, inl (shut, (n, k, (other, same, ho)))))) =
        subst (λ (y : Statement). IsStatementAt (suc d) b y from to) (sym same)
        ((a, c, m, n, h, hc.0, hb.0, shut, k, ho.0), within_up b d _ (within_max b d _ _ hc.1 (within_max b d _ _ hb.1 ho.1)))
    if_into b s from to (at, a, h, (condition, c, hc, (body, m, hb, inr w))) =
        subst (λ (y : Statement). IsStatementAt (suc d) b y from to) (sym w.0)
        ((a, c, h, hc.0, subst (λ (x : Tokens). IsStatement body c x) w.1 hb.0), within_up b d _ (within_max b d _ _ hc.1 hb.1))

    pub if_back : (b : Bool) (at : ℕ) (condition : Expression) (body : Statement) (from to : Tokens)
        → IsStatementAt (suc d) b (If at condition body) from to → IsIfPart b (If at condition body) from to
    if_back b at condition body from to w =
        let nests : Within b d (max (expression_nesting condition) (statement_nesting body)) = within_down b d _ w.1 in
        (at, w.0.0, w.0.2, (condition, w.0.1, (w.0.3, within_left b d _ _ nests), (body, to, (w.0.4, within_right b d _ _ nests), inr (refl, refl))))

    pub else_back : (b : Bool) (at : ℕ) (condition : Expression) (body otherwise : Statement) (from to : Tokens)
        → IsStatementAt (suc d) b (IfElse at condition body otherwise) from to → IsIfPart b (IfElse at condition body otherwise) from to
    else_back b at condition body otherwise from to w =
        let v = w.0 in
        let most : Within b d (max (expression_nesting condition) (max (statement_nesting body) (statement_nesting otherwise))) =
        within_down b d _ w.1 in
        let both : Within b d (max (statement_nesting body) (statement_nesting otherwise)) = within_right b d _ _ most in
        let behind : IsOtherwise at condition body b (IfElse at condition body otherwise) v.2 to =
        inl (v.7, (v.3, v.8, (otherwise, refl, (v.9, within_right b d _ _ both)))) in
        (at, v.0, v.4, (condition, v.1, (v.5, within_left b d _ _ most), (body, v.2, (v.6, within_left b d _ _ both), behind)))

    -- ---- `while`

    abbrev pub IsWhilePart : Bool → Statement → Tokens → Tokens → Type 0
    IsWhilePart = Then (Whole (KeywordAt word.While)) (λ at. Then (IsParenthesizedAt d) (λ condition. Made (While at condition) (IsStatementAt d)))

    pub while_exact : Exact Anything IsWhilePart takes_else (repeated_by expr stmt)
    unfolding repeated_by
    while_exact =
        read_closed (keyword_exact word.While) (λ at. read_closed inside (λ condition. make_on (While at condition) takes_else inner (λ s k h. h)))

    pub while_into : (b : Bool) (s : Statement) (from to : Tokens) → IsWhilePart b s from to → IsStatementAt (suc d) b s from to
    while_into b s from to (at, a, h, (condition, c, hc, (body, same, hb))) =
        subst (λ (y : Statement). IsStatementAt (suc d) b y from to) (sym same)
        ((a, c, h, hc.0, hb.0), within_up b d _ (within_max b d _ _ hc.1 hb.1))

    pub while_back : (b : Bool) (at : ℕ) (condition : Expression) (body : Statement) (from to : Tokens)
        → IsStatementAt (suc d) b (While at condition body) from to → IsWhilePart b (While at condition body) from to
    while_back b at condition body from to w =
        let nests : Within b d (max (expression_nesting condition) (statement_nesting body)) = within_down b d _ w.1 in
        (at, w.0.0, w.0.2, (condition, w.0.1, (w.0.3, within_left b d _ _ nests), (body, refl, (w.0.4, within_right b d _ _ nests))))

    -- ---- what was read stops

    made_stops : (f : Statement → Statement) → ((s : Statement) → ends_open (f s) ≡ ends_open s) → (ts : Tokens) (s : Statement) (rest : Tokens)
        → read stmt (λ x. done (f x)) ts ≡ Ok (s, rest) → Stops (takes_else s) rest
    made_stops f keeps ts s rest e =
        let x : (x : Statement × Tokens) × (stmt ts ≡ Ok x) × (done (f x.0) x.1 ≡ Ok (s, rest)) = read_ok stmt (λ x. done (f x)) ts (s, rest) e in
        let same : (f x.0.0, x.0.1) ≡ (s, rest) = ok_is (f x.0.0, x.0.1) (s, rest) x.2 in
        let stops : Stops (takes_else x.0.0) x.0.1 = closed ts x.0.0 x.0.1 x.1 in
        subst (λ (y : Statement × Tokens). Stops (takes_else y.0) y.1) same
        (subst (λ (o : Bool). next_is (λ k. o && is_keyword word.Else k) x.0.1 ≡ false) (sym (keeps x.0.0)) stops)

    -- what reads `else` and its statement, and what reads from the condition on
    abbrev else_by : ℕ → Expression → Statement → Reads Statement
    else_by at condition body = read (keyword word.Else) (λ _. read stmt (λ x. done (IfElse at condition body x)))

    abbrev body_by : ℕ → Expression → Reads Statement
    body_by at condition = read stmt (λ body. otherwise_by stmt at condition body)

    otherwise_stops : (at : ℕ) (condition : Expression) (body : Statement) (ts : Tokens) (s : Statement) (rest : Tokens)
        → otherwise_by stmt at condition body ts ≡ Ok (s, rest) → Stops (takes_else s) rest
    unfolding otherwise_by
    otherwise_stops at condition body ts s rest e = by (next_is (is_keyword word.Else) ts) refl
      where
        by : (v : Bool) → next_is (is_keyword word.Else) ts ≡ v → Stops (takes_else s) rest
        by true h =
            let chosen : else_by at condition body ts ≡ Ok (s, rest) =
            sym (choose_first (is_keyword word.Else) (else_by at condition body) (done (If at condition body)) ts h) ∙ e in
            let x = read_ok (keyword word.Else) (λ _. read stmt (λ y. done (IfElse at condition body y))) ts (s, rest) chosen in
            made_stops (IfElse at condition body) (λ y. refl) x.0.1 s rest x.2
        by false h =
            let chosen : done (If at condition body) ts ≡ Ok (s, rest) =
            sym (choose_second (is_keyword word.Else) (else_by at condition body) (done (If at condition body)) ts h) ∙ e in
            subst (λ (y : Statement × Tokens). Stops (takes_else y.0) y.1) (ok_is (If at condition body, ts) (s, rest) chosen)
            (else_stops (If at condition body) ts h)

    pub if_stops : (ts : Tokens) (s : Statement) (rest : Tokens) → conditional_by expr stmt ts ≡ Ok (s, rest) → Stops (takes_else s) rest
    unfolding conditional_by
    if_stops ts s rest e =
        let x = read_ok (keyword word.If) (λ at. read (parenthesized_by expr) (λ condition. body_by at condition)) ts (s, rest) e in
        let y = read_ok (parenthesized_by expr) (λ condition. body_by x.0.0 condition) x.0.1 (s, rest) x.2 in
        let z = read_ok stmt (λ body. otherwise_by stmt x.0.0 y.0.0 body) y.0.1 (s, rest) y.2 in
        otherwise_stops x.0.0 y.0.0 z.0.0 z.0.1 s rest z.2

    abbrev loop_by : ℕ → Expression → Reads Statement
    loop_by at condition = read stmt (λ body. done (While at condition body))

    pub while_stops : (ts : Tokens) (s : Statement) (rest : Tokens) → repeated_by expr stmt ts ≡ Ok (s, rest) → Stops (takes_else s) rest
    unfolding repeated_by
    while_stops ts s rest e =
        let x = read_ok (keyword word.While) (λ at. read (parenthesized_by expr) (λ condition. loop_by at condition)) ts (s, rest) e in
        let y = read_ok (parenthesized_by expr) (λ condition. loop_by x.0.0 condition) x.0.1 (s, rest) x.2 in
        made_stops (While x.0.0 y.0.0) (λ z. refl) y.0.1 s rest y.2
