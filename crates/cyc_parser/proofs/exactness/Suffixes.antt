-- The reader of suffixes is exact.
use Rattle.std.proofs.Common.{◌≡◌, ℕ, max, ◌||◌, Bool, true, false, List, [], ◌∷◌, Option, None, refl, sym, ap, subst, ◌∙◌, arith, inl, inr}
use Rattle.std.proofs.lemmas.Bool.{true≢false}
use Rattle.cyc_lexer.specs.Lexing.{Token}
use Rattle.cyc_lexer.specs.declared.token.Sign.{Sign}
use Rattle.cyc_lexer.specs.declared.token.Sign.TheVariants as sign_of
use Rattle.cyc_lexer.specs.declared.token.TokenKind.{TokenKind}
use Rattle.cyc_lexer.specs.declared.token.TokenKind.TheVariants as kind
use Rattle.cyc_tree.specs.Tree.{Name, Expression, Suffixes, NoSuffixes, Index, Dot, Arrow}
use Rattle.cyc_tree.specs.View.{OneSuffix, suffixes_of}
use Rattle.cyc_tree.proofs.PartNesting.{expression_nesting, suffix_nesting}
use Rattle.source_grammar.specs.Phrases.{Tokens, SignAt, IsSign, IsName}
use Rattle.source_grammar.specs.ExpressionGrammar.{AreSuffixes, unary_level}
use Rattle.cyc_parser.specs.Tests.{continues, is_sign, begins_suffix}
use Rattle.cyc_parser.specs.Reader.{Outcome, done, read, many, sign, next_is}
use Rattle.cyc_parser.specs.ReadTypes.{name}
use Rattle.cyc_parser.specs.ReadExpressions.{suffix_by, suffixes_by, with_member}
use Rattle.cyc_parser.specs.Exact.{nowhere, Exact, Anything, Phrase, Within, Whole, Then, Either, Rows, ends, always}
use Rattle.cyc_parser.proofs.Exact.{exact_as, exact_wider, many_exact, restrict_exact, exact_on}
use Rattle.cyc_parser.proofs.exactness.Types.{sign_exact, name_exact}
use Rattle.cyc_parser.proofs.exactness.Composed.{then_exact, either_exact, begins_with}
use Rattle.cyc_parser.proofs.exactness.Operands.{IsExpressionAt, Made, made_of, within_always, within_both, within}
use Rattle.cyc_parser.proofs.exactness.Primaries.{Between, between_exact}

-- suffixes that begin with no `.`, and tokens that do so
abbrev pub NoDot : List OneSuffix → Type 0
NoDot (OneSuffix.Dot m ∷ xs) = ⊥
NoDot _ = Unit {0}

abbrev pub NoDotNext : Tokens → Type 0
NoDotNext ts = Anything ts × (next_is (is_sign sign_of.Dot) ts ≡ false)

module _ (d : ℕ) (expr : Tokens → Outcome Expression) (inner : Exact Anything (IsExpressionAt d) (always (continues 0)) expr) where
  -- ---- one suffix

  abbrev pub IsSuffix : Bool → OneSuffix → Tokens → Tokens → Type 0
  IsSuffix b (OneSuffix.Index e) from to =
      (a : Tokens) × (c : Tokens) × IsSign sign_of.LeftBracket from a × IsExpressionAt d b e a c × IsSign sign_of.RightBracket c to
  IsSuffix b (OneSuffix.Dot m) from to = (a : Tokens) × IsSign sign_of.Dot from a × IsName m a to
  IsSuffix b (OneSuffix.Arrow m) from to = (a : Tokens) × IsSign sign_of.Arrow from a × IsName m a to

  abbrev IndexRead : Bool → OneSuffix → Tokens → Tokens → Type 0
  IndexRead = Between d expr inner sign_of.LeftBracket sign_of.RightBracket (λ at e. OneSuffix.Index e)

  abbrev MemberRead : Sign → (Name → OneSuffix) → Bool → OneSuffix → Tokens → Tokens → Type 0
  MemberRead s f = Then (Whole (SignAt s)) (λ (at : ℕ). Made f (Whole IsName))

  abbrev SuffixRead : Bool → OneSuffix → Tokens → Tokens → Type 0
  SuffixRead = Either IndexRead (Either (MemberRead sign_of.Dot OneSuffix.Dot) (MemberRead sign_of.Arrow OneSuffix.Arrow))

  member_exact : (s : Sign) (f : Name → OneSuffix) → Exact Anything (MemberRead s f) ends (read (sign s) (λ _. read name (λ m. done (f m))))
  member_exact s f =
      then_exact (Whole (SignAt s)) (sign s) (sign_exact s) (λ (at : ℕ). Made f (Whole IsName)) ends (λ _. read name (λ m. done (f m)))
      (λ at. made_of (Whole IsName) ends name name_exact f ends (λ m k h. h))

  suffix_into : (b : Bool) (x : OneSuffix) (from to : Tokens) → SuffixRead b x from to → IsSuffix b x from to
  suffix_into b x from to (inl h) =
      let i = h.3 in
      subst (λ y. IsSuffix b y from to) (sym i.3.1) (h.1, i.1, (h.0, h.2), i.2, (i.3.0, i.3.2))
  suffix_into b x from to (inr (inl h)) = subst (λ y. IsSuffix b y from to) (sym h.3.1) (h.1, (h.0, h.2), h.3.2)
  suffix_into b x from to (inr (inr h)) = subst (λ y. IsSuffix b y from to) (sym h.3.1) (h.1, (h.0, h.2), h.3.2)

  suffix_back : (b : Bool) (x : OneSuffix) (from to : Tokens) → IsSuffix b x from to → SuffixRead b x from to
  suffix_back b (OneSuffix.Index e) from to h = inl (h.2.0, h.0, h.2.1, (e, h.1, h.3, (h.4.0, refl, h.4.1)))
  suffix_back b (OneSuffix.Dot m) from to h = inr (inl (h.1.0, h.0, h.1.1, (m, refl, h.2)))
  suffix_back b (OneSuffix.Arrow m) from to h = inr (inr (h.1.0, h.0, h.1.1, (m, refl, h.2)))

  pub suffix_exact : Exact Anything IsSuffix ends (suffix_by expr)
  unfolding suffix_by
  suffix_exact =
      exact_as Anything SuffixRead ends _
      (either_exact (is_sign sign_of.LeftBracket) ends IndexRead _
      (between_exact d expr inner sign_of.LeftBracket sign_of.RightBracket (λ at e. OneSuffix.Index e) refl)
      (Either (MemberRead sign_of.Dot OneSuffix.Dot) (MemberRead sign_of.Arrow OneSuffix.Arrow)) _
      (either_exact (is_sign sign_of.Dot) ends (MemberRead sign_of.Dot OneSuffix.Dot) _ (member_exact sign_of.Dot OneSuffix.Dot)
      (MemberRead sign_of.Arrow OneSuffix.Arrow) _ (member_exact sign_of.Arrow OneSuffix.Arrow)
      (λ b x from to h. begins_with (is_sign sign_of.Dot) from _ _ h.2.1 refl)
      (λ b x from to h g. ap (next_is (is_sign sign_of.Dot)) h.2.1))
      (λ b x from to h. begins_with (is_sign sign_of.LeftBracket) from _ _ h.2.1 refl)
      (λ b x from to h g. elim h [
        | inl w ↦ ap (next_is (is_sign sign_of.LeftBracket)) w.2.1
        | inr w ↦ ap (next_is (is_sign sign_of.LeftBracket)) w.2.1
      ]))
      IsSuffix suffix_into suffix_back

  -- what begins a suffix, for a test on signs
  pub suffix_next : (test : TokenKind → Bool) (t : Bool) → test (kind.Sign sign_of.LeftBracket) ≡ t → test (kind.Sign sign_of.Dot) ≡ t
      → test (kind.Sign sign_of.Arrow) ≡ t
      → (b : Bool) (x : OneSuffix) (from to : Tokens) → IsSuffix b x from to → next_is test from ≡ t
  suffix_next test t bracket dot arrow b (OneSuffix.Index e) from to h = ap (next_is test) h.2.1.1 ∙ bracket
  suffix_next test t bracket dot arrow b (OneSuffix.Dot m) from to h = ap (next_is test) h.1.1.1 ∙ dot
  suffix_next test t bracket dot arrow b (OneSuffix.Arrow m) from to h = ap (next_is test) h.1.1.1 ∙ arrow

  -- ---- all of them

  pub suffix_wider : (k : TokenKind) → (begins_suffix k || false) ≡ true → continues unary_level k ≡ true
  suffix_wider (kind.Sign sign_of.LeftBracket) h = refl
  suffix_wider (kind.Sign sign_of.Dot) h = refl
  suffix_wider (kind.Sign sign_of.Arrow) h = refl
  suffix_wider _ h = absurd cc

  pub rows_exact : Exact Anything (Rows IsSuffix) (always (continues unary_level)) (many begins_suffix (suffix_by expr))
  rows_exact =
      exact_wider Anything (Rows IsSuffix) (always (λ k. begins_suffix k || false)) (always (continues unary_level))
      (many begins_suffix (suffix_by expr))
      (many_exact begins_suffix IsSuffix ends (suffix_by expr) suffix_exact (suffix_next begins_suffix true refl refl refl) (λ x k h. refl)
      (λ k. false) (λ x k h. h))
      (λ xs. suffix_wider)

  pub suffixes_into : (b : Bool) (xs : List OneSuffix) (from to : Tokens) → Rows IsSuffix b xs from to
      → AreSuffixes (suffixes_of xs) from to × Within b d (suffix_nesting (suffixes_of xs))
  suffixes_into b [] from to h = (h, within_always b d 0 (omega arith))
  suffixes_into b (OneSuffix.Index e ∷ xs) from to h =
      let r = suffixes_into b xs h.0 to h.2 in
      let i = h.1 in (
        (i.0, i.1, h.0, i.2, i.3.0, i.4, r.0),
        within_both b d (expression_nesting e) d (suffix_nesting (suffixes_of xs)) d (max (expression_nesting e) (suffix_nesting (suffixes_of xs)))
            (λ k l. omega (arith, k, l)) i.3.1 r.1,
      )
  suffixes_into b (OneSuffix.Dot m ∷ xs) from to h = let r = suffixes_into b xs h.0 to h.2 in ((h.1.0, h.0, h.1.1, h.1.2, r.0), r.1)
  suffixes_into b (OneSuffix.Arrow m ∷ xs) from to h = let r = suffixes_into b xs h.0 to h.2 in ((h.1.0, h.0, h.1.1, h.1.2, r.0), r.1)

  pub suffixes_back : (b : Bool) (ss : Suffixes) (from to : Tokens) → AreSuffixes ss from to → Within b d (suffix_nesting ss)
      → (xs : List OneSuffix) × (ss ≡ suffixes_of xs) × Rows IsSuffix b xs from to
  suffixes_back b NoSuffixes from to h w = ([], refl, h)
  suffixes_back b (Index e ss) from to h w =
      let all = max (expression_nesting e) (suffix_nesting ss) in
      let r = suffixes_back b ss h.2 to h.6 (within b d all d (suffix_nesting ss) (λ g. omega (arith, g)) w) in (
        OneSuffix.Index e ∷ r.0,
        ap (Index e) r.1,
        (h.2, (h.0, h.1, h.3, (h.4, within b d all d (expression_nesting e) (λ g. omega (arith, g)) w), h.5), r.2),
      )
  suffixes_back b (Dot m ss) from to h w =
      let r = suffixes_back b ss h.1 to h.4 w in (OneSuffix.Dot m ∷ r.0, ap (Dot m) r.1, (h.1, (h.0, h.2, h.3), r.2))
  suffixes_back b (Arrow m ss) from to h w =
      let r = suffixes_back b ss h.1 to h.4 w in (OneSuffix.Arrow m ∷ r.0, ap (Arrow m) r.1, (h.1, (h.0, h.2, h.3), r.2))

  -- ---- behind a member that may have been read

  abbrev pub Behind : Option Name → Bool → List OneSuffix → Tokens → Tokens → Type 0
  Behind member = Made (with_member member) (Rows IsSuffix)

  pub behind_exact : (member : Option Name) → Exact Anything (Behind member) (always (continues unary_level)) (suffixes_by expr member)
  unfolding suffixes_by
  behind_exact member =
      made_of (Rows IsSuffix) (always (continues unary_level)) (many begins_suffix (suffix_by expr)) rows_exact (with_member member)
      (always (continues unary_level)) (λ xs k h. h)

  -- ---- where no `.` is next

  rows_no_dot : (b : Bool) (xs : List OneSuffix) (t : Token) (rest to : Tokens) → Rows IsSuffix b xs (t ∷ rest) to
      → is_sign sign_of.Dot t.kind ≡ false → NoDot xs
  rows_no_dot b (OneSuffix.Dot m ∷ xs) t rest to h fails =
      absurd (true≢false (sym (begins_with (is_sign sign_of.Dot) (t ∷ rest) _ _ h.1.1.1.1 refl) ∙ fails))
  rows_no_dot b _ t rest to h fails = tt

  abbrev pub BehindNoDot : Bool → List OneSuffix → Tokens → Tokens → Type 0
  BehindNoDot b xs from to = Behind None b xs from to × NoDot xs

  none_behind : Phrase (λ xs from to. Behind None false xs from to × NoDot xs)
  none_behind = record { tree = []; tokens = []; made_up = tt; is = λ more. (([], refl, refl), tt) }

  pub no_dot_exact : Exact NoDotNext BehindNoDot (always (continues unary_level)) (suffixes_by expr None)
  no_dot_exact =
      restrict_exact Anything (is_sign sign_of.Dot) (Behind None) (always (continues unary_level)) (suffixes_by expr None)
      (exact_on Anything NoDotNext (Behind None) (always (continues unary_level)) (suffixes_by expr None) (behind_exact None) (λ ts h. tt)) NoDot
      (λ b xs t rest to h fails. subst NoDot (sym h.1) (rows_no_dot b h.0 t rest to h.2 fails))
      (record { kind = kind.Text; at = nowhere; text = [] }) refl none_behind
