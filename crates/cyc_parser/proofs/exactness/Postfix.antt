-- The reader of primary expressions with suffixes is exact.
use Rattle.std.proofs.Common.{◌≡◌, ℕ, suc, ◌≤◌, ◌<◌, ◌||◌, Bool, true, false, List, [], ◌∷◌, ◌++◌, Option, Some, None, Ok, Err, if◌then◌else◌, refl}
use Rattle.std.proofs.Common.{sym, ap, subst, ◌∙◌, arith, inl, inr}
use Rattle.std.proofs.lemmas.Bool.{cases_lt, true≢false}
use Rattle.cyc_lexer.specs.declared.token.Sign.TheVariants as sign_of
use Rattle.cyc_lexer.specs.declared.token.TokenKind.{TokenKind}
use Rattle.cyc_lexer.specs.declared.token.TokenKind.TheVariants as kind
use Rattle.cyc_tree.specs.Tree.{Name, Expression, Variable, Call, MakeUnion, Suffixed, Chain, NoLinks, MoreLinks, Suffixes, NoSuffixes, Index, Dot}
use Rattle.cyc_tree.specs.Tree.{Arrow}
use Rattle.cyc_tree.specs.View.{OneSuffix, suffixes_of, expressions_of}
use Rattle.cyc_tree.proofs.PartNesting.{inner_nesting, suffix_nesting}
use Rattle.source_grammar.specs.Phrases.{Tokens}
use Rattle.source_grammar.specs.ExpressionGrammar.{IsExpression, AreSuffixes, binds, unary_level, primary_level}
use Rattle.cyc_parser.specs.Tests.{continues, is_sign, is_identifier}
use Rattle.cyc_parser.specs.Reader.{Outcome, ◌>>=◌, done, read, choose, sign, next_is}
use Rattle.cyc_parser.specs.ReadTypes.{name}
use Rattle.cyc_parser.specs.ReadExpressions.{parenthesized_by, arguments_by, member_by, named_by, primary_by, first_by, suffixes_by, suffixed}
use Rattle.cyc_parser.specs.ReadExpressions.{with_member, postfix_by}
use Rattle.cyc_parser.specs.Exact.{Exact, Anything, Stops, Within, Then, Rows, always}
use Rattle.cyc_parser.proofs.Exact.{read_exact, exact_as, made_exact}
use Rattle.cyc_parser.proofs.exactness.Parts.{ok_is}
use Rattle.cyc_parser.proofs.exactness.Composed.{stops_wider, stops_ends}
use Rattle.cyc_parser.proofs.exactness.Operands.{IsExpressionAt, IsOperandAt, Made, within_both, within}
use Rattle.cyc_parser.proofs.exactness.Primaries.{IsLiteral, PrimaryRead, primary_exact}
use Rattle.cyc_parser.proofs.exactness.Firsts.{first_on, IsFirst, first_exact}
use Rattle.cyc_parser.proofs.exactness.Suffixes.{IsSuffix, Behind, NoDot, NoDotNext, suffix_next, suffixes_into, suffixes_back, behind_exact, no_dot_exact}
use Rattle.cyc_parser.proofs.exactness.Chains.{level_high}

-- ---- what a reader leaves

-- behind another phrase
bound : {A B : Type 0} (P : B → Tokens → Type 0) (q : A → Tokens → Outcome B)
    → ((a : A) (ts : Tokens) (c : B) (to : Tokens) → q a ts ≡ Ok (c, to) → P c to)
    → (r : Outcome A) (c : B) (to : Tokens) → (r >>= λ x. q x.0 x.1) ≡ Ok (c, to) → P c to
bound P q leaves (Ok x) c to h = leaves x.0 x.1 c to h
bound P q leaves (Err fault) c to h = absurd cc

-- the one or the other, by the next token
chosen : {A : Type 0} (P : A → Tokens → Type 0) (test : TokenKind → Bool) (p q : Tokens → Outcome A) (ts : Tokens) (c : A) (to : Tokens)
    → (p ts ≡ Ok (c, to) → P c to) → (next_is test ts ≡ false → q ts ≡ Ok (c, to) → P c to)
    → (t : Bool) → next_is test ts ≡ t → (if t then p ts else q ts) ≡ Ok (c, to) → P c to
chosen P test p q ts c to first second true e h = first h
chosen P test p q ts c to first second false e h = second e h

-- nothing more
ended : {A : Type 0} (P : A → Tokens → Type 0) (x : A) (ts : Tokens) (c : A) (to : Tokens) → P x ts → done x ts ≡ Ok (c, to) → P c to
ended P x ts c to h e = subst (λ y. P y.0 y.1) (ok_is (x, ts) (c, to) e) h

-- ---- a variable alone, behind which `.` would have been read

abbrev is_variable : Expression → Bool
is_variable (Variable n) = true
is_variable e = false

abbrev pub open_first : Expression × Option Name → Bool
open_first (e, None) = is_variable e
open_first (e, Some m) = false

abbrev After : Bool → Tokens → Type 0
After true ts = NoDotNext ts
After false ts = Anything ts

after_closed : (t : Bool) (ts : Tokens) → t ≡ false → After t ts
after_closed true ts h = absurd (true≢false h)
after_closed false ts h = tt

after_stop : (t : Bool) (ts : Tokens) → next_is (is_sign sign_of.Dot) ts ≡ false → After t ts
after_stop true ts h = (tt, h)
after_stop false ts h = tt

abbrev Left : Expression × Option Name → Tokens → Type 0
Left x ts = After (open_first x) ts

module _ (d : ℕ) (expr : Tokens → Outcome Expression) (inner : Exact Anything (IsExpressionAt d) (always (continues 0)) expr) where
  -- ---- what a first leaves

  left_of_closed : (x : Expression × Option Name) (ts : Tokens) (c : Expression × Option Name) (to : Tokens) → open_first x ≡ false
      → done x ts ≡ Ok (c, to) → Left c to
  left_of_closed x ts c to closed e = ended Left x ts c to (after_closed (open_first x) ts closed) e

  -- behind a member
  made_leaves : (n m : Name) (ts : Tokens) (c : Expression × Option Name) (to : Tokens)
      → choose (is_sign sign_of.LeftParenthesis) (read (parenthesized_by expr) (λ e. done (MakeUnion n m e, None))) (done (Variable n, Some m))
      ts ≡ Ok (c, to) → Left c to
  made_leaves n m ts c to h =
      chosen Left (is_sign sign_of.LeftParenthesis) (read (parenthesized_by expr) (λ e. done (MakeUnion n m e, None))) (done (Variable n, Some m)) ts
      c to
      (bound Left (λ (e : Expression). done (MakeUnion n m e, None)) (λ e ts c to. left_of_closed (MakeUnion n m e, None) ts c to refl)
      (parenthesized_by expr ts) c to)
      (λ fails. left_of_closed (Variable n, Some m) ts c to refl) (next_is (is_sign sign_of.LeftParenthesis) ts) refl h

  member_leaves : (n : Name) (ts : Tokens) (c : Expression × Option Name) (to : Tokens) → member_by expr n ts ≡ Ok (c, to) → Left c to
  unfolding member_by
  member_leaves n ts c to h =
      bound Left (λ (at : ℕ). _) (λ at ts c to. bound Left (λ (m : Name). _) (made_leaves n) (name ts) c to) (sign sign_of.Dot ts) c to h

  tail_leaves : (n : Name) (ts : Tokens) (c : Expression × Option Name) (to : Tokens)
      → choose (is_sign sign_of.LeftParenthesis) (read (arguments_by expr) (λ es. done (Call n (expressions_of es), None)))
      (choose (is_sign sign_of.Dot) (member_by expr n) (done (Variable n, None))) ts ≡ Ok (c, to) → Left c to
  tail_leaves n ts c to h =
      chosen Left (is_sign sign_of.LeftParenthesis) (read (arguments_by expr) (λ es. done (Call n (expressions_of es), None)))
      (choose (is_sign sign_of.Dot) (member_by expr n) (done (Variable n, None))) ts c to
      (bound Left (λ (es : List Expression). done (Call n (expressions_of es), None))
      (λ es ts c to. left_of_closed (Call n (expressions_of es), None) ts c to refl)
      (arguments_by expr ts) c to)
      (λ fails. chosen Left (is_sign sign_of.Dot) (member_by expr n) (done (Variable n, None)) ts c to (member_leaves n ts c to)
      (λ stop. ended Left (Variable n, None) ts c to (after_stop true ts stop)) (next_is (is_sign sign_of.Dot) ts) refl)
      (next_is (is_sign sign_of.LeftParenthesis) ts) refl h

  named_leaves : (ts : Tokens) (c : Expression × Option Name) (to : Tokens) → named_by expr ts ≡ Ok (c, to) → Left c to
  unfolding named_by
  named_leaves ts c to h = bound Left (λ (n : Name). _) tail_leaves (name ts) c to h

  literal_closed : (b : Bool) (e : Expression) (from to : Tokens) → IsLiteral b e from to → is_variable e ≡ false
  literal_closed b (Variable n) from to h = absurd h
  literal_closed b _ from to h = refl

  primary_closed : (b : Bool) (e : Expression) (from to : Tokens) → PrimaryRead d expr inner b e from to → is_variable e ≡ false
  primary_closed b e from to (inl h) = ap is_variable h.3.3.1
  primary_closed b e from to (inr (inl h)) = ap is_variable h.3.1
  primary_closed b e from to (inr (inr h)) = literal_closed b e from to h

  primary_leaves : (ts : Tokens) (c : Expression × Option Name) (to : Tokens) → read (primary_by expr) (λ e. done (e, None)) ts ≡ Ok (c, to)
      → Left c to
  primary_leaves ts c to h = primary_found ts c to (primary_by expr ts) refl h
    where
      primary_found : (ts : Tokens) (c : Expression × Option Name) (to : Tokens) (r : Outcome Expression) → primary_by expr ts ≡ r
          → (r >>= λ x. done (x.0, None) x.1) ≡ Ok (c, to) → Left c to
      primary_found ts c to (Ok x) e h =
          let found = (primary_exact d expr inner).sound ts x.0 x.1 tt e in
          left_of_closed (x.0, None) x.1 c to (primary_closed true x.0 (found.taken ++ []) [] (found.is [])) h
      primary_found ts c to (Err fault) e h = absurd cc

  first_leaves : (ts : Tokens) (c : Expression × Option Name) (to : Tokens) → Anything ts → first_by expr ts ≡ Ok (c, to) → Left c to
  unfolding first_by
  first_leaves ts c to any h =
      chosen Left is_identifier (named_by expr) (read (primary_by expr) (λ e. done (e, None))) ts c to (named_leaves ts c to)
      (λ fails. primary_leaves ts c to)
      (next_is is_identifier ts) refl h

  -- ---- the suffixes behind a first

  -- a variable's suffixes begin with no `.`, where the member behind it would have been read
  abbrev TailIs : Bool → Option Name → Bool → List OneSuffix → Tokens → Tokens → Type 0
  TailIs true member b ss from to = Behind d expr inner member b ss from to × NoDot ss
  TailIs false member b ss from to = Behind d expr inner member b ss from to

  tail_if : (t : Bool) → Exact (After t) (TailIs t None) (always (continues unary_level)) (suffixes_by expr None)
  tail_if true = no_dot_exact d expr inner
  tail_if false = behind_exact d expr inner None

  tail_exact : (x : Expression × Option Name)
      → Exact (After (open_first x)) (TailIs (open_first x) x.1) (always (continues unary_level)) (suffixes_by expr x.1)
  tail_exact (e, None) = tail_if (is_variable e)
  tail_exact (e, Some m) = behind_exact d expr inner (Some m)

  abbrev SecondIs : Expression × Option Name → Bool → Expression → Tokens → Tokens → Type 0
  SecondIs x = Made (λ ss. suffixed x.0 (suffixes_of ss)) (TailIs (open_first x) x.1)

  second_exact : (x : Expression × Option Name)
      → Exact (After (open_first x)) (SecondIs x) (always (continues unary_level))
      (read (suffixes_by expr x.1) (λ ss. done (suffixed x.0 (suffixes_of ss))))
  second_exact x =
      made_exact (After (open_first x)) (TailIs (open_first x) x.1) (always (continues unary_level)) (suffixes_by expr x.1) (tail_exact x)
      (λ ss. suffixed x.0 (suffixes_of ss)) (always (continues unary_level)) (λ ss k h. h) (SecondIs x) (λ b ss from to h. (ss, refl, h))
      (λ b e from to h. h)

  -- ---- what is next behind a first

  left_continues : (k : TokenKind) → is_sign sign_of.LeftParenthesis k ≡ true → continues unary_level k ≡ true
  left_continues (kind.Sign sign_of.LeftParenthesis) h = refl
  left_continues _ h = absurd cc

  dot_continues : (k : TokenKind) → (is_sign sign_of.LeftParenthesis k || is_sign sign_of.Dot k) ≡ true → continues unary_level k ≡ true
  dot_continues (kind.Sign sign_of.LeftParenthesis) h = refl
  dot_continues (kind.Sign sign_of.Dot) h = refl
  dot_continues _ h = absurd cc

  closed_meets : (b : Bool) (xs : List OneSuffix) (mid to : Tokens) → Rows (IsSuffix d expr inner) b xs mid to → Stops (continues unary_level) to
      → next_is (is_sign sign_of.LeftParenthesis) mid ≡ false
  closed_meets b [] mid to h s =
      stops_wider (is_sign sign_of.LeftParenthesis) (continues unary_level) left_continues mid (subst (Stops (continues unary_level)) (sym h) s)
  closed_meets b (x ∷ xs) mid to h s = suffix_next d expr inner (is_sign sign_of.LeftParenthesis) false refl refl refl b x mid h.0 h.1

  open_meets : (n : Name) (b : Bool) (xs : List OneSuffix) (mid to : Tokens) → Rows (IsSuffix d expr inner) b xs mid to → NoDot xs
      → Stops (continues unary_level) to
      → next_is (first_on (Variable n, None)) mid ≡ false
  open_meets n b [] mid to h none s =
      stops_wider (first_on (Variable n, None)) (continues unary_level) dot_continues mid (subst (Stops (continues unary_level)) (sym h) s)
  open_meets n b (OneSuffix.Index e ∷ xs) mid to h none s = ap (next_is (first_on (Variable n, None))) h.1.2.1.1
  open_meets n b (OneSuffix.Dot m ∷ xs) mid to h none s = absurd none
  open_meets n b (OneSuffix.Arrow m ∷ xs) mid to h none s = ap (next_is (first_on (Variable n, None))) h.1.1.1.1

  pub second_meets : (b : Bool) (x : Expression × Option Name) (e : Expression) (mid to : Tokens) → SecondIs x b e mid to
      → Stops (continues unary_level) to → Stops (first_on x) mid
  second_meets b (Variable n, None) e mid to h s =
      let tail = h.2 in open_meets n b tail.0.0 mid to tail.0.2 (subst NoDot tail.0.1 tail.1) s
  second_meets b (Variable n, Some m) e mid to h s = closed_meets b h.2.0 mid to h.2.2 s
  second_meets b x e mid to h s = stops_ends x mid

  -- ---- in the grammar's words

  abbrev PostfixRead : Bool → Expression → Tokens → Tokens → Type 0
  PostfixRead = Then (IsFirst d expr inner) SecondIs

  pub tail_rows : (t : Bool) (member : Option Name) (b : Bool) (ss : List OneSuffix) (from to : Tokens) → TailIs t member b ss from to
      → Behind d expr inner member b ss from to
  tail_rows true member b ss from to h = h.0
  tail_rows false member b ss from to h = h

  tail_made : (t : Bool) (b : Bool) (ss : List OneSuffix) (from to : Tokens) → Behind d expr inner None b ss from to → NoDot ss
      → TailIs t None b ss from to
  tail_made true b ss from to h none = (h, none)
  tail_made false b ss from to h none = h

  suffixed_is : (b : Bool) (e : Expression) (ss : Suffixes) (from mid to : Tokens) → IsOperandAt primary_level (suc d) b e from mid
      → AreSuffixes ss mid to
      → Within b d (suffix_nesting ss) → IsOperandAt 12 (suc d) b (suffixed e ss) from to
  suffixed_is b e NoSuffixes from mid to h g w = ((subst (IsExpression e from) g h.0.0, omega (arith, h.0.1)), h.1)
  suffixed_is b e (Index i ss) from mid to h g w = (
    ((mid, h.0.1, h.0.0, g), omega arith),
    within_both b (suc d) (inner_nesting e) d (suffix_nesting (Index i ss)) (suc d) (inner_nesting (Suffixed e (Index i ss)))
        (λ k l. omega (arith, k, l)) h.1 w,
  )
  suffixed_is b e (Dot m ss) from mid to h g w = (
    ((mid, h.0.1, h.0.0, g), omega arith),
    within_both b (suc d) (inner_nesting e) d (suffix_nesting (Dot m ss)) (suc d) (inner_nesting (Suffixed e (Dot m ss))) (λ k l. omega (arith, k, l))
        h.1 w,
  )
  suffixed_is b e (Arrow m ss) from mid to h g w = (
    ((mid, h.0.1, h.0.0, g), omega arith),
    within_both b (suc d) (inner_nesting e) d (suffix_nesting (Arrow m ss)) (suc d) (inner_nesting (Suffixed e (Arrow m ss)))
        (λ k l. omega (arith, k, l)) h.1 w,
  )

  postfix_made : (b : Bool) (x : Expression × Option Name) (xs : List OneSuffix) (from mid to : Tokens) → IsFirst d expr inner b x from mid
      → Rows (IsSuffix d expr inner) b xs mid to → IsOperandAt 12 (suc d) b (suffixed x.0 (suffixes_of (with_member x.1 xs))) from to
  postfix_made b (e, None) xs from mid to h rows =
      let r = suffixes_into d expr inner b xs mid to rows in suffixed_is b e (suffixes_of xs) from mid to h r.0 r.1
  postfix_made b (Variable n, Some m) xs from mid to h rows =
      let r = suffixes_into d expr inner b xs mid to rows in (
        ((h.0, omega arith, h.2, (h.1, mid, h.3, h.4, r.0)), omega arith),
        within b d (suffix_nesting (suffixes_of xs)) (suc d) (inner_nesting (Suffixed (Variable n) (Dot m (suffixes_of xs)))) (λ k. omega (arith, k))
            r.1,
      )
  postfix_made b (e, Some m) xs from mid to h rows = absurd h.2

  postfix_into : (b : Bool) (e : Expression) (from to : Tokens) → PostfixRead b e from to → IsOperandAt 12 (suc d) b e from to
  postfix_into b e from to h =
      let x : Expression × Option Name = h.0 in
      let s = h.3 in
      let tail = tail_rows (open_first x) x.1 b s.0 h.1 to s.2 in
      subst (λ y. IsOperandAt 12 (suc d) b y from to) (sym (s.1 ∙ ap (λ ss. suffixed x.0 (suffixes_of ss)) tail.1))
      (postfix_made b x tail.0 from h.1 to h.2 tail.2)

  -- ---- each tree is read in one way

  abbrev NoDotFirst : Suffixes → Type 0
  NoDotFirst (Dot m ss) = ⊥
  NoDotFirst ss = Unit {0}

  no_dot_of : (xs : List OneSuffix) → NoDotFirst (suffixes_of xs) → NoDot xs
  no_dot_of [] h = tt
  no_dot_of (OneSuffix.Index e ∷ xs) h = tt
  no_dot_of (OneSuffix.Dot m ∷ xs) h = absurd h
  no_dot_of (OneSuffix.Arrow m ∷ xs) h = tt

  -- a primary, and suffixes that don't begin with `.` or are behind no variable
  plain_back : (b : Bool) (e : Expression) (ss : Suffixes) (from mid to : Tokens) → IsOperandAt primary_level (suc d) b e from mid
      → AreSuffixes ss mid to
      → Within b d (suffix_nesting ss) → NoDotFirst ss → PostfixRead b (suffixed e ss) from to
  plain_back b e ss from mid to h g w none =
      let r = suffixes_back d expr inner b ss mid to g w in (
        (e, None),
        mid,
        h,
        (r.0, ap (suffixed e) r.1, tail_made (is_variable e) b r.0 mid to (r.0, refl, r.2) (no_dot_of r.0 (subst NoDotFirst r.1 none))),
      )

  closed_back : (b : Bool) (e : Expression) (ss : Suffixes) (from mid to : Tokens) → IsOperandAt primary_level (suc d) b e from mid
      → AreSuffixes ss mid to
      → Within b d (suffix_nesting ss) → is_variable e ≡ false → PostfixRead b (suffixed e ss) from to
  closed_back b e ss from mid to h g w closed =
      let r = suffixes_back d expr inner b ss mid to g w in (
        (e, None),
        mid,
        h,
        (r.0, ap (suffixed e) r.1, subst (λ t. TailIs t None b r.0 mid to) (sym closed) (r.0, refl, r.2)),
      )

  dot_back : (b : Bool) (e : Expression) (m : Name) (ss : Suffixes) (from mid to : Tokens) → IsOperandAt primary_level (suc d) b e from mid
      → AreSuffixes (Dot m ss) mid to → Within b d (suffix_nesting ss) → PostfixRead b (Suffixed e (Dot m ss)) from to
  dot_back b (Variable n) m ss from mid to h g w =
      let r = suffixes_back d expr inner b ss g.1 to g.4 w in (
        (Variable n, Some m),
        g.1,
        (mid, g.0, h.0.0, g.2, g.3),
        (OneSuffix.Dot m ∷ r.0, ap (λ y. Suffixed (Variable n) (Dot m y)) r.1, (r.0, refl, r.2)),
      )
  dot_back b e m ss from mid to h g w = closed_back b e (Dot m ss) from mid to h g w refl

  alone_back : (b : Bool) (e : Expression) (from to : Tokens) → IsOperandAt 12 (suc d) b e from to → primary_level ≤ binds e → PostfixRead b e from to
  alone_back b e from to h l =
      ((e, None), to, ((h.0.0, l), h.1), ([], refl, tail_made (is_variable e) b [] to to ([], refl, refl) tt))

  suffixed_back : (b : Bool) (e : Expression) (from to : Tokens) → IsOperandAt 12 (suc d) b e from to → binds e < primary_level
      → PostfixRead b e from to
  suffixed_back b (Suffixed e NoSuffixes) from to h u = absurd h.0.0
  suffixed_back b (Suffixed e (Index i ss)) from to h u =
      let is = h.0.0 in
      let all = inner_nesting (Suffixed e (Index i ss)) in
      plain_back b e (Index i ss) from is.0 to ((is.2, is.1), within b (suc d) all (suc d) (inner_nesting e) (λ k. omega (arith, k)) h.1) is.3
      (within b (suc d) all d (suffix_nesting (Index i ss)) (λ k. omega (arith, k)) h.1) tt
  suffixed_back b (Suffixed e (Dot m ss)) from to h u =
      let is = h.0.0 in
      let all = inner_nesting (Suffixed e (Dot m ss)) in
      dot_back b e m ss from is.0 to ((is.2, is.1), within b (suc d) all (suc d) (inner_nesting e) (λ k. omega (arith, k)) h.1) is.3
      (within b (suc d) all d (suffix_nesting ss) (λ k. omega (arith, k)) h.1)
  suffixed_back b (Suffixed e (Arrow m ss)) from to h u =
      let is = h.0.0 in
      let all = inner_nesting (Suffixed e (Arrow m ss)) in
      plain_back b e (Arrow m ss) from is.0 to ((is.2, is.1), within b (suc d) all (suc d) (inner_nesting e) (λ k. omega (arith, k)) h.1) is.3
      (within b (suc d) all d (suffix_nesting (Arrow m ss)) (λ k. omega (arith, k)) h.1) tt
  suffixed_back b (Chain first NoLinks) from to h u = absurd h.0.0
  suffixed_back b (Chain first (MoreLinks o e ls)) from to h u = absurd (omega (arith, h.0.1, level_high o))
  suffixed_back b _ from to h u = absurd (omega (arith, h.0.1, u))

  pub postfix_back : (b : Bool) (e : Expression) (from to : Tokens) → IsOperandAt 12 (suc d) b e from to → PostfixRead b e from to
  postfix_back b e from to h = elim (cases_lt (binds e) primary_level) [
    | inl g ↦ suffixed_back b e from to h g
    | inr g ↦ alone_back b e from to h g
  ]

  pub postfix_exact : Exact Anything (IsOperandAt 12 (suc d)) (always (continues unary_level)) (postfix_by expr)
  unfolding postfix_by
  postfix_exact =
      exact_as Anything PostfixRead (always (continues unary_level)) _
      (read_exact Anything (IsFirst d expr inner) first_on (first_by expr) (first_exact d expr inner)
      Left SecondIs (always (continues unary_level)) (λ x. read (suffixes_by expr x.1) (λ ss. done (suffixed x.0 (suffixes_of ss)))) second_exact
      first_leaves second_meets)
      (IsOperandAt 12 (suc d)) postfix_into postfix_back
