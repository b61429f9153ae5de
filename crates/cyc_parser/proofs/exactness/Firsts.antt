-- The readers of what begins with a name, and of primary expressions with the member that was read behind them, are exact.
use Rattle.std.proofs.Common.{◌≡◌, ℕ, suc, ◌||◌, Bool, true, false, Option, Some, None, refl, sym, ap, subst, arith, inl, inr}
use Rattle.std.proofs.lemmas.Bool.{or_left, or_right}
use Rattle.cyc_lexer.specs.declared.token.Sign.TheVariants as sign_of
use Rattle.cyc_lexer.specs.declared.token.TokenKind.{TokenKind}
use Rattle.cyc_lexer.specs.declared.token.TokenKind.TheVariants as kind
use Rattle.cyc_tree.specs.Tree.{Name, Expression, Number, Character, Text, Null, HeapRegion, UniqueRegion, Variable, Call, MakeUnion, NumElts}
use Rattle.cyc_tree.specs.Tree.{Grouped, Chain, NoLinks, MoreLinks}
use Rattle.cyc_tree.specs.View.{expressions_of}
use Rattle.cyc_tree.proofs.PartNesting.{inner_nesting, argument_nesting, expression_nesting}
use Rattle.source_grammar.specs.Phrases.{Tokens, SignAt, IsSign, IsName}
use Rattle.source_grammar.specs.ExpressionGrammar.{primary_level}
use Rattle.cyc_parser.specs.Tests.{continues, is_sign, is_identifier, is_literal}
use Rattle.cyc_parser.specs.Reader.{Outcome, done, read, choose, sign, next_is}
use Rattle.cyc_parser.specs.ReadTypes.{name}
use Rattle.cyc_parser.specs.ReadExpressions.{parenthesized_by, arguments_by, member_by, named_by, primary_by, first_by}
use Rattle.cyc_parser.specs.Exact.{Exact, Anything, Stops, Whole, Then, Either, IsDone, ends, always}
use Rattle.cyc_parser.proofs.Exact.{exact_as}
use Rattle.cyc_parser.proofs.exactness.Types.{sign_exact, name_exact}
use Rattle.cyc_parser.proofs.exactness.Composed.{then_exact, either_exact, option_exact, begins_with, begins_stops, stops_wider}
use Rattle.cyc_parser.proofs.exactness.Operands.{IsExpressionAt, IsParenthesizedAt, IsOperandAt, Made, made_of, within_always, within, never_on}
use Rattle.cyc_parser.proofs.exactness.Primaries.{IsLiteral, PrimaryRead, inside_exact, inside_begins, primary_exact, primary_stops}
use Rattle.cyc_parser.proofs.exactness.Arguments.{ArgumentsRead, arguments_exact, arguments_begin, arguments_into, arguments_back}
use Rattle.cyc_parser.proofs.exactness.Chains.{level_high}

-- what a name may go on with: `(` and `.`, or behind a member `(`
abbrev pub first_on : Expression × Option Name → TokenKind → Bool
first_on (Variable n, None) k = is_sign sign_of.LeftParenthesis k || is_sign sign_of.Dot k
first_on (Variable n, Some m) k = is_sign sign_of.LeftParenthesis k
first_on x k = false

pub literal_no_name : (k : TokenKind) → is_literal k ≡ true → is_identifier k ≡ false
literal_no_name kind.Identifier h = absurd cc
literal_no_name _ h = refl

-- a variable's name
abbrev pub IsVariable : Expression → Tokens → Tokens → Type 0
IsVariable (Variable n) from to = IsName n from to
IsVariable _ from to = ⊥

module _ (d : ℕ) (expr : Tokens → Outcome Expression) (inner : Exact Anything (IsExpressionAt d) (always (continues 0)) expr) where
  -- ---- behind a name

  abbrev MakeRead : (n m : Name) → Bool → Expression × Option Name → Tokens → Tokens → Type 0
  MakeRead n m = Made (λ e. (MakeUnion n m e, None)) (IsParenthesizedAt d)

  abbrev MemberRead : Name → Bool → Expression × Option Name → Tokens → Tokens → Type 0
  MemberRead n =
      Then (Whole (SignAt sign_of.Dot)) (λ (at : ℕ). Then (Whole IsName) (λ (m : Name). Either (MakeRead n m) (IsDone (Variable n, Some m))))

  member_exact : (n : Name) → Exact Anything (MemberRead n) first_on (member_by expr n)
  unfolding member_by
  member_exact n =
      then_exact (Whole (SignAt sign_of.Dot)) (sign sign_of.Dot) (sign_exact sign_of.Dot)
      (λ (at : ℕ). Then (Whole IsName) (λ (m : Name). Either (MakeRead n m) (IsDone (Variable n, Some m)))) first_on _
      (λ at. then_exact (Whole IsName) name name_exact (λ (m : Name). Either (MakeRead n m) (IsDone (Variable n, Some m))) first_on _
      (λ m. option_exact (is_sign sign_of.LeftParenthesis) first_on (MakeRead n m) _
      (made_of (IsParenthesizedAt d) ends (parenthesized_by expr) (inside_exact d expr inner) (λ e. (MakeUnion n m e, None)) first_on
      (λ e k h. never_on h))
      (Variable n, Some m) (λ b x from to h. inside_begins d expr inner b h.0 from to h.2) (λ k h. h)))

  abbrev CallRead : Name → Bool → Expression × Option Name → Tokens → Tokens → Type 0
  CallRead n = Made (λ es. (Call n (expressions_of es), None)) (ArgumentsRead d expr inner)

  abbrev TailRead : Name → Bool → Expression × Option Name → Tokens → Tokens → Type 0
  TailRead n = Either (CallRead n) (Either (MemberRead n) (IsDone (Variable n, None)))

  abbrev NamedRead : Bool → Expression × Option Name → Tokens → Tokens → Type 0
  NamedRead = Then (Whole IsName) TailRead

  member_begins : (n : Name) (b : Bool) (x : Expression × Option Name) (from to : Tokens) → MemberRead n b x from to
      → next_is (is_sign sign_of.Dot) from ≡ true
  member_begins n b x from to h = begins_with (is_sign sign_of.Dot) from _ _ h.2.1 refl

  dot_no_left : (k : TokenKind) → is_sign sign_of.Dot k ≡ true → is_sign sign_of.LeftParenthesis k ≡ false
  dot_no_left (kind.Sign sign_of.Dot) h = refl
  dot_no_left _ h = absurd cc

  tail_apart : (n : Name) (b : Bool) (x : Expression × Option Name) (from to : Tokens) → Either (MemberRead n) (IsDone (Variable n, None)) b x from to
      → Stops (first_on x) to → next_is (is_sign sign_of.LeftParenthesis) from ≡ false
  tail_apart n b x from to (inl h) s =
      begins_stops (is_sign sign_of.Dot) (is_sign sign_of.LeftParenthesis) dot_no_left from (member_begins n b x from to h)
  tail_apart n b x from to (inr h) s =
      stops_wider (is_sign sign_of.LeftParenthesis) (first_on (Variable n, None))
      (λ k g. or_left (is_sign sign_of.LeftParenthesis k) (is_sign sign_of.Dot k) g) from
      (subst (Stops (first_on (Variable n, None))) (sym h.1) (subst (λ y. Stops (first_on y) to) h.0 s))

  tail_exact : (n : Name) → Exact Anything (TailRead n) first_on
      (choose (is_sign sign_of.LeftParenthesis) (read (arguments_by expr) (λ es. done (Call n (expressions_of es), None)))
      (choose (is_sign sign_of.Dot) (member_by expr n) (done (Variable n, None))))
  tail_exact n =
      either_exact (is_sign sign_of.LeftParenthesis) first_on (CallRead n) _
      (made_of (ArgumentsRead d expr inner) ends (arguments_by expr) (arguments_exact d expr inner) (λ es. (Call n (expressions_of es), None))
      first_on (λ es k h. never_on h))
      (Either (MemberRead n) (IsDone (Variable n, None))) _
      (option_exact (is_sign sign_of.Dot) first_on (MemberRead n) (member_by expr n) (member_exact n) (Variable n, None) (member_begins n)
      (λ k g. or_right (is_sign sign_of.LeftParenthesis k) (is_sign sign_of.Dot k) g))
      (λ b x from to h. arguments_begin d expr inner b h.0 from to h.2) (tail_apart n)

  named_exact : Exact Anything NamedRead first_on (named_by expr)
  unfolding named_by
  named_exact = then_exact (Whole IsName) name name_exact TailRead first_on _ tail_exact

  abbrev FirstRead : Bool → Expression × Option Name → Tokens → Tokens → Type 0
  FirstRead = Either NamedRead (Made (λ e. (e, None)) (PrimaryRead d expr inner))

  -- ---- in the grammar's words

  -- a primary expression, and the member that was read behind it
  abbrev pub IsFirst : Bool → Expression × Option Name → Tokens → Tokens → Type 0
  IsFirst b (e, None) from to = IsOperandAt primary_level (suc d) b e from to
  IsFirst b (e, Some m) from to = (a : Tokens) × (c : Tokens) × IsVariable e from a × IsSign sign_of.Dot a c × IsName m c to

  named_into : (b : Bool) (n : Name) (x : Expression × Option Name) (from mid to : Tokens) → IsName n from mid → TailRead n b x mid to
      → IsFirst b x from to
  named_into b n x from mid to first (inl h) =
      let group = arguments_into d expr inner b h.0 mid to h.2 in
      subst (λ y. IsFirst b y from to) (sym h.1) (
        ((mid, group.0, first, group.1, group.2), omega arith),
        within b d (argument_nesting (expressions_of h.0)) (suc d) (inner_nesting (Call n (expressions_of h.0))) (λ g. omega (arith, g)) group.3,
      )
  named_into b n x from mid to first (inr (inl h)) = elim h.3.3 [
    | inl g ↦ subst (λ y. IsFirst b y from to) (sym g.1) (
      ((mid, h.1, h.3.1, first, (h.0, h.2), h.3.2, g.2.0), omega arith),
      within b d (expression_nesting g.0) (suc d) (inner_nesting (MakeUnion n h.3.0 g.0)) (λ l. omega (arith, l)) g.2.1,
    )
    | inr g ↦ subst (λ y. IsFirst b y from to) (sym g.0) (mid, h.1, first, (h.0, h.2), subst (IsName h.3.0 h.1) g.1 h.3.2)
  ]
  named_into b n x from mid to first (inr (inr h)) =
      subst (λ y. IsFirst b y from to) (sym h.0)
      ((subst (IsName n from) h.1 first, omega arith), within_always b (suc d) 1 (omega arith))

  literal_into : (b : Bool) (e : Expression) (from to : Tokens) → IsLiteral b e from to → IsOperandAt primary_level (suc d) b e from to
  literal_into b (Number at value suffix) from to h = ((h, omega arith), within_always b (suc d) 1 (omega arith))
  literal_into b (Character at byte) from to h = ((h, omega arith), within_always b (suc d) 1 (omega arith))
  literal_into b (Text at bytes) from to h = ((h, omega arith), within_always b (suc d) 1 (omega arith))
  literal_into b (Null at) from to h = ((h, omega arith), within_always b (suc d) 1 (omega arith))
  literal_into b (HeapRegion at) from to h = ((h, omega arith), within_always b (suc d) 1 (omega arith))
  literal_into b (UniqueRegion at) from to h = ((h, omega arith), within_always b (suc d) 1 (omega arith))
  literal_into b _ from to h = absurd h

  primary_into : (b : Bool) (e : Expression) (from to : Tokens) → PrimaryRead d expr inner b e from to → IsOperandAt primary_level (suc d) b e from to
  primary_into b e from to (inl h) =
      let i = h.3 in
      subst (λ y. IsOperandAt primary_level (suc d) b y from to) (sym i.3.1) (
        ((h.1, i.1, h.2, i.2.0, (i.3.0, i.3.2)), omega arith),
        within b d (expression_nesting i.0) (suc d) (inner_nesting (Grouped h.0 i.0)) (λ g. omega (arith, g)) i.2.1,
      )
  primary_into b e from to (inr (inl h)) =
      let i = h.3 in
      subst (λ y. IsOperandAt primary_level (suc d) b y from to) (sym i.1) (
        ((h.1, h.2, i.2.0), omega arith),
        within b d (expression_nesting i.0) (suc d) (inner_nesting (NumElts h.0 i.0)) (λ g. omega (arith, g)) i.2.1,
      )
  primary_into b e from to (inr (inr h)) = literal_into b e from to h

  first_into : (b : Bool) (x : Expression × Option Name) (from to : Tokens) → FirstRead b x from to → IsFirst b x from to
  first_into b x from to (inl h) = named_into b h.0 x from h.1 to h.2 h.3
  first_into b x from to (inr h) = subst (λ y. IsFirst b y from to) (sym h.1) (primary_into b h.0 from to h.2)

  literal_first : (b : Bool) (e : Expression) (from to : Tokens) → IsLiteral b e from to → FirstRead b (e, None) from to
  literal_first b e from to h = inr (e, refl, inr (inr h))

  alone_back : (b : Bool) (e : Expression) (from to : Tokens) → IsOperandAt primary_level (suc d) b e from to → FirstRead b (e, None) from to
  alone_back b (Number at value suffix) from to h = literal_first b (Number at value suffix) from to h.0.0
  alone_back b (Character at byte) from to h = literal_first b (Character at byte) from to h.0.0
  alone_back b (Text at bytes) from to h = literal_first b (Text at bytes) from to h.0.0
  alone_back b (Null at) from to h = literal_first b (Null at) from to h.0.0
  alone_back b (HeapRegion at) from to h = literal_first b (HeapRegion at) from to h.0.0
  alone_back b (UniqueRegion at) from to h = literal_first b (UniqueRegion at) from to h.0.0
  alone_back b (Variable n) from to h = inl (n, to, h.0.0, inr (inr (refl, refl)))
  alone_back b (Call n es) from to h =
      let c = h.0.0 in
      let xs = arguments_back d expr inner b es c.0 to
      (c.1, c.3, c.4, within b (suc d) (inner_nesting (Call n es)) d (argument_nesting es) (λ g. omega (arith, g)) h.1) in
      inl (n, c.0, c.2, inl (xs.0, ap (λ ys. (Call n ys, None)) xs.1, xs.2))
  alone_back b (MakeUnion n m value) from to h =
      let c = h.0.0 in
      inl (
        n,
        c.0,
        c.3,
        inr (inl (
          c.4.0,
          c.1,
          c.4.1,
          (
            m,
            c.2,
            c.5,
            inl (value, refl, (c.6, within b (suc d) (inner_nesting (MakeUnion n m value)) d (expression_nesting value) (λ g. omega (arith, g)) h.1)),
          ),
        )),
      )
  alone_back b (NumElts at operand) from to h =
      let c = h.0.0 in
      inr (
        NumElts at operand,
        refl,
        inr (inl (
          at,
          c.0,
          c.1,
          (operand, refl, (c.2, within b (suc d) (inner_nesting (NumElts at operand)) d (expression_nesting operand) (λ g. omega (arith, g)) h.1)),
        )),
      )
  alone_back b (Grouped at e) from to h =
      let c = h.0.0 in
      inr (
        Grouped at e,
        refl,
        inl (
          at,
          c.0,
          c.2,
          (e, c.1, (c.3, within b (suc d) (inner_nesting (Grouped at e)) d (expression_nesting e) (λ g. omega (arith, g)) h.1), (c.4.0, refl, c.4.1)),
        ),
      )
  alone_back b (Chain e NoLinks) from to h = absurd (omega (arith, h.0.1))
  alone_back b (Chain e (MoreLinks o operand others)) from to h = absurd (omega (arith, h.0.1, level_high o))
  alone_back b _ from to h = absurd (omega (arith, h.0.1))

  first_back : (b : Bool) (x : Expression × Option Name) (from to : Tokens) → IsFirst b x from to → FirstRead b x from to
  first_back b (e, None) from to h = alone_back b e from to h
  first_back b (Variable n, Some m) from to h = inl (n, h.0, h.2, inr (inl (h.3.0, h.1, h.3.1, (m, to, h.4, inr (refl, refl)))))
  first_back b (e, Some m) from to h = absurd h.2

  pub first_exact : Exact Anything IsFirst first_on (first_by expr)
  unfolding first_by
  first_exact =
      exact_as Anything FirstRead first_on _
      (either_exact is_identifier first_on NamedRead (named_by expr) named_exact (Made (λ e. (e, None)) (PrimaryRead d expr inner)) _
      (made_of (PrimaryRead d expr inner) ends (primary_by expr) (primary_exact d expr inner) (λ e. (e, None)) first_on (λ e k h. never_on h))
      (λ b x from to h. begins_with is_identifier from _ _ h.2 refl)
      (λ b x from to h g. primary_stops d expr inner is_identifier refl refl literal_no_name b h.0 from to h.2))
      IsFirst first_into first_back
