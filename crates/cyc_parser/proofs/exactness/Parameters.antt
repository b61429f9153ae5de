-- The readers of a function's parameters are exact.
use Rattle.std.proofs.Common.{◌≡◌, ◌⊎◌, ℕ, Bool, true, false, not, List, [], ◌∷◌, Option, Some, None, refl, sym, ap, ap₂, subst, ◌∙◌, inl, inr, true≢false}
use Rattle.cyc_lexer.specs.Lexing.{Token}
use Rattle.cyc_lexer.specs.declared.token.Keyword.TheVariants as word
use Rattle.cyc_lexer.specs.declared.token.Sign.TheVariants as sign_of
use Rattle.cyc_lexer.specs.declared.token.TokenKind.{TokenKind}
use Rattle.cyc_lexer.specs.declared.token.TokenKind.TheVariants as kind
use Rattle.cyc_tree.specs.Tree.{Base, Int, Unsigned, Char, Void, Struct, Union, Handle, Key, Pointer, Member}
use Rattle.source_grammar.specs.Phrases.{Tokens, KeywordAt, IsKeyword, IsName, Each, Behind}
use Rattle.source_grammar.specs.TypeGrammar.{IsBase, IsPointer, IsTyped}
use Rattle.source_grammar.specs.Grammar.{AreParameters}
use Rattle.cyc_parser.specs.Reading.{next_place}
use Rattle.cyc_parser.specs.Tests.{is_sign, is_keyword, begins_type, begins_pointer, begins_declarator, ends_parameters}
use Rattle.cyc_parser.specs.Reader.{done, read, choose, many, behind, next_is}
use Rattle.cyc_parser.specs.ReadTypes.{typed_name}
use Rattle.cyc_parser.specs.ReadPrograms.{void_parameter, first_parameter, other_parameters, parameters}
use Rattle.cyc_parser.specs.Exact.{nowhere, Exact, Phrase, Anything, ends, always, Stops, IsDone, Then, Either, Whole}
use Rattle.cyc_parser.proofs.Exact.{choose_exact, done_exact, exact_as, exact_on, exact_wider, restrict_exact}
use Rattle.cyc_parser.proofs.exactness.Composed.{begins_with, begins_within, stops_at, stops_ends, then_exact, meets_exact, option_exact, Made, image_exact}
use Rattle.cyc_parser.proofs.exactness.Composed.{finish, ends_wider}
use Rattle.cyc_parser.proofs.exactness.Listed.{commas_exact}
use Rattle.cyc_parser.proofs.exactness.Pointers.{pointer_begins}
use Rattle.cyc_parser.proofs.exactness.Types.{keyword_exact, name_exact, is_no_name, pointers_exact, type_first, typed_name_exact}

-- what doesn't stand behind parameters
abbrev pub no_parameters_end : TokenKind → Bool
no_parameters_end k = not (ends_parameters k)

-- what would go on with a first parameter, where there is one, and where there is none
abbrev parameter_on : Option Member → TokenKind → Bool
parameter_on None k = no_parameters_end k
parameter_on (Some m) k = false

-- ---- `void`, or a parameter whose type begins so

abbrev IsVoidParameter : Option Member → Tokens → Tokens → Type 0
IsVoidParameter None from to = IsKeyword word.Void from to
IsVoidParameter (Some m) from to = IsTyped m from to × (m.of.base ≡ Void)

abbrev Declarator : ℕ → Bool → Option Member → Tokens → Tokens → Type 0
Declarator at =
    Then (Whole (Each IsPointer))
    (λ ps. Then (Whole IsName) (λ n. IsDone (Some (record { of = record { at = at; base = Void; pointers = ps }; name = n }))))

declarator_pointer : (k : TokenKind) → begins_pointer k ≡ true → begins_declarator k ≡ true
declarator_pointer (kind.Sign sign_of.Star) h = refl
declarator_pointer (kind.Sign sign_of.At) h = refl
declarator_pointer (kind.Sign sign_of.Question) h = refl
declarator_pointer _ h = absurd cc

declarator_begins : (ps : List Pointer) (from mid rest : Tokens) (t : Token) → Each IsPointer ps from mid → mid ≡ t ∷ rest → t.kind ≡ kind.Identifier
    → next_is begins_declarator from ≡ true
declarator_begins [] from mid rest t w e h = begins_with begins_declarator from t rest (w ∙ e) (ap begins_declarator h)
declarator_begins (p ∷ ps) from mid rest t w e h = begins_within begins_pointer begins_declarator declarator_pointer from
    (pointer_begins p from w.0 w.1)

declarator_goes_on : (k : TokenKind) → begins_declarator k ≡ true → no_parameters_end k ≡ true
declarator_goes_on (kind.Sign sign_of.Semicolon) h = absurd cc
declarator_goes_on (kind.Sign sign_of.Colon) h = absurd cc
declarator_goes_on (kind.Sign sign_of.RightParenthesis) h = absurd cc
declarator_goes_on _ h = refl

abbrev VoidRead : Bool → Option Member → Tokens → Tokens → Type 0
VoidRead = Then (Whole (KeywordAt word.Void)) (λ at. Either (Declarator at) (IsDone None))

void_into : (b : Bool) (o : Option Member) (from to : Tokens) → VoidRead b o from to → IsVoidParameter o from to
void_into b o from to w = go w.0 w.1 w.2 w.3
  where
    go : (at : ℕ) (mid : Tokens) → KeywordAt word.Void at from mid → Either (Declarator at) (IsDone None) b o mid to → IsVoidParameter o from to
    go at mid k (inl w) =
        finish (λ o to. IsVoidParameter o from to) w.3.3
        ((w.1, (mid, (record { kind = kind.Keyword word.Void; at = at; text = k.0 }, mid, k.1, refl), (at, k), w.2), w.3.2), refl)
    go at mid k (inr d) = finish (λ o to. IsVoidParameter o from to) d (at, k)

void_back : (b : Bool) (o : Option Member) (from to : Tokens) → IsVoidParameter o from to → VoidRead b o from to
void_back b None from to w = (w.0, to, w.1, inr (refl, refl))
void_back b (Some m) from to w =
    let t = w.0.1 in
    let k : IsKeyword word.Void from t.0 = subst (λ (x : Base). IsBase x from t.0) w.1 t.2 in
    let place : m.of.at ≡ k.0 = sym t.1.3 ∙ ap next_place (sym t.1.2 ∙ k.1.1) in (
      k.0,
      t.0,
      k.1,
      inl (
        m.of.pointers,
        w.0.0,
        t.3,
        (
          m.name,
          to,
          w.0.2,
          (ap₂ (λ (at : ℕ) (x : Base). Some (record { of = record { at = at; base = x; pointers = m.of.pointers }; name = m.name })) place w.1, refl),
        ),
      ),
    )

void_parameter_exact : Exact Anything (Whole IsVoidParameter) parameter_on void_parameter
unfolding void_parameter
void_parameter_exact =
    exact_as Anything VoidRead parameter_on _
    (then_exact _ _ (keyword_exact word.Void) (λ at. Either (Declarator at) (IsDone None)) parameter_on _ (λ at.
    option_exact begins_declarator parameter_on (Declarator at) _
    (ends_wider (Declarator at) _ (meets_exact _ _ _ pointers_exact _ ends _ (λ ps. then_exact _ _ name_exact _ ends _ (λ n.
    done_exact (Some (record { of = record { at = at; base = Void; pointers = ps }; name = n }))))
    (λ b ps m mid to w s. stops_at is_no_name mid _ _ w.2 refl)) parameter_on)
    None (λ b o from to w. declarator_begins w.0 from w.1 w.3.1 _ w.2 w.3.2 refl) declarator_goes_on))
    (Whole IsVoidParameter) void_into void_back

-- ---- the first parameter

abbrev is_void : Base → Bool
is_void Void = true
is_void _ = false

abbrev is_void_parameter : Option Member → Bool
is_void_parameter None = false
is_void_parameter (Some m) = is_void m.of.base

void_is : (x : Base) → is_void x ≡ true → x ≡ Void
void_is Void h = refl
void_is _ h = absurd cc

-- `void` stands only at the front of its type
other_base : (x : Base) (from to : Tokens) → is_void x ≡ false → IsBase x from to → next_is (is_keyword word.Void) from ≡ false
other_base Int from to h w = stops_at (is_keyword word.Void) from _ _ w.1.1 refl
other_base Unsigned from to h w = stops_at (is_keyword word.Void) from _ _ w.1.1.1 refl
other_base Char from to h w = stops_at (is_keyword word.Void) from _ _ w.1.1 refl
other_base Void from to h w = absurd (true≢false h)
other_base (Struct tag rs) from to h w = stops_at (is_keyword word.Void) from _ _ w.2.1.1 refl
other_base (Union tag rs) from to h w = stops_at (is_keyword word.Void) from _ _ w.2.1.1 refl
other_base (Handle r) from to h w = stops_at (is_keyword word.Void) from _ _ w.1.1.1 refl
other_base (Key r) from to h w = stops_at (is_keyword word.Void) from _ _ w.1.1.1 refl

void_base : (x : Base) (from to : Tokens) → IsBase x from to → next_is (is_keyword word.Void) from ≡ false → is_void x ≡ false
void_base Void from to w h = absurd (true≢false (sym (begins_with (is_keyword word.Void) from _ _ w.1.1 refl) ∙ h))
void_base _ from to w h = refl

abbrev SomeTyped : Bool → Option Member → Tokens → Tokens → Type 0
SomeTyped = Made (λ (m : Member). Some m) (Whole IsTyped)

-- a parameter whose type begins otherwise
abbrev OtherTyped : Bool → Option Member → Tokens → Tokens → Type 0
OtherTyped b o from to = SomeTyped b o from to × (is_void_parameter o ≡ false)

typed_other : (b : Bool) (o : Option Member) (t : Token) (rest to : Tokens) → SomeTyped b o (t ∷ rest) to → is_keyword word.Void t.kind ≡ false
    → is_void_parameter o ≡ false
typed_other b o t rest to w h = ap is_void_parameter w.1 ∙ void_base w.0.of.base (t ∷ rest) w.2.1.0 w.2.1.2 h

unfoldable pub int_token : Token
int_token = record { kind = kind.Keyword word.Int; at = nowhere; text = [] }

unfoldable pub name_token : Token
name_token = record { kind = kind.Identifier; at = nowhere; text = [] }

some_typed : Phrase (OtherTyped false)
unfolding int_token name_token
some_typed =
    let m : Member = record { of = record { at = nowhere; base = Int; pointers = [] }; name = record { at = nowhere; text = [] } } in
    record {
      tree = Some m;
      tokens = int_token ∷ name_token ∷ [];
      made_up = (refl, (refl, tt));
      is = λ more. (
        (
          m,
          refl,
          (name_token ∷ more, (name_token ∷ more, (int_token, name_token ∷ more, refl, refl), (nowhere, ([], refl)), refl), refl),
        ),
        refl,
      );
    }

some_typed_exact : Exact Anything SomeTyped parameter_on (read typed_name (λ m. done (Some m)))
some_typed_exact = ends_wider SomeTyped _ (image_exact (Whole IsTyped) (λ k. false) typed_name typed_name_exact (λ m. Some m)) parameter_on

other_typed_exact : Exact (λ ts. Anything ts × (next_is (is_keyword word.Void) ts ≡ false)) OtherTyped parameter_on
    (read typed_name (λ m. done (Some m)))
unfolding int_token
other_typed_exact =
    restrict_exact Anything (is_keyword word.Void) SomeTyped parameter_on _
    (exact_on Anything (λ ts. Anything ts × (next_is (is_keyword word.Void) ts ≡ false)) SomeTyped parameter_on _ some_typed_exact (λ ts g. tt))
    (λ o. is_void_parameter o ≡ false) typed_other int_token refl some_typed

-- a parameter, or `void`
abbrev IsParameter : Option Member → Tokens → Tokens → Type 0
IsParameter None from to = IsKeyword word.Void from to
IsParameter (Some m) from to = IsTyped m from to

parameter_into : (b : Bool) (o : Option Member) (from to : Tokens) → Either (Whole IsVoidParameter) OtherTyped b o from to → IsParameter o from to
parameter_into b None from to (inl w) = w
parameter_into b (Some m) from to (inl w) = w.0
parameter_into b o from to (inr w) = subst (λ (o : Option Member). IsParameter o from to) (sym w.0.1) w.0.2

parameter_back : (b : Bool) (o : Option Member) (from to : Tokens) → IsParameter o from to → Either (Whole IsVoidParameter) OtherTyped b o from to
parameter_back b None from to w = inl w
parameter_back b (Some m) from to w = go (is_void m.of.base) refl
  where
    go : (v : Bool) → is_void m.of.base ≡ v → Either (Whole IsVoidParameter) OtherTyped b (Some m) from to
    go true e = inl (w, void_is m.of.base e)
    go false e = inr ((m, refl, w), e)

void_begins : (b : Bool) (o : Option Member) (from to : Tokens) → IsVoidParameter o from to → next_is (is_keyword word.Void) from ≡ true
void_begins b None from to w = begins_with (is_keyword word.Void) from _ _ w.1.1 refl
void_begins b (Some m) from to w =
    let k : IsKeyword word.Void from w.0.1.0 = subst (λ (x : Base). IsBase x from w.0.1.0) w.1 w.0.1.2 in
    begins_with (is_keyword word.Void) from _ _ k.1.1 refl

no_void : (b : Bool) (o : Option Member) (from to : Tokens) → OtherTyped b o from to → Stops (parameter_on o) to
    → next_is (is_keyword word.Void) from ≡ false
no_void b o from to w s = other_base w.0.0.of.base from w.0.2.1.0 (ap is_void_parameter (sym w.0.1) ∙ w.1) w.0.2.1.2

parameter_exact : Exact Anything (Whole IsParameter) parameter_on
    (choose (is_keyword word.Void) void_parameter (read typed_name (λ m. done (Some m))))
parameter_exact =
    exact_as Anything (Either (Whole IsVoidParameter) OtherTyped) parameter_on _
    (choose_exact Anything (is_keyword word.Void) parameter_on
    (Whole IsVoidParameter) void_parameter
    (exact_on Anything (λ ts. Anything ts × (next_is (is_keyword word.Void) ts ≡ true)) (Whole IsVoidParameter) parameter_on _ void_parameter_exact
    (λ ts g. tt))
    OtherTyped _ other_typed_exact void_begins no_void)
    (Whole IsParameter) parameter_into parameter_back

abbrev IsFirstParameter : Option Member → Tokens → Tokens → Type 0
IsFirstParameter None from to = (from ≡ to) ⊎ IsKeyword word.Void from to
IsFirstParameter (Some m) from to = IsTyped m from to

first_into : (b : Bool) (o : Option Member) (from to : Tokens) → Either (Whole IsParameter) (IsDone None) b o from to → IsFirstParameter o from to
first_into b None from to (inl w) = inr w
first_into b (Some m) from to (inl w) = w
first_into b o from to (inr d) = finish (λ o to. IsFirstParameter o from to) d (inl refl)

first_back : (b : Bool) (o : Option Member) (from to : Tokens) → IsFirstParameter o from to → Either (Whole IsParameter) (IsDone None) b o from to
first_back b None from to (inl e) = inr (refl, e)
first_back b None from to (inr w) = inl w
first_back b (Some m) from to w = inl w

parameter_begins : (b : Bool) (o : Option Member) (from to : Tokens) → IsParameter o from to → next_is begins_type from ≡ true
parameter_begins b None from to w = begins_with begins_type from _ _ w.1.1 refl
parameter_begins b (Some m) from to w = let f = type_first m.of from w.0 w.1 in begins_with begins_type from f.0 f.1 f.2 f.3

type_goes_on : (k : TokenKind) → begins_type k ≡ true → no_parameters_end k ≡ true
type_goes_on (kind.Sign s) h = absurd cc
type_goes_on _ h = refl

first_parameter_exact : Exact Anything (Whole IsFirstParameter) parameter_on first_parameter
unfolding first_parameter
first_parameter_exact =
    exact_as Anything (Either (Whole IsParameter) (IsDone None)) parameter_on _
    (option_exact begins_type parameter_on (Whole IsParameter) _ parameter_exact None parameter_begins type_goes_on)
    (Whole IsFirstParameter) first_into first_back

-- ---- parameters

abbrev OtherParameters : Option Member → Bool → List Member → Tokens → Tokens → Type 0
OtherParameters None = IsDone []
OtherParameters (Some first) = Made (λ others. first ∷ others) (Whole (Each (Behind sign_of.Comma IsTyped)))

comma_goes_on : (k : TokenKind) → is_sign sign_of.Comma k ≡ true → no_parameters_end k ≡ true
comma_goes_on (kind.Sign sign_of.Comma) h = refl
comma_goes_on _ h = absurd cc

other_parameters_exact : (first : Option Member) → Exact Anything (OtherParameters first) (always no_parameters_end) (other_parameters first)
unfolding other_parameters
other_parameters_exact None = ends_wider (IsDone []) _ (done_exact []) (always no_parameters_end)
other_parameters_exact (Some first) =
    image_exact (Whole (Each (Behind sign_of.Comma IsTyped))) no_parameters_end (many (is_sign sign_of.Comma) (behind sign_of.Comma typed_name))
    (exact_wider Anything (Whole (Each (Behind sign_of.Comma IsTyped))) (always (is_sign sign_of.Comma)) (always no_parameters_end) _
    (commas_exact IsTyped typed_name typed_name_exact) (λ ms. comma_goes_on))
    (λ others. first ∷ others)

parameters_meet : (b : Bool) (first : Option Member) (ms : List Member) (mid to : Tokens) → OtherParameters first b ms mid to
    → Stops no_parameters_end to
    → Stops (parameter_on first) mid
parameters_meet b None ms mid to d s = subst (Stops no_parameters_end) (sym d.1) s
parameters_meet b (Some first) ms mid to w s = stops_ends ms mid

parameters_into : (b : Bool) (ms : List Member) (from to : Tokens) → Then (Whole IsFirstParameter) OtherParameters b ms from to
    → AreParameters ms from to
parameters_into b ms from to w = go w.0 w.1 w.2 w.3
  where
    go : (first : Option Member) (mid : Tokens) → IsFirstParameter first from mid → OtherParameters first b ms mid to → AreParameters ms from to
    go None mid w d = finish (λ ms to. AreParameters ms from to) d w
    go (Some first) mid w others = subst (λ (ms : List Member). AreParameters ms from to) (sym others.1) (mid, w, others.2)

parameters_back : (b : Bool) (ms : List Member) (from to : Tokens) → AreParameters ms from to
    → Then (Whole IsFirstParameter) OtherParameters b ms from to
parameters_back b [] from to w = (None, to, w, (refl, refl))
parameters_back b (m ∷ ms) from to w = (Some m, w.0, w.1, (ms, refl, w.2))

pub parameters_exact : Exact Anything (Whole AreParameters) (always no_parameters_end) parameters
unfolding parameters
parameters_exact =
    exact_as Anything (Then (Whole IsFirstParameter) OtherParameters) (always no_parameters_end) _
    (meets_exact (Whole IsFirstParameter) parameter_on first_parameter first_parameter_exact OtherParameters
    (always no_parameters_end) other_parameters
    other_parameters_exact parameters_meet)
    (Whole AreParameters) parameters_into parameters_back
