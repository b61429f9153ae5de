-- The readers of names, types and constants are exact.
use Rattle.std.proofs.Common.{◌≡◌, ℕ, Bool, true, false, List, [], ◌∷◌, refl, sym, ap, subst, ◌∙◌}
use Rattle.cyc_lexer.specs.Lexing.{Token}
use Rattle.cyc_lexer.specs.Spelling.{text_bytes}
use Rattle.cyc_lexer.specs.declared.token.Keyword.TheVariants as word
use Rattle.cyc_lexer.specs.declared.token.Sign.TheVariants as sign_of
use Rattle.cyc_lexer.specs.declared.token.TokenKind.{TokenKind}
use Rattle.cyc_lexer.specs.declared.token.TokenKind.TheVariants as kind
use Rattle.cyc_tree.specs.Tree as tree
use Rattle.cyc_tree.specs.Tree.{Base, Pointer, TypeName}
use Rattle.source_grammar.specs.Phrases.{Tokens, SignAt, IsName, StartsAt, Each}
use Rattle.source_grammar.specs.TypeGrammar.{IsBase, IsPointer, IsType, IsTyped}
use Rattle.source_grammar.specs.StatementGrammar.{IsCount}
use Rattle.source_grammar.specs.Grammar.{IsConstant}
use Rattle.cyc_parser.specs.Reading.{next_place}
use Rattle.cyc_parser.specs.Tests.{begins_type, begins_pointer, begins_constant}
use Rattle.cyc_parser.specs.Reader.{token, placed}
use Rattle.cyc_parser.specs.ReadTypes.{base, pointers, type_name, typed_name, element_count, constant_behind, constant}
use Rattle.cyc_parser.specs.Exact.{nowhere, Exact, Anything, ends, always, Stops, IsToken, IsDone, IsPlaced, Then, Whole}
use Rattle.cyc_parser.proofs.Exact.{token_exact, done_exact, placed_exact, exact_as}
use Rattle.cyc_parser.proofs.exactness.Composed.{begins_stops, stops_at, stops_behind, then_exact, meets_exact, Made, image_exact, finish}
use Rattle.cyc_parser.proofs.exactness.Kinds.{keyword_is, sign_is}
use Rattle.cyc_parser.proofs.exactness.Bases.{base_on, base_exact, base_first}
use Rattle.cyc_parser.proofs.exactness.Pointers.{pointer_begins}
pub use Rattle.cyc_parser.proofs.exactness.Tokens.{sign_exact, keyword_exact, name_exact, region_exact, IsNumber, number_exact}
pub use Rattle.cyc_parser.proofs.exactness.Regions.{one_region_exact, regions_exact, region_list_exact}
pub use Rattle.cyc_parser.proofs.exactness.Pointers.{is_no_name, pointers_exact}

-- ---- types

base_no_name : (k : TokenKind) → base_on k ≡ true → is_no_name k ≡ true
base_no_name kind.Identifier h = absurd cc
base_no_name _ h = refl

pointer_no_base : (k : TokenKind) → begins_pointer k ≡ true → base_on k ≡ false
pointer_no_base (kind.Sign sign_of.Star) h = refl
pointer_no_base (kind.Sign sign_of.At) h = refl
pointer_no_base (kind.Sign sign_of.Question) h = refl
pointer_no_base _ h = absurd cc

-- pointers begin with none of what a base would go on with
pub pointers_meet : (ps : List Pointer) (from to : Tokens) → Each IsPointer ps from to → Stops is_no_name to → Stops base_on from
pointers_meet [] from to w s = stops_behind base_on is_no_name base_no_name w s
pointers_meet (p ∷ ps) from to w s = begins_stops begins_pointer base_on pointer_no_base from (pointer_begins p from w.0 w.1)

abbrev TypeRead : Bool → TypeName → Tokens → Tokens → Type 0
TypeRead = Then (IsPlaced (Whole IsBase)) (λ x. Made (λ ps. record { at = x.0; base = x.1; pointers = ps }) (Whole (Each IsPointer)))

starts : (at : ℕ) (x : Base) (from to : Tokens) → at ≡ next_place from → IsBase x from to → StartsAt at from
starts at x from to e w = let f = base_first x from to w in (f.0, f.1, f.2, sym (e ∙ ap next_place f.2))

type_into : (b : Bool) (t : TypeName) (from to : Tokens) → TypeRead b t from to → IsType t from to
type_into b t from to w =
    subst (λ (t : TypeName). IsType t from to) (sym w.3.1) (w.1, starts w.0.0 w.0.1 from w.1 w.2.0 w.2.1, w.2.1, w.3.2)

type_back : (b : Bool) (t : TypeName) (from to : Tokens) → IsType t from to → TypeRead b t from to
type_back b t from to w = ((t.at, t.base), w.0, (sym (ap next_place w.1.2 ∙ w.1.3), w.2), (t.pointers, refl, w.3))

pub type_exact : Exact Anything (Whole IsType) (always is_no_name) type_name
unfolding type_name
type_exact =
    exact_as Anything TypeRead (always is_no_name) _
    (meets_exact (IsPlaced (Whole IsBase)) (always base_on) (placed base)
    (placed_exact Anything (Whole IsBase) (always base_on) base base_exact (λ b x from to w. let f = base_first x from to w in (f.0, f.1, f.2)))
    (λ x. Made (λ ps. record { at = x.0; base = x.1; pointers = ps }) (Whole (Each IsPointer))) (always is_no_name) _
    (λ x. image_exact (Whole (Each IsPointer)) is_no_name pointers pointers_exact (λ ps. record { at = x.0; base = x.1; pointers = ps }))
    (λ b x t mid to w s. pointers_meet w.0 mid to w.2 s))
    (Whole IsType) type_into type_back

-- a type's first token
pub type_first : (t : TypeName) (from to : Tokens) → IsType t from to
    → (k : Token) × (rest : Tokens) × (from ≡ k ∷ rest) × (begins_type k.kind ≡ true)
type_first t from to w = base_first t.base from w.0 w.2

pub typed_name_exact : Exact Anything (Whole IsTyped) ends typed_name
unfolding typed_name
typed_name_exact =
    exact_as Anything (Then (Whole IsType) (λ t. Then (Whole IsName) (λ n. IsDone (record { of = t; name = n })))) ends _
    (meets_exact _ _ _ type_exact _ ends _ (λ t. then_exact _ _ name_exact _ ends _ (λ n. done_exact (record { of = t; name = n })))
    (λ b t m mid to w s. stops_at is_no_name mid _ _ w.2 refl))
    (Whole IsTyped) (λ b m from to w. finish (λ m to. IsTyped m from to) w.3.3 (w.1, w.2, w.3.2))
    (λ b m from to w. (m.of, w.0, w.1, (m.name, to, w.2, (refl, refl))))

-- ---- counts and constants

pub element_count_exact : Exact Anything (Whole IsCount) ends element_count
unfolding element_count
element_count_exact =
    exact_as Anything (Then (Whole (SignAt sign_of.LeftBracket))
    (λ _. Then (Whole IsNumber) (λ n. Then (Whole (SignAt sign_of.RightBracket)) (λ _. IsDone n.0)))) ends _
    (then_exact _ _ (sign_exact sign_of.LeftBracket) _ ends _ (λ _. then_exact _ _ number_exact _ ends _ (λ n.
    then_exact _ _ (sign_exact sign_of.RightBracket) _ ends _ (λ _. done_exact n.0))))
    (Whole IsCount)
    (λ b n from to w. finish (λ n to. IsCount n from to) w.3.3.3 (w.1, w.3.1, w.3.2.0, w.3.0.1, (w.0, w.2), w.3.2.1, (w.3.3.0, w.3.3.2)))
    (λ b n from to w. (w.4.0, w.0, w.4.1, ((n, w.3), w.1, (w.2, w.5), (w.6.0, to, w.6.1, (refl, refl)))))

-- what stands behind a constant's first token
abbrev ConstantBehind : Token → TokenKind → Bool → tree.Constant → Tokens → Tokens → Type 0
ConstantBehind t (kind.Number value suffix) = IsDone (tree.Constant.Number t.at value suffix)
ConstantBehind t (kind.Sign s) = Then (Whole IsNumber) (λ n. IsDone (tree.Constant.Negative t.at n.0 n.1))
ConstantBehind t (kind.Character byte) = IsDone (tree.Constant.Character t.at byte)
ConstantBehind t kind.Text = IsDone (tree.Constant.Text t.at (text_bytes t.text))
ConstantBehind t _ = IsDone (tree.Constant.Null t.at)

constant_behind_exact : (t : Token) (k : TokenKind) → Exact Anything (ConstantBehind t k) ends (constant_behind t k)
constant_behind_exact t (kind.Number value suffix) = done_exact (tree.Constant.Number t.at value suffix)
constant_behind_exact t (kind.Sign s) = then_exact _ _ number_exact _ ends _ (λ n. done_exact (tree.Constant.Negative t.at n.0 n.1))
constant_behind_exact t (kind.Character byte) = done_exact (tree.Constant.Character t.at byte)
constant_behind_exact t kind.Text = done_exact (tree.Constant.Text t.at (text_bytes t.text))
constant_behind_exact t _ = done_exact (tree.Constant.Null t.at)

abbrev ConstantRead : Bool → tree.Constant → Tokens → Tokens → Type 0
ConstantRead = Then (IsToken begins_constant) (λ t. ConstantBehind t t.kind)

abbrev of_token : TokenKind → Token → Token
of_token k t = record { kind = k; at = t.at; text = t.text }

constant_of : (k : TokenKind) (t : Token) (b : Bool) (c : tree.Constant) (from mid to : Tokens) → from ≡ of_token k t ∷ mid → begins_constant k ≡ true
    → ConstantBehind t k b c mid to → IsConstant c from to
constant_of (kind.Number value suffix) t b c from mid to e h d = finish (λ c to. IsConstant c from to) d (t.text, e)
constant_of (kind.Sign s) t b c from mid to e h w =
    finish (λ c to. IsConstant c from to) w.3
    (mid, w.2.0, (t.text, e ∙ ap (λ (k : TokenKind). of_token k t ∷ mid) (sign_is sign_of.Minus (kind.Sign s) h)), w.2.1)
constant_of (kind.Character byte) t b c from mid to e h d = finish (λ c to. IsConstant c from to) d (t.text, e)
constant_of kind.Text t b c from mid to e h d = finish (λ c to. IsConstant c from to) d (t.text, e, refl)
constant_of (kind.Keyword w) t b c from mid to e h d =
    finish (λ c to. IsConstant c from to) d (t.text, e ∙ ap (λ (k : TokenKind). of_token k t ∷ mid) (keyword_is word.Null (kind.Keyword w) h))
constant_of kind.Identifier t b c from mid to e h d = absurd cc
constant_of kind.Region t b c from mid to e h d = absurd cc

constant_back : (b : Bool) (c : tree.Constant) (from to : Tokens) → IsConstant c from to → ConstantRead b c from to
constant_back b (tree.Constant.Number at value suffix) from to w =
    (record { kind = kind.Number value suffix; at = at; text = w.0 }, to, (w.1, refl), (refl, refl))
constant_back b (tree.Constant.Negative at value suffix) from to w =
    (record { kind = kind.Sign sign_of.Minus; at = at; text = w.2.0 }, w.0, (w.2.1, refl), ((value, suffix), to, (w.1, w.3), (refl, refl)))
constant_back b (tree.Constant.Character at byte) from to w = (
  record { kind = kind.Character byte; at = at; text = w.0 },
  to,
  (w.1, refl),
  (refl, refl),
)
constant_back b (tree.Constant.Text at bytes) from to w =
    (record { kind = kind.Text; at = at; text = w.0 }, to, (w.1, refl), (ap (λ (x : List ℕ). tree.Constant.Text at x) w.2, refl))
constant_back b (tree.Constant.Null at) from to w =
    (record { kind = kind.Keyword word.Null; at = at; text = w.0 }, to, (w.1, refl), (refl, refl))

pub constant_exact : Exact Anything (Whole IsConstant) ends constant
unfolding constant
constant_exact =
    exact_as Anything ConstantRead ends _
    (then_exact (IsToken begins_constant) (token begins_constant)
    (token_exact begins_constant (record { kind = kind.Text; at = nowhere; text = [] }) refl refl)
    (λ t. ConstantBehind t t.kind) ends (λ t. constant_behind t t.kind) (λ t. constant_behind_exact t t.kind))
    (Whole IsConstant) (λ b c from to w. constant_of w.0.kind w.0 b c from w.1 to w.2.0 w.2.1 w.3) constant_back
