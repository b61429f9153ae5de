-- The readers of what types begin with are exact.
use Rattle.std.proofs.Common.{◌≡◌, ◌⊎◌, ℕ, Bool, true, ◌||◌, List, [], ◌∷◌, refl, inl, inr}
use Rattle.cyc_lexer.specs.Lexing.{Token}
use Rattle.cyc_lexer.specs.declared.token.Keyword.{Keyword}
use Rattle.cyc_lexer.specs.declared.token.Keyword.TheVariants as word
use Rattle.cyc_lexer.specs.declared.token.Sign.TheVariants as sign_of
use Rattle.cyc_lexer.specs.declared.token.TokenKind.{TokenKind}
use Rattle.cyc_lexer.specs.declared.token.TokenKind.TheVariants as kind
use Rattle.cyc_tree.specs.Tree.{RegionName, Base, Int, Unsigned, Char, Void, Struct, Union, Handle, Key}
use Rattle.source_grammar.specs.Phrases.{Tokens, KeywordAt, IsKeyword, IsName}
use Rattle.source_grammar.specs.TypeGrammar.{AreRegions, IsOneRegion, IsBase}
use Rattle.cyc_parser.specs.Tests.{is_sign, is_keyword, begins_type}
use Rattle.cyc_parser.specs.Reader.{done, read, token}
use Rattle.cyc_parser.specs.ReadTypes.{region_list, base_behind, base}
use Rattle.cyc_parser.specs.Exact.{nowhere, Exact, Anything, ends, always, IsToken, IsDone, Then, Either, Whole}
use Rattle.cyc_parser.proofs.Exact.{token_exact, done_exact, exact_as}
use Rattle.cyc_parser.proofs.exactness.Composed.{begins_with, stops_behind, then_exact, meets_exact, option_exact, finish, ends_wider}
use Rattle.cyc_parser.proofs.exactness.Tokens.{keyword_exact, name_exact}
use Rattle.cyc_parser.proofs.exactness.Regions.{one_region_exact, region_list_exact}

-- what a base would go on with
abbrev pub base_on : TokenKind → Bool
base_on k = is_keyword word.Int k || is_sign sign_of.Less k

int_within : (k : TokenKind) → is_keyword word.Int k ≡ true → base_on k ≡ true
int_within (kind.Keyword word.Int) h = refl
int_within _ h = absurd cc

less_within : (k : TokenKind) → is_sign sign_of.Less k ≡ true → base_on k ≡ true
less_within (kind.Sign sign_of.Less) h = refl
less_within _ h = absurd cc

-- what stands behind a base's first word
abbrev BaseBehind : TokenKind → Bool → Base → Tokens → Tokens → Type 0
BaseBehind (kind.Keyword word.Unsigned) = Either (Then (Whole (KeywordAt word.Int)) (λ _. IsDone Unsigned)) (IsDone Unsigned)
BaseBehind (kind.Keyword word.Char) = IsDone Char
BaseBehind (kind.Keyword word.Void) = IsDone Void
BaseBehind (kind.Keyword word.Struct) = Then (Whole IsName) (λ tag. Then (Whole AreRegions) (λ rs. IsDone (Struct tag rs)))
BaseBehind (kind.Keyword word.Union) = Then (Whole IsName) (λ tag. Then (Whole AreRegions) (λ rs. IsDone (Union tag rs)))
BaseBehind (kind.Keyword word.RegionT) = Then (Whole IsOneRegion) (λ r. IsDone (Handle r))
BaseBehind (kind.Keyword word.UregionKeyT) = Then (Whole IsOneRegion) (λ r. IsDone (Key r))
BaseBehind _ = IsDone Int

done_base : (x : Base) → Exact Anything (IsDone x) (always base_on) (done x)
done_base x = ends_wider (IsDone x) _ (done_exact x) (always base_on)

tagged_base : (make : List RegionName → Base)
    → Exact Anything (Then (Whole AreRegions) (λ rs. IsDone (make rs))) (always base_on) (read region_list (λ rs. done (make rs)))
tagged_base make =
    meets_exact (Whole AreRegions) (always (is_sign sign_of.Less)) region_list region_list_exact (λ rs. IsDone (make rs)) (always base_on)
    (λ rs. done (make rs))
    (λ rs. done_base (make rs)) (λ b rs x mid to w s. stops_behind (is_sign sign_of.Less) base_on less_within w.1 s)

base_behind_exact : (k : TokenKind) → Exact Anything (BaseBehind k) (always base_on) (base_behind k)
base_behind_exact (kind.Keyword word.Unsigned) =
    option_exact (is_keyword word.Int) (always base_on) (Then (Whole (KeywordAt word.Int)) (λ _. IsDone Unsigned)) _
    (ends_wider _ _ (then_exact _ _ (keyword_exact word.Int) _ ends _ (λ _. done_exact Unsigned)) (always base_on)) Unsigned
    (λ b x from to w. begins_with (is_keyword word.Int) from _ _ w.2.1 refl) int_within
base_behind_exact (kind.Keyword word.Char) = done_base Char
base_behind_exact (kind.Keyword word.Void) = done_base Void
base_behind_exact (kind.Keyword word.Struct) =
    then_exact _ _ name_exact _ (always base_on) _ (λ tag. tagged_base (Struct tag))
base_behind_exact (kind.Keyword word.Union) =
    then_exact _ _ name_exact _ (always base_on) _ (λ tag. tagged_base (Union tag))
base_behind_exact (kind.Keyword word.RegionT) =
    ends_wider _ _ (then_exact _ _ one_region_exact _ ends _ (λ r. done_exact (Handle r))) (always base_on)
base_behind_exact (kind.Keyword word.UregionKeyT) =
    ends_wider _ _ (then_exact _ _ one_region_exact _ ends _ (λ r. done_exact (Key r))) (always base_on)
base_behind_exact _ = done_base Int

base_into : (k : TokenKind) (at : ℕ) (text : List ℕ) (b : Bool) (x : Base) (from mid to : Tokens)
    → from ≡ record { kind = k; at = at; text = text } ∷ mid
    → begins_type k ≡ true → BaseBehind k b x mid to → IsBase x from to
base_into (kind.Keyword word.Int) at text b x from mid to e h d = finish (λ x to. IsBase x from to) d (at, (text, e))
base_into (kind.Keyword word.Unsigned) at text b x from mid to e h (inl w) = finish (λ x to. IsBase x from to) w.3
    (mid, (at, (text, e)), inl (w.0, w.2))
base_into (kind.Keyword word.Unsigned) at text b x from mid to e h (inr d) = finish (λ x to. IsBase x from to) d (mid, (at, (text, e)), inr refl)
base_into (kind.Keyword word.Char) at text b x from mid to e h d = finish (λ x to. IsBase x from to) d (at, (text, e))
base_into (kind.Keyword word.Void) at text b x from mid to e h d = finish (λ x to. IsBase x from to) d (at, (text, e))
base_into (kind.Keyword word.Struct) at text b x from mid to e h w =
    finish (λ x to. IsBase x from to) w.3.3 (mid, w.1, (at, (text, e)), w.2, w.3.2)
base_into (kind.Keyword word.Union) at text b x from mid to e h w =
    finish (λ x to. IsBase x from to) w.3.3 (mid, w.1, (at, (text, e)), w.2, w.3.2)
base_into (kind.Keyword word.RegionT) at text b x from mid to e h w = finish (λ x to. IsBase x from to) w.3 (mid, (at, (text, e)), w.2)
base_into (kind.Keyword word.UregionKeyT) at text b x from mid to e h w = finish (λ x to. IsBase x from to) w.3 (mid, (at, (text, e)), w.2)
base_into _ at text b x from mid to e h w = absurd cc

abbrev BaseRead : Bool → Base → Tokens → Tokens → Type 0
BaseRead = Then (IsToken begins_type) (λ t. BaseBehind t.kind)

-- a keyword's token
abbrev of_word : Keyword → ℕ → List ℕ → Token
of_word k at text = record { kind = kind.Keyword k; at = at; text = text }

base_back : (b : Bool) (x : Base) (from to : Tokens) → IsBase x from to → BaseRead b x from to
base_back b Int from to w = (of_word word.Int w.0 w.1.0, to, (w.1.1, refl), (refl, refl))
base_back b Unsigned from to w = (of_word word.Unsigned w.1.0 w.1.1.0, w.0, (w.1.1.1, refl), more w.0 w.2)
  where
    more : (mid : Tokens) → IsKeyword word.Int mid to ⊎ (mid ≡ to) → BaseBehind (kind.Keyword word.Unsigned) b Unsigned mid to
    more mid (inl k) = inl (k.0, to, k.1, (refl, refl))
    more mid (inr e) = inr (refl, e)
base_back b Char from to w = (of_word word.Char w.0 w.1.0, to, (w.1.1, refl), (refl, refl))
base_back b Void from to w = (of_word word.Void w.0 w.1.0, to, (w.1.1, refl), (refl, refl))
base_back b (Struct tag rs) from to w = (of_word word.Struct w.2.0 w.2.1.0, w.0, (w.2.1.1, refl), (tag, w.1, w.3, (rs, to, w.4, (refl, refl))))
base_back b (Union tag rs) from to w = (of_word word.Union w.2.0 w.2.1.0, w.0, (w.2.1.1, refl), (tag, w.1, w.3, (rs, to, w.4, (refl, refl))))
base_back b (Handle r) from to w = (of_word word.RegionT w.1.0 w.1.1.0, w.0, (w.1.1.1, refl), (r, to, w.2, (refl, refl)))
base_back b (Key r) from to w = (of_word word.UregionKeyT w.1.0 w.1.1.0, w.0, (w.1.1.1, refl), (r, to, w.2, (refl, refl)))

pub base_exact : Exact Anything (Whole IsBase) (always base_on) base
unfolding base
base_exact =
    exact_as Anything BaseRead (always base_on) _
    (then_exact (IsToken begins_type) (token begins_type) (token_exact begins_type (of_word word.Int nowhere []) refl refl) (λ t. BaseBehind t.kind)
    (always base_on)
    (λ t. base_behind t.kind) (λ t. base_behind_exact t.kind))
    (Whole IsBase) (λ b x from to w. base_into w.0.kind w.0.at w.0.text b x from w.1 to w.2.0 w.2.1 w.3) base_back

-- a base's first token
pub base_first : (x : Base) (from to : Tokens) → IsBase x from to → (t : Token) × (rest : Tokens) × (from ≡ t ∷ rest) × (begins_type t.kind ≡ true)
base_first x from to w = let r = base_back true x from to w in (r.0, r.1, r.2.0, r.2.1)
