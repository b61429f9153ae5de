-- The readers of single tokens are exact.
use Rattle.std.proofs.Common.{◌≡◌, ◌≢◌, ℕ, Bool, true, false, List, [], ◌∷◌, codes, refl, sym, ap, subst, ◌∙◌, ap₂, true≢false, cond}
use Rattle.std.proofs.lemmas.Bool.{false_from_ne_true}
use Rattle.cyc_lexer.specs.Lexing.{Token}
use Rattle.cyc_lexer.specs.Reading.{same}
use Rattle.cyc_lexer.proofs.ReadWords.{same-true}
use Rattle.cyc_lexer.specs.declared.token.Keyword.{Keyword}
use Rattle.cyc_lexer.specs.declared.token.Sign.{Sign}
use Rattle.cyc_lexer.specs.declared.token.TokenKind.{TokenKind}
use Rattle.cyc_lexer.specs.declared.token.TokenKind.TheVariants as kind
use Rattle.cyc_tree.specs.Tree.{Name, RegionName, Heap, Unique, Named}
use Rattle.source_grammar.specs.Phrases.{Tokens, IsOne, KeywordAt, SignAt, IsName, IsRegion, after_backquote}
use Rattle.cyc_parser.specs.Tests.{is_sign, is_keyword, is_identifier, is_region, is_number}
use Rattle.cyc_parser.specs.Reader.{done, read, token, sign, keyword}
use Rattle.cyc_parser.specs.ReadTypes.{name_of, name, region_of, region, value_of, number}
use Rattle.cyc_parser.specs.Exact.{nowhere, Exact, Anything, ends, IsToken, Whole}
use Rattle.cyc_parser.proofs.Exact.{token_exact, made_exact}
use Rattle.cyc_parser.proofs.exactness.Kinds.{keyword_is, keyword_passes, sign_is, sign_passes}

-- a token of this kind, from which a value is made
pub one_exact : {B : Type 0} (test : TokenKind → Bool) (sample : TokenKind) → test sample ≡ true → (f : Token → B) (As : B → Tokens → Tokens → Type 0)
    → ((t : Token) (to : Tokens) → test t.kind ≡ true → As (f t) (t ∷ to) to)
    → ((c : B) (from to : Tokens) → As c from to → (t : Token) × (c ≡ f t) × (from ≡ t ∷ to) × (test t.kind ≡ true))
    → Exact Anything (Whole As) ends (read (token test) (λ t. done (f t)))
one_exact test sample passes f As into back =
    made_exact Anything (IsToken test) ends (token test)
    (token_exact test (record { kind = sample; at = nowhere; text = [] }) passes refl) f ends (λ a k h. h) (Whole As)
    (λ b t from to w. subst (λ ts. As (f t) ts to) (sym w.0) (into t to w.1))
    (λ b c from to w. let p = back c from to w in (p.0, p.1, (p.2, p.3)))

-- a token is of the kind that it is tested for
pub of_kind : (t : Token) (k : TokenKind) (to : Tokens) → t.kind ≡ k → t ∷ to ≡ record { kind = k; at = t.at; text = t.text } ∷ to
of_kind t k to e = ap (λ (x : TokenKind). record { kind = x; at = t.at; text = t.text } ∷ to) e

pub sign_exact : (s : Sign) → Exact Anything (Whole (SignAt s)) ends (sign s)
sign_exact s =
    one_exact (is_sign s) (kind.Sign s) (sign_passes s) (λ t. t.at) (SignAt s)
    (λ t to h. (t.text, of_kind t (kind.Sign s) to (sign_is s t.kind h)))
    (λ at from to w. (record { kind = kind.Sign s; at = at; text = w.0 }, refl, w.1, sign_passes s))

pub keyword_exact : (w : Keyword) → Exact Anything (Whole (KeywordAt w)) ends (keyword w)
keyword_exact w =
    one_exact (is_keyword w) (kind.Keyword w) (keyword_passes w) (λ t. t.at) (KeywordAt w)
    (λ t to h. (t.text, of_kind t (kind.Keyword w) to (keyword_is w t.kind h)))
    (λ at from to p. (record { kind = kind.Keyword w; at = at; text = p.0 }, refl, p.1, keyword_passes w))

identifier_is : (k : TokenKind) → is_identifier k ≡ true → k ≡ kind.Identifier
identifier_is kind.Identifier h = refl
identifier_is _ h = absurd cc

pub name_exact : Exact Anything (Whole IsName) ends name
unfolding name
name_exact =
    one_exact is_identifier kind.Identifier refl name_of IsName
    (λ t to h. of_kind t kind.Identifier to (identifier_is t.kind h))
    (λ n from to w. (record { kind = kind.Identifier; at = n.at; text = n.text }, refl, w, refl))

-- ---- regions

region_is : (k : TokenKind) → is_region k ≡ true → k ≡ kind.Region
region_is kind.Region h = refl
region_is _ h = absurd cc

abbrev heap_text : List ℕ
heap_text = codes "`H"

abbrev unique_text : List ℕ
unique_text = codes "`U"

of_text : (t : Token) (text : List ℕ) (to : Tokens) → t.kind ≡ kind.Region → t.text ≡ text
    → t ∷ to ≡ record { kind = kind.Region; at = t.at; text = text } ∷ to
of_text t text to e h = of_kind t kind.Region to e ∙ ap (λ (x : List ℕ). record { kind = kind.Region; at = t.at; text = x } ∷ to) h

differs : (text other : List ℕ) → same text other ≡ false → same other other ≡ true → text ≢ other
differs text other e h q = true≢false (sym h ∙ ap (λ x. same x other) (sym q) ∙ e)

differs_back : (text other : List ℕ) → text ≢ other → same text other ≡ false
differs_back text other d = false_from_ne_true (same text other) (λ h. d (same-true text other h))

abbrev region_by : Token → Bool → Bool → RegionName
region_by t h u = cond h (Heap t.at) (cond u (Unique t.at) (Named (record { at = t.at; text = after_backquote t.text })))

-- a region token's region, and back
region_into : (t : Token) (to : Tokens) → t.kind ≡ kind.Region → IsRegion (region_of t) (t ∷ to) to
region_into t to e = go (same t.text heap_text) (same t.text unique_text) refl refl
  where
    go : (h u : Bool) → same t.text heap_text ≡ h → same t.text unique_text ≡ u → IsRegion (region_by t h u) (t ∷ to) to
    go true u eh eu = of_text t heap_text to e (same-true t.text heap_text eh)
    go false true eh eu = of_text t unique_text to e (same-true t.text unique_text eu)
    go false false eh eu =
        (t.text, of_kind t kind.Region to e, refl, differs t.text heap_text eh refl, differs t.text unique_text eu refl)

named_back : (n : Name) (text : List ℕ) → n.text ≡ after_backquote text → text ≢ heap_text → text ≢ unique_text
    → Named n ≡ region_of (record { kind = kind.Region; at = n.at; text = text })
named_back n text e h u =
    ap (λ (x : List ℕ). Named (record { at = n.at; text = x })) e
    ∙ sym (ap₂ (λ (x y : Bool). region_by (record { kind = kind.Region; at = n.at; text = text }) x y)
    (differs_back text heap_text h) (differs_back text unique_text u))

region_back : (r : RegionName) (from to : Tokens) → IsRegion r from to → (t : Token) × (r ≡ region_of t) × (from ≡ t ∷ to) × (is_region t.kind ≡ true)
region_back (Heap at) from to w = (record { kind = kind.Region; at = at; text = heap_text }, refl, w, refl)
region_back (Unique at) from to w = (record { kind = kind.Region; at = at; text = unique_text }, refl, w, refl)
region_back (Named n) from to w = (record { kind = kind.Region; at = n.at; text = w.0 }, named_back n w.0 w.2 w.3 w.4, w.1, refl)

pub region_exact : Exact Anything (Whole IsRegion) ends region
unfolding region
region_exact = one_exact is_region kind.Region refl region_of IsRegion (λ t to h. region_into t to (region_is t.kind h)) region_back

-- ---- numbers

-- a number, with its suffix, wherever it stands
abbrev pub IsNumber : ℕ × Bool → Tokens → Tokens → Type 0
IsNumber n from to = (at : ℕ) × IsOne (kind.Number n.0 n.1) at from to

number_is : (k : TokenKind) → is_number k ≡ true → k ≡ kind.Number (value_of k).0 (value_of k).1
number_is (kind.Number value suffix) h = refl
number_is _ h = absurd cc

pub number_exact : Exact Anything (Whole IsNumber) ends number
unfolding number
number_exact =
    one_exact is_number (kind.Number 0 false) refl (λ t. value_of t.kind) IsNumber
    (λ t to h. (t.at, (t.text, of_kind t (kind.Number (value_of t.kind).0 (value_of t.kind).1) to (number_is t.kind h))))
    (λ n from to w. (record { kind = kind.Number n.0 n.1; at = w.0; text = w.1.0 }, refl, w.1.1, refl))
