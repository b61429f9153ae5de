-- The reader of items is exact.
use Rattle.std.proofs.Common.{◌≡◌, ℕ, Bool, true, false, List, [], ◌∷◌, refl, sym, ap, ap₂, subst, ◌∙◌, inl, inr, true≢false}
use Rattle.cyc_lexer.specs.Lexing.{Token}
use Rattle.cyc_lexer.specs.declared.token.Keyword.TheVariants as word
use Rattle.cyc_lexer.specs.declared.token.Sign.TheVariants as sign_of
use Rattle.cyc_lexer.specs.declared.token.TokenKind.{TokenKind}
use Rattle.cyc_lexer.specs.declared.token.TokenKind.TheVariants as kind
use Rattle.cyc_tree.specs.Tree.{Name, RegionName, Base, Int, Unsigned, Char, Void, Struct, Union, Handle, Key, TypeName, Initial, Item, StructItem, UnionItem}
use Rattle.cyc_tree.specs.Tree.{GlobalItem, FunctionItem}
use Rattle.source_grammar.specs.Phrases.{Tokens, KeywordAt, IsKeyword, IsName, Each}
use Rattle.source_grammar.specs.TypeGrammar.{AreRegions, IsBase, IsPointer, IsType}
use Rattle.source_grammar.specs.Grammar.{AreMembers}
use Rattle.cyc_parser.specs.Reading.{next_place}
use Rattle.cyc_parser.specs.Tests.{is_sign, is_keyword, begins_type, begins_pointer}
use Rattle.cyc_parser.specs.Reader.{choose, read, next_is}
use Rattle.cyc_parser.specs.ReadTypes.{type_name}
use Rattle.cyc_parser.specs.ReadPrograms.{tagged_union, typed, struct_or_typed, item}
use Rattle.cyc_parser.specs.Exact.{nowhere, Exact, Phrase, Anything, ends, Stops, IsDone, Then, Either, Whole}
use Rattle.cyc_parser.proofs.Exact.{choose_exact, done_exact, exact_as, exact_on, restrict_exact}
use Rattle.cyc_parser.proofs.exactness.Composed.{begins_with, begins_stops, stops_at, then_exact, meets_exact, either_exact, Made, image_exact, finish}
use Rattle.cyc_parser.proofs.exactness.Types.{keyword_exact, name_exact, region_list_exact, is_no_name, pointers_exact, type_exact, type_first}
use Rattle.cyc_parser.proofs.exactness.Parameters.{int_token, name_token}
use Rattle.cyc_parser.proofs.exactness.Structures.{members_exact, members_begin, members_stop, IsTaggedUnion, tagged_union_exact}
use Rattle.cyc_parser.proofs.exactness.Typed.{IsItemAt, within_none, IsTypedItem, typed_exact, typed_begins, pointed_begins, typed_is}

-- ---- a struct, or what has a struct's type

abbrev StructBehind : ℕ → Name → List RegionName → Bool → Item → Tokens → Tokens → Type 0
StructBehind at tag rs = Then (Whole AreMembers) (λ ms. IsDone (StructItem (record { at = at; tag = tag; regions = rs; members = ms })))

abbrev PointersBehind : ℕ → ℕ → Name → List RegionName → Bool → Item → Tokens → Tokens → Type 0
PointersBehind most at tag rs = Then (Whole (Each IsPointer)) (λ ps. IsTypedItem most (record { at = at; base = Struct tag rs; pointers = ps }))

abbrev pub StructRead : ℕ → Bool → Item → Tokens → Tokens → Type 0
StructRead most =
    Then (Whole (KeywordAt word.Struct)) (λ at. Then (Whole IsName) (λ tag. Then (Whole AreRegions) (λ rs.
    Either (StructBehind at tag rs) (PointersBehind most at tag rs))))

pointer_no_less : (k : TokenKind) → begins_pointer k ≡ true → is_sign sign_of.Less k ≡ false
pointer_no_less (kind.Sign sign_of.Star) h = refl
pointer_no_less (kind.Sign sign_of.At) h = refl
pointer_no_less (kind.Sign sign_of.Question) h = refl
pointer_no_less _ h = absurd cc

pub pointer_no_brace : (k : TokenKind) → begins_pointer k ≡ true → is_sign sign_of.LeftBrace k ≡ false
pointer_no_brace (kind.Sign sign_of.Star) h = refl
pointer_no_brace (kind.Sign sign_of.At) h = refl
pointer_no_brace (kind.Sign sign_of.Question) h = refl
pointer_no_brace _ h = absurd cc

pub no_less : (most at : ℕ) (tag : Name) (rs : List RegionName) (b : Bool) (i : Item) (from to : Tokens)
    → Either (StructBehind at tag rs) (PointersBehind most at tag rs) b i from to → Stops (is_sign sign_of.Less) from
no_less most at tag rs b i from to (inl w) = members_stop w.0 from w.1 w.2
no_less most at tag rs b i from to (inr w) = pointed_begins most (is_sign sign_of.Less) refl pointer_no_less w.0 _ b i from w.1 to w.2 w.3

struct_exact : (most : ℕ) → Exact Anything (StructRead most) ends (struct_or_typed most)
unfolding struct_or_typed
struct_exact most =
    then_exact _ _ (keyword_exact word.Struct) _ ends _ (λ at. then_exact _ _ name_exact _ ends _ (λ tag. meets_exact _ _ _ region_list_exact _ ends _
    (λ rs. either_exact (is_sign sign_of.LeftBrace) ends
    (StructBehind at tag rs) _
    (then_exact _ _ members_exact _ ends _ (λ ms. done_exact (StructItem (record { at = at; tag = tag; regions = rs; members = ms }))))
    (PointersBehind most at tag rs) _
    (meets_exact _ _ _ pointers_exact (λ ps. IsTypedItem most (record { at = at; base = Struct tag rs; pointers = ps })) ends _
    (λ ps. typed_exact most (record { at = at; base = Struct tag rs; pointers = ps }))
    (λ b ps i mid to w s. typed_begins most is_no_name refl _ b i mid to w))
    (λ b i from to w. members_begin w.0 from w.1 w.2)
    (λ b i from to w s. pointed_begins most (is_sign sign_of.LeftBrace) refl pointer_no_brace w.0 _ b i from w.1 to w.2 w.3))
    (λ b rs i mid to w s. no_less most at tag rs b i mid to w)))

abbrev is_struct : Base → Bool
is_struct (Struct tag rs) = true
is_struct _ = false

abbrev begins_struct : Item → Bool
begins_struct (StructItem s) = true
begins_struct (UnionItem u) = false
begins_struct (GlobalItem g) = is_struct g.of.base
begins_struct (FunctionItem f) = is_struct f.result.base

typed_struct : (most : ℕ) (t : TypeName) (b : Bool) (i : Item) (from to : Tokens) → IsTypedItem most t b i from to
    → begins_struct i ≡ is_struct t.base
typed_struct most t b (StructItem s) from to w = absurd w
typed_struct most t b (UnionItem u) from to w = absurd w
typed_struct most t b (GlobalItem g) from to w = ap (λ (t : TypeName). is_struct t.base) w.0
typed_struct most t b (FunctionItem f) from to w = ap (λ (t : TypeName). is_struct t.base) w.0

struct_into : (most : ℕ) (b : Bool) (i : Item) (from to : Tokens) → StructRead most b i from to → IsItemAt most b i from to
struct_into most b i from to w =
    let tag = w.3 in let rs = tag.3 in go w.0 w.1 w.2 tag.0 tag.1 tag.2 rs.0 rs.1 rs.2 rs.3
  where
    go : (at : ℕ) (x : Tokens) → KeywordAt word.Struct at from x → (tag : Name) (y : Tokens) → IsName tag x y
        → (rs : List RegionName) (z : Tokens) → AreRegions rs y z
        → Either (StructBehind at tag rs) (PointersBehind most at tag rs) b i z to → IsItemAt most b i from to
    go at x k tag y named rs z regions (inl w) =
        finish (λ i to. IsItemAt most b i from to) w.3 ((x, k, (y, z, named, regions, w.2)), within_none most b)
    go at x k tag y named rs z regions (inr w) =
        typed_is most (record { at = at; base = Struct tag rs; pointers = w.0 }) b i from w.1 to
        (z, (record { kind = kind.Keyword word.Struct; at = at; text = k.0 }, x, k.1, refl), (x, y, (at, k), named, regions), w.2) w.3

-- what a struct's type is made of
struct_parts : (x : Base) (from to : Tokens) → IsBase x from to → is_struct x ≡ true
    → (tag : Name) × (rs : List RegionName) × (x ≡ Struct tag rs) × IsBase (Struct tag rs) from to
struct_parts (Struct tag rs) from to w h = (tag, rs, refl, w)
struct_parts _ from to w h = absurd cc

struct_typed : (most : ℕ) (t : TypeName) (b : Bool) (i : Item) (from mid to : Tokens) → IsType t from mid → is_struct t.base ≡ true
    → IsTypedItem most t b i mid to → StructRead most b i from to
struct_typed most t b i from mid to v h w =
    let p = struct_parts t.base from v.0 v.2 h in
    let k : IsKeyword word.Struct from p.3.0 = p.3.2 in
    let place : t.at ≡ k.0 = sym v.1.3 ∙ ap next_place (sym v.1.2 ∙ k.1.1) in
    let same : t ≡ record { at = k.0; base = Struct p.0 p.1; pointers = t.pointers } =
    ap₂ (λ (at : ℕ) (x : Base). record { at = at; base = x; pointers = t.pointers }) place p.2 in
    let behind = subst (λ (t : TypeName). IsTypedItem most t b i mid to) same w in
    (k.0, p.3.0, k.1, (p.0, p.3.1, p.3.3, (p.1, v.0, p.3.4, inr (t.pointers, mid, v.3, behind))))

-- ---- what has another type

abbrev TypedItem : ℕ → Bool → Item → Tokens → Tokens → Type 0
TypedItem most = Then (Whole IsType) (λ t. IsTypedItem most t)

abbrev pub OtherItem : ℕ → Bool → Item → Tokens → Tokens → Type 0
OtherItem most b i from to = TypedItem most b i from to × (begins_struct i ≡ false)

-- `struct` stands only at the front of its type
other_base : (x : Base) (from to : Tokens) → is_struct x ≡ false → IsBase x from to → next_is (is_keyword word.Struct) from ≡ false
other_base Int from to h w = stops_at (is_keyword word.Struct) from _ _ w.1.1 refl
other_base Unsigned from to h w = stops_at (is_keyword word.Struct) from _ _ w.1.1.1 refl
other_base Char from to h w = stops_at (is_keyword word.Struct) from _ _ w.1.1 refl
other_base Void from to h w = stops_at (is_keyword word.Struct) from _ _ w.1.1 refl
other_base (Struct tag rs) from to h w = absurd (true≢false h)
other_base (Union tag rs) from to h w = stops_at (is_keyword word.Struct) from _ _ w.2.1.1 refl
other_base (Handle r) from to h w = stops_at (is_keyword word.Struct) from _ _ w.1.1.1 refl
other_base (Key r) from to h w = stops_at (is_keyword word.Struct) from _ _ w.1.1.1 refl

struct_base : (x : Base) (from to : Tokens) → IsBase x from to → next_is (is_keyword word.Struct) from ≡ false → is_struct x ≡ false
struct_base (Struct tag rs) from to w h = absurd (true≢false (sym (begins_with (is_keyword word.Struct) from _ _ w.2.1.1 refl) ∙ h))
struct_base _ from to w h = refl

typed_other : (most : ℕ) (b : Bool) (i : Item) (t : Token) (rest to : Tokens) → TypedItem most b i (t ∷ rest) to
    → is_keyword word.Struct t.kind ≡ false → begins_struct i ≡ false
typed_other most b i t rest to w h = typed_struct most w.0 b i w.1 to w.3 ∙ struct_base w.0.base (t ∷ rest) w.2.0 w.2.2 h

end_token : Token
end_token = record { kind = kind.Sign sign_of.Semicolon; at = nowhere; text = [] }

some_other : (most : ℕ) → Phrase (OtherItem most false)
unfolding int_token name_token end_token
some_other most =
    let t : TypeName = record { at = nowhere; base = Int; pointers = [] } in
    record {
      tree = GlobalItem (record { of = t; name = record { at = nowhere; text = [] }; initial = Initial.Unset });
      tokens = int_token ∷ name_token ∷ end_token ∷ [];
      made_up = (refl, (refl, (refl, tt)));
      is = λ more. (
        (
          t,
          name_token ∷ end_token ∷ more,
          (name_token ∷ end_token ∷ more, (int_token, name_token ∷ end_token ∷ more, refl, refl), (nowhere, ([], refl)), refl),
          (refl, end_token ∷ more, end_token ∷ more, refl, refl, (nowhere, ([], refl))),
        ),
        refl,
      );
    }

typed_item_exact : (most : ℕ) → Exact Anything (TypedItem most) ends (read type_name (λ t. typed most t))
typed_item_exact most =
    meets_exact _ _ _ type_exact (λ t. IsTypedItem most t) ends _ (λ t. typed_exact most t)
    (λ b t i mid to w s. typed_begins most is_no_name refl t b i mid to w)

other_item_exact : (most : ℕ) → Exact (λ ts. Anything ts × (next_is (is_keyword word.Struct) ts ≡ false)) (OtherItem most) ends
    (read type_name (λ t. typed most t))
unfolding int_token
other_item_exact most =
    restrict_exact Anything (is_keyword word.Struct) (TypedItem most) ends _
    (exact_on Anything (λ ts. Anything ts × (next_is (is_keyword word.Struct) ts ≡ false)) (TypedItem most) ends _ (typed_item_exact most)
    (λ ts g. tt))
    (λ i. begins_struct i ≡ false) (typed_other most) int_token refl (some_other most)

pub no_struct : (most : ℕ) (b : Bool) (i : Item) (from to : Tokens) → OtherItem most b i from to → Stops (ends i) to
    → next_is (is_keyword word.Struct) from ≡ false
no_struct most b i from to w s = other_base w.0.0.base from w.0.2.0 (sym (typed_struct most w.0.0 b i w.0.1 to w.0.3) ∙ w.1) w.0.2.2

struct_or_other_exact : (most : ℕ) → Exact Anything (Either (StructRead most) (OtherItem most)) ends
    (choose (is_keyword word.Struct) (struct_or_typed most) (read type_name (λ t. typed most t)))
struct_or_other_exact most =
    choose_exact Anything (is_keyword word.Struct) ends
    (StructRead most) (struct_or_typed most)
    (exact_on Anything (λ ts. Anything ts × (next_is (is_keyword word.Struct) ts ≡ true)) (StructRead most) ends _ (struct_exact most) (λ ts g. tt))
    (OtherItem most) _ (other_item_exact most) (λ b i from to w. begins_with (is_keyword word.Struct) from _ _ w.2.1 refl) (no_struct most)

-- ---- items

type_no_tagged : (k : TokenKind) → begins_type k ≡ true → is_sign sign_of.Tagged k ≡ false
type_no_tagged (kind.Sign s) h = absurd cc
type_no_tagged _ h = refl

pub no_tagged : (most : ℕ) (b : Bool) (i : Item) (from to : Tokens) → Either (StructRead most) (OtherItem most) b i from to → Stops (ends i) to
    → next_is (is_sign sign_of.Tagged) from ≡ false
no_tagged most b i from to (inl w) s = stops_at (is_sign sign_of.Tagged) from _ _ w.2.1 refl
no_tagged most b i from to (inr w) s =
    let f = type_first w.0.0 from w.0.1 w.0.2 in
    begins_stops begins_type (is_sign sign_of.Tagged) type_no_tagged from (begins_with begins_type from f.0 f.1 f.2 f.3)

abbrev ItemRead : ℕ → Bool → Item → Tokens → Tokens → Type 0
ItemRead most = Either (Made (λ u. UnionItem u) (Whole IsTaggedUnion)) (Either (StructRead most) (OtherItem most))

item_into : (most : ℕ) (b : Bool) (i : Item) (from to : Tokens) → ItemRead most b i from to → IsItemAt most b i from to
item_into most b i from to (inl w) = subst (λ (i : Item). IsItemAt most b i from to) (sym w.1) (w.2, within_none most b)
item_into most b i from to (inr (inl w)) = struct_into most b i from to w
item_into most b i from to (inr (inr w)) = typed_is most w.0.0 b i from w.0.1 to w.0.2 w.0.3

pub item_back : (most : ℕ) (b : Bool) (i : Item) (from to : Tokens) → IsItemAt most b i from to → ItemRead most b i from to
item_back most b (StructItem s) from to w =
    let k = w.0.1 in let parts = w.0.2 in
    inr (inl (s.at, w.0.0, k, (s.tag, parts.0, parts.2, (s.regions, parts.1, parts.3, inl (s.members, to, parts.4, (refl, refl))))))
item_back most b (UnionItem u) from to w = inl (u, refl, w.0)
item_back most b (GlobalItem g) from to w = go (is_struct g.of.base) refl
  where
    behind : IsTypedItem most g.of b (GlobalItem g) w.0.0 to
    behind = (refl, w.0.1, w.0.2, w.0.4, w.0.5, w.0.6)

    go : (s : Bool) → is_struct g.of.base ≡ s → ItemRead most b (GlobalItem g) from to
    go true e = inr (inl (struct_typed most g.of b (GlobalItem g) from w.0.0 to w.0.3 e behind))
    go false e = inr (inr ((g.of, w.0.0, w.0.3, behind), e))
item_back most b (FunctionItem f) from to w = go (is_struct f.result.base) refl
  where
    behind : IsTypedItem most f.result b (FunctionItem f) w.0.0 to
    behind = (refl, w.0.1, w.0.3, w.0.4, w.1)

    go : (s : Bool) → is_struct f.result.base ≡ s → ItemRead most b (FunctionItem f) from to
    go true e = inr (inl (struct_typed most f.result b (FunctionItem f) from w.0.0 to w.0.2 e behind))
    go false e = inr (inr ((f.result, w.0.0, w.0.2, behind), e))

pub item_exact : (most : ℕ) → Exact Anything (IsItemAt most) ends (item most)
unfolding item
item_exact most =
    exact_as Anything (ItemRead most) ends _
    (either_exact (is_sign sign_of.Tagged) ends
    (Made (λ u. UnionItem u) (Whole IsTaggedUnion)) _
    (image_exact (Whole IsTaggedUnion) (λ k. false) tagged_union tagged_union_exact (λ u. UnionItem u))
    (Either (StructRead most) (OtherItem most)) _ (struct_or_other_exact most)
    (λ b i from to w. begins_with (is_sign sign_of.Tagged) from _ _ w.2.2.1 refl) (no_tagged most))
    (IsItemAt most) (item_into most) (item_back most)
