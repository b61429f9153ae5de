-- The readers of pointers are exact.
use Rattle.std.proofs.Common.{◌≡◌, ℕ, Bool, true, false, not, ◌||◌, List, [], ◌∷◌, Option, Some, None, refl, sym, ap, subst, inl, inr}
use Rattle.cyc_lexer.specs.Lexing.{Token}
use Rattle.cyc_lexer.specs.declared.token.Sign.{Sign}
use Rattle.cyc_lexer.specs.declared.token.Sign.TheVariants as sign_of
use Rattle.cyc_lexer.specs.declared.token.TokenKind.{TokenKind}
use Rattle.cyc_lexer.specs.declared.token.TokenKind.TheVariants as kind
use Rattle.cyc_tree.specs.declared.name.Sign.{Sign as PointerSign}
use Rattle.cyc_tree.specs.declared.name.Sign.TheVariants as pointer_sign
use Rattle.cyc_tree.specs.Tree.{RegionName, Pointer}
use Rattle.source_grammar.specs.Phrases.{Tokens, SignAt, IsRegion, Each}
use Rattle.source_grammar.specs.TypeGrammar.{MayBeCount, IsPointerSign, MayBeRegion, IsPointer}
use Rattle.cyc_parser.specs.Tests.{is_sign, is_region, is_identifier, begins_pointer}
use Rattle.cyc_parser.specs.Reader.{done, read, token, sign, next_is}
use Rattle.cyc_parser.specs.ReadTypes.{pointee_count, qualified, pointer_sign_behind, pointer_sign_read, pointer, pointers}
use Rattle.cyc_parser.specs.Exact.{nowhere, Exact, Anything, ends, always, Stops, IsToken, IsDone, Then, Either, Whole}
use Rattle.cyc_parser.proofs.Exact.{token_exact, done_exact, exact_as, exact_wider}
use Rattle.cyc_parser.proofs.exactness.Composed.{begins_with, begins_stops, stops_at, stops_behind, then_exact, meets_exact, either_exact, option_exact}
use Rattle.cyc_parser.proofs.exactness.Composed.{Made, image_exact, finish, ends_wider}
use Rattle.cyc_parser.proofs.exactness.Tokens.{sign_exact, region_exact, IsNumber, number_exact}
use Rattle.cyc_parser.proofs.exactness.Listed.{each_exact}
use Rattle.cyc_parser.proofs.exactness.Regions.{region_begins}

-- ---- how many elements a pointer points to

abbrev InBraces : Bool → ℕ → Tokens → Tokens → Type 0
InBraces = Then (Whole (SignAt sign_of.LeftBrace)) (λ _. Then (Whole IsNumber) (λ n. Then (Whole (SignAt sign_of.RightBrace)) (λ _. IsDone n.0)))

count_into : (b : Bool) (n : ℕ) (from to : Tokens) → Either InBraces (IsDone 1) b n from to → MayBeCount n from to
count_into b n from to (inl w) =
    finish (λ n to. MayBeCount n from to) w.3.3.3 (inl (w.1, w.3.1, w.3.0.1, w.3.2.0, (w.0, w.2), w.3.2.1, (w.3.3.0, w.3.3.2)))
count_into b n from to (inr d) = inr d

count_back : (b : Bool) (n : ℕ) (from to : Tokens) → MayBeCount n from to → Either InBraces (IsDone 1) b n from to
count_back b n from to (inl w) = inl (w.4.0, w.0, w.4.1, ((n, w.2), w.1, (w.3, w.5), (w.6.0, to, w.6.1, (refl, refl))))
count_back b n from to (inr d) = inr d

pointee_count_exact : Exact Anything (Whole MayBeCount) (always (is_sign sign_of.LeftBrace)) pointee_count
unfolding pointee_count
pointee_count_exact =
    exact_as Anything (Either InBraces (IsDone 1)) (always (is_sign sign_of.LeftBrace)) _
    (option_exact (is_sign sign_of.LeftBrace) (always (is_sign sign_of.LeftBrace)) InBraces _
    (ends_wider InBraces _ (then_exact _ _ (sign_exact sign_of.LeftBrace) _ ends _ (λ _. then_exact _ _ number_exact _ ends _ (λ n.
    then_exact _ _ (sign_exact sign_of.RightBrace) _ ends _ (λ _. done_exact n.0)))) (always (is_sign sign_of.LeftBrace)))
    1 (λ b n from to w. begins_with (is_sign sign_of.LeftBrace) from _ _ w.2.1 refl) (λ k h. h))
    (Whole MayBeCount) count_into count_back

-- ---- what may stand behind `*`

abbrev is_qualifier : TokenKind → Bool
is_qualifier k = is_sign sign_of.NotNull k || (is_sign sign_of.FatSign k || (is_sign sign_of.Thin k || is_sign sign_of.LeftBrace k))

not_null_within : (k : TokenKind) → is_sign sign_of.NotNull k ≡ true → is_qualifier k ≡ true
not_null_within (kind.Sign sign_of.NotNull) h = refl
not_null_within _ h = absurd cc

fat_within : (k : TokenKind) → is_sign sign_of.FatSign k ≡ true → is_qualifier k ≡ true
fat_within (kind.Sign sign_of.FatSign) h = refl
fat_within _ h = absurd cc

thin_within : (k : TokenKind) → is_sign sign_of.Thin k ≡ true → is_qualifier k ≡ true
thin_within (kind.Sign sign_of.Thin) h = refl
thin_within _ h = absurd cc

brace_within : (k : TokenKind) → is_sign sign_of.LeftBrace k ≡ true → is_qualifier k ≡ true
brace_within (kind.Sign sign_of.LeftBrace) h = refl
brace_within _ h = absurd cc

-- a sign, which means this
abbrev Means : Sign → PointerSign → Bool → PointerSign → Tokens → Tokens → Type 0
Means s x = Then (Whole (SignAt s)) (λ _. IsDone x)

means_exact : (s : Sign) (x : PointerSign) → Exact Anything (Means s x) (always is_qualifier) (read (sign s) (λ _. done x))
means_exact s x = ends_wider (Means s x) _ (then_exact _ _ (sign_exact s) _ ends _ (λ _. done_exact x)) (always is_qualifier)

-- a number of elements, of which this sign is made
abbrev Counted : (ℕ → PointerSign) → Bool → PointerSign → Tokens → Tokens → Type 0
Counted f = Made f (Whole MayBeCount)

counted_exact : (f : ℕ → PointerSign) → Exact Anything (Counted f) (always is_qualifier) (read pointee_count (λ n. done (f n)))
counted_exact f =
    exact_wider Anything (Counted f) (always (is_sign sign_of.LeftBrace)) (always is_qualifier) _
    (image_exact (Whole MayBeCount) (is_sign sign_of.LeftBrace) pointee_count pointee_count_exact f) (λ x. brace_within)

-- with a number the next token is `{`, without one it is what stands behind
not_counted : (test : TokenKind → Bool) → test (kind.Sign sign_of.LeftBrace) ≡ false → ((k : TokenKind) → test k ≡ true → is_qualifier k ≡ true)
    → (n : ℕ) (from to : Tokens) → MayBeCount n from to → Stops is_qualifier to → next_is test from ≡ false
not_counted test h within n from to (inl w) s = stops_at test from _ _ w.4.1.1 h
not_counted test h within n from to (inr d) s = stops_behind test is_qualifier within d.1 s

-- a sign, and a number that may stand behind it
abbrev CountedBehind : Sign → (ℕ → PointerSign) → Bool → PointerSign → Tokens → Tokens → Type 0
CountedBehind s f = Then (Whole (SignAt s)) (λ _. Counted f)

counted_behind_exact : (s : Sign) (f : ℕ → PointerSign)
    → Exact Anything (CountedBehind s f) (always is_qualifier) (read (sign s) (λ _. read pointee_count (λ n. done (f n))))
counted_behind_exact s f = then_exact _ _ (sign_exact s) _ (always is_qualifier) _ (λ _. counted_exact f)

abbrev ThinOrCount : Bool → PointerSign → Tokens → Tokens → Type 0
ThinOrCount = Either (Means sign_of.Thin (pointer_sign.Nullable 1)) (Counted pointer_sign.Nullable)

abbrev FatOrThin : Bool → PointerSign → Tokens → Tokens → Type 0
FatOrThin = Either (Means sign_of.FatSign pointer_sign.Fat) ThinOrCount

abbrev Qualified : Bool → PointerSign → Tokens → Tokens → Type 0
Qualified = Either (CountedBehind sign_of.NotNull pointer_sign.NotNull) FatOrThin

not_thin : (b : Bool) (x : PointerSign) (from to : Tokens) → Counted pointer_sign.Nullable b x from to → Stops is_qualifier to
    → next_is (is_sign sign_of.Thin) from ≡ false
not_thin b x from to c s = not_counted (is_sign sign_of.Thin) refl thin_within c.0 from to c.2 s

not_fat : (b : Bool) (x : PointerSign) (from to : Tokens) → ThinOrCount b x from to → Stops is_qualifier to
    → next_is (is_sign sign_of.FatSign) from ≡ false
not_fat b x from to (inl w) s = stops_at (is_sign sign_of.FatSign) from _ _ w.2.1 refl
not_fat b x from to (inr c) s = not_counted (is_sign sign_of.FatSign) refl fat_within c.0 from to c.2 s

not_not_null : (b : Bool) (x : PointerSign) (from to : Tokens) → FatOrThin b x from to → Stops is_qualifier to
    → next_is (is_sign sign_of.NotNull) from ≡ false
not_not_null b x from to (inl w) s = stops_at (is_sign sign_of.NotNull) from _ _ w.2.1 refl
not_not_null b x from to (inr (inl w)) s = stops_at (is_sign sign_of.NotNull) from _ _ w.2.1 refl
not_not_null b x from to (inr (inr c)) s = not_counted (is_sign sign_of.NotNull) refl not_null_within c.0 from to c.2 s

qualified_exact : Exact Anything Qualified (always is_qualifier) qualified
unfolding qualified
qualified_exact =
    either_exact (is_sign sign_of.NotNull) (always is_qualifier) (CountedBehind sign_of.NotNull pointer_sign.NotNull) _
    (counted_behind_exact sign_of.NotNull pointer_sign.NotNull)
    FatOrThin _ (either_exact (is_sign sign_of.FatSign) (always is_qualifier) (Means sign_of.FatSign pointer_sign.Fat) _
    (means_exact sign_of.FatSign pointer_sign.Fat)
    ThinOrCount _ (either_exact (is_sign sign_of.Thin) (always is_qualifier) (Means sign_of.Thin (pointer_sign.Nullable 1)) _
    (means_exact sign_of.Thin (pointer_sign.Nullable 1))
    (Counted pointer_sign.Nullable) _ (counted_exact pointer_sign.Nullable)
    (λ b x from to w. begins_with (is_sign sign_of.Thin) from _ _ w.2.1 refl) not_thin)
    (λ b x from to w. begins_with (is_sign sign_of.FatSign) from _ _ w.2.1 refl) not_fat)
    (λ b x from to w. begins_with (is_sign sign_of.NotNull) from _ _ w.2.1 refl) not_not_null

-- ---- a pointer's sign

abbrev PointerBehind : TokenKind → Bool → PointerSign → Tokens → Tokens → Type 0
PointerBehind (kind.Sign sign_of.Star) = Qualified
PointerBehind (kind.Sign sign_of.At) = Counted pointer_sign.NotNull
PointerBehind _ = IsDone pointer_sign.Fat

pointer_behind_exact : (k : TokenKind) → Exact Anything (PointerBehind k) (always is_qualifier) (pointer_sign_behind k)
pointer_behind_exact (kind.Sign sign_of.Star) = qualified_exact
pointer_behind_exact (kind.Sign sign_of.At) = counted_exact pointer_sign.NotNull
pointer_behind_exact _ = ends_wider (IsDone pointer_sign.Fat) _ (done_exact pointer_sign.Fat) (always is_qualifier)

-- where a sign is made of this number
counted_of : (f : ℕ → PointerSign) (x : PointerSign) (from mid to : Tokens) (c : Counted f true x mid to) → IsPointerSign (f c.0) from to
    → IsPointerSign x from to
counted_of f x from mid to c is = subst (λ y. IsPointerSign y from to) (sym c.1) is

star_into : (at : ℕ) (text : List ℕ) (b : Bool) (x : PointerSign) (from mid to : Tokens)
    → from ≡ record { kind = kind.Sign sign_of.Star; at = at; text = text } ∷ mid
    → Qualified b x mid to → IsPointerSign x from to
star_into at text b x from mid to e (inl w) =
    counted_of pointer_sign.NotNull x from w.1 to w.3 (inr (w.1, (mid, (at, (text, e)), (w.0, w.2)), w.3.2))
star_into at text b x from mid to e (inr (inl w)) = finish (λ x to. IsPointerSign x from to) w.3 (inr (mid, (at, (text, e)), (w.0, w.2)))
star_into at text b x from mid to e (inr (inr (inl w))) =
    finish (λ x to. IsPointerSign x from to) w.3 (inr (refl, (mid, (at, (text, e)), (w.0, w.2))))
star_into at text b x from mid to e (inr (inr (inr c))) = counted_of pointer_sign.Nullable x from mid to c (inl (mid, (at, (text, e)), c.2))

pointer_sign_into : (k : TokenKind) (at : ℕ) (text : List ℕ) (b : Bool) (x : PointerSign) (from mid to : Tokens)
    → from ≡ record { kind = k; at = at; text = text } ∷ mid → begins_pointer k ≡ true → PointerBehind k b x mid to → IsPointerSign x from to
pointer_sign_into (kind.Sign sign_of.Star) at text b x from mid to e h w = star_into at text b x from mid to e w
pointer_sign_into (kind.Sign sign_of.At) at text b x from mid to e h c = counted_of pointer_sign.NotNull x from mid to c (inl (mid, (at, (text, e)), c.2))
pointer_sign_into (kind.Sign sign_of.Question) at text b x from mid to e h d = finish (λ x to. IsPointerSign x from to) d (inl (at, (text, e)))
pointer_sign_into _ at text b x from mid to e h w = absurd cc

abbrev PointerSignRead : Bool → PointerSign → Tokens → Tokens → Type 0
PointerSignRead = Then (IsToken begins_pointer) (λ t. PointerBehind t.kind)

-- a sign's token
abbrev of_sign : Sign → ℕ → List ℕ → Token
of_sign s at text = record { kind = kind.Sign s; at = at; text = text }

pointer_sign_back : (b : Bool) (x : PointerSign) (from to : Tokens) → IsPointerSign x from to → PointerSignRead b x from to
pointer_sign_back b (pointer_sign.Nullable n) from to (inl (mid, s, c)) =
    (of_sign sign_of.Star s.0 s.1.0, mid, (s.1.1, refl), inr (inr (inr (n, refl, c))))
pointer_sign_back b (pointer_sign.Nullable n) from to (inr (one, w)) =
    (of_sign sign_of.Star w.1.0 w.1.1.0, w.0, (w.1.1.1, refl), inr (inr (inl (w.2.0, to, w.2.1, (ap pointer_sign.Nullable one, refl)))))
pointer_sign_back b (pointer_sign.NotNull n) from to (inl (mid, s, c)) = (of_sign sign_of.At s.0 s.1.0, mid, (s.1.1, refl), (n, refl, c))
pointer_sign_back b (pointer_sign.NotNull n) from to (inr (mid, w, c)) =
    (of_sign sign_of.Star w.1.0 w.1.1.0, w.0, (w.1.1.1, refl), inl (w.2.0, mid, w.2.1, (n, refl, c)))
pointer_sign_back b pointer_sign.Fat from to (inl s) = (of_sign sign_of.Question s.0 s.1.0, to, (s.1.1, refl), (refl, refl))
pointer_sign_back b pointer_sign.Fat from to (inr w) =
    (of_sign sign_of.Star w.1.0 w.1.1.0, w.0, (w.1.1.1, refl), inr (inl (w.2.0, to, w.2.1, (refl, refl))))

pointer_sign_exact : Exact Anything (Whole IsPointerSign) (always is_qualifier) pointer_sign_read
unfolding pointer_sign_read
pointer_sign_exact =
    exact_as Anything PointerSignRead (always is_qualifier) _
    (then_exact (IsToken begins_pointer) (token begins_pointer) (token_exact begins_pointer (of_sign sign_of.Star nowhere []) refl refl)
    (λ t. PointerBehind t.kind)
    (always is_qualifier) (λ t. pointer_sign_behind t.kind) (λ t. pointer_behind_exact t.kind))
    (Whole IsPointerSign) (λ b x from to w. pointer_sign_into w.0.kind w.0.at w.0.text b x from w.1 to w.2.0 w.2.1 w.3) pointer_sign_back

-- ---- a pointer

abbrev pointer_on : TokenKind → Bool
pointer_on k = is_qualifier k || is_region k

qualifier_within : (k : TokenKind) → is_qualifier k ≡ true → pointer_on k ≡ true
qualifier_within k h = or_left (is_qualifier k) (is_region k) h
  where
    or_left : (x y : Bool) → x ≡ true → (x || y) ≡ true
    or_left true y h = refl
    or_left false y h = absurd cc

region_within : (k : TokenKind) → is_region k ≡ true → pointer_on k ≡ true
region_within kind.Region h = refl
region_within _ h = absurd cc

region_no_qualifier : (k : TokenKind) → is_region k ≡ true → is_qualifier k ≡ false
region_no_qualifier kind.Region h = refl
region_no_qualifier _ h = absurd cc

pointer_apart : (k : TokenKind) → begins_pointer k ≡ true → pointer_on k ≡ false
pointer_apart (kind.Sign sign_of.Star) h = refl
pointer_apart (kind.Sign sign_of.At) h = refl
pointer_apart (kind.Sign sign_of.Question) h = refl
pointer_apart _ h = absurd cc

abbrev WithRegion : PointerSign → Bool → Pointer → Tokens → Tokens → Type 0
WithRegion s = Then (Whole IsRegion) (λ r. IsDone (record { sign = s; region = Some r }))

abbrev RegionBehind : PointerSign → Bool → Pointer → Tokens → Tokens → Type 0
RegionBehind s = Either (WithRegion s) (IsDone (record { sign = s; region = None }))

pointer_meets : (b : Bool) (s : PointerSign) (p : Pointer) (mid to : Tokens) → RegionBehind s b p mid to → Stops pointer_on to
    → Stops is_qualifier mid
pointer_meets b s p mid to (inl w) stops = begins_stops is_region is_qualifier region_no_qualifier mid (region_begins w.0 mid w.1 w.2)
pointer_meets b s p mid to (inr d) stops = stops_behind is_qualifier pointer_on qualifier_within d.1 stops

pointer_into : (b : Bool) (p : Pointer) (from to : Tokens) → Then (Whole IsPointerSign) RegionBehind b p from to → IsPointer p from to
pointer_into b p from to w = go w.0 w.1 w.2 w.3
  where
    go : (s : PointerSign) (mid : Tokens) → IsPointerSign s from mid → RegionBehind s b p mid to → IsPointer p from to
    go s mid ws (inl w) = finish (λ p to. IsPointer p from to) w.3 (mid, ws, w.2)
    go s mid ws (inr d) = finish (λ p to. IsPointer p from to) d (mid, ws, refl)

pointer_back : (b : Bool) (p : Pointer) (from to : Tokens) → IsPointer p from to → Then (Whole IsPointerSign) RegionBehind b p from to
pointer_back b p from to w = (p.sign, w.0, w.1, go p.sign p.region w.0 w.2)
  where
    go : (s : PointerSign) (r : Option RegionName) (mid : Tokens) → MayBeRegion r mid to → RegionBehind s b (record { sign = s; region = r }) mid to
    go s None mid e = inr (refl, e)
    go s (Some r) mid w = inl (r, to, w, (refl, refl))

pub pointer_exact : Exact Anything (Whole IsPointer) (always pointer_on) pointer
unfolding pointer
pointer_exact =
    exact_as Anything (Then (Whole IsPointerSign) RegionBehind) (always pointer_on) _
    (meets_exact (Whole IsPointerSign) (always is_qualifier) pointer_sign_read pointer_sign_exact RegionBehind (always pointer_on) _
    (λ s. option_exact is_region (always pointer_on) (WithRegion s) _
    (ends_wider (WithRegion s) _ (then_exact _ _ region_exact _ ends _ (λ r. done_exact (record { sign = s; region = Some r }))) (always pointer_on))
    (record { sign = s; region = None }) (λ b p from to w. region_begins w.0 from w.1 w.2) region_within)
    pointer_meets)
    (Whole IsPointer) pointer_into pointer_back

pub pointer_begins : (p : Pointer) (from to : Tokens) → IsPointer p from to → next_is begins_pointer from ≡ true
pointer_begins p from to w =
    let r = pointer_sign_back true p.sign from w.0 w.1 in begins_with begins_pointer from r.0 r.1 r.2.0 r.2.1

-- ---- pointers

-- behind a type stands a name
abbrev pub is_no_name : TokenKind → Bool
is_no_name k = not (is_identifier k)

no_name_within : (k : TokenKind) → (begins_pointer k || pointer_on k) ≡ true → is_no_name k ≡ true
no_name_within kind.Identifier h = absurd cc
no_name_within _ h = refl

pub pointers_exact : Exact Anything (Whole (Each IsPointer)) (always is_no_name) pointers
unfolding pointers
pointers_exact =
    exact_wider Anything (Whole (Each IsPointer)) (always (λ k. begins_pointer k || pointer_on k)) (always is_no_name) _
    (each_exact begins_pointer IsPointer pointer_on pointer pointer_exact pointer_begins pointer_apart) (λ ps. no_name_within)
