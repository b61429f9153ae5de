-- The readers of a function's effect and bounds are exact.
use Rattle.std.proofs.Common.{◌≡◌, Bool, true, ◌||◌, List, [], ◌∷◌, Option, Some, None, refl, inl, inr}
use Rattle.cyc_lexer.specs.declared.token.Sign.TheVariants as sign_of
use Rattle.cyc_lexer.specs.declared.token.TokenKind.{TokenKind}
use Rattle.cyc_lexer.specs.declared.token.TokenKind.TheVariants as kind
use Rattle.cyc_tree.specs.Tree.{RegionName, Bound}
use Rattle.source_grammar.specs.Phrases.{Tokens, SignAt, IsSign, IsRegion, Listed}
use Rattle.source_grammar.specs.Grammar.{MayBeListed, IsEffect, IsBound, AreBounds}
use Rattle.cyc_parser.specs.Tests.{is_sign, is_region}
use Rattle.cyc_parser.specs.Reader.{done, choose, listed}
use Rattle.cyc_parser.specs.ReadTypes.{regions}
use Rattle.cyc_parser.specs.ReadPrograms.{effect, bound, bounds}
use Rattle.cyc_parser.specs.Exact.{Exact, Anything, ends, always, IsDone, Then, Either, Whole}
use Rattle.cyc_parser.proofs.Exact.{done_exact, exact_as, exact_wider}
use Rattle.cyc_parser.proofs.exactness.Composed.{begins_with, stops_at, then_exact, meets_exact, option_exact, finish, ends_wider}
use Rattle.cyc_parser.proofs.exactness.Listed.{listed_exact, listed_begins}
use Rattle.cyc_parser.proofs.exactness.Regions.{region_begins}
use Rattle.cyc_parser.proofs.exactness.Types.{sign_exact, region_exact, regions_exact}

-- ---- the effect

abbrev regions_on : TokenKind → Bool
regions_on k = is_region k || is_sign sign_of.Comma k

region_goes_on : (k : TokenKind) → is_region k ≡ true → regions_on k ≡ true
region_goes_on kind.Region h = refl
region_goes_on _ h = absurd cc

comma_goes_on : (k : TokenKind) → is_sign sign_of.Comma k ≡ true → regions_on k ≡ true
comma_goes_on (kind.Sign sign_of.Comma) h = refl
comma_goes_on _ h = absurd cc

some_listed : (rs : List RegionName) (from to : Tokens) → Listed IsRegion rs from to → MayBeListed rs from to
some_listed [] from to w = absurd w
some_listed (r ∷ rs) from to w = w

listed_into : (b : Bool) (rs : List RegionName) (from to : Tokens) → Either (Whole (Listed IsRegion)) (IsDone []) b rs from to
    → MayBeListed rs from to
listed_into b rs from to (inl w) = some_listed rs from to w
listed_into b rs from to (inr d) = finish (λ rs to. MayBeListed rs from to) d refl

listed_back : (b : Bool) (rs : List RegionName) (from to : Tokens) → MayBeListed rs from to
    → Either (Whole (Listed IsRegion)) (IsDone []) b rs from to
listed_back b [] from to w = inr (refl, w)
listed_back b (r ∷ rs) from to w = inl w

may_be_listed_exact : Exact Anything (Whole MayBeListed) (always regions_on) (choose is_region regions (done []))
may_be_listed_exact =
    exact_as Anything (Either (Whole (Listed IsRegion)) (IsDone [])) (always regions_on) _
    (option_exact is_region (always regions_on) (Whole (Listed IsRegion)) regions
    (exact_wider Anything (Whole (Listed IsRegion)) (always (is_sign sign_of.Comma)) (always regions_on) regions regions_exact (λ rs. comma_goes_on))
    [] (λ b rs from to w. listed_begins is_region IsRegion region_begins rs from to w) region_goes_on)
    (Whole MayBeListed) listed_into listed_back

abbrev InBraces : Bool → Option (List RegionName) → Tokens → Tokens → Type 0
InBraces =
    Then (Whole (SignAt sign_of.Semicolon)) (λ _. Then (Whole (SignAt sign_of.LeftBrace)) (λ _. Then (Whole MayBeListed) (λ rs.
    Then (Whole (SignAt sign_of.RightBrace)) (λ _. IsDone (Some rs)))))

effect_into : (b : Bool) (e : Option (List RegionName)) (from to : Tokens) → Either InBraces (IsDone None) b e from to → IsEffect e from to
effect_into b e from to (inl w) =
    let v = w.3.3 in
    finish (λ e to. IsEffect e from to) v.3.3 (w.1, w.3.1, v.1, (w.0, w.2), (w.3.0, w.3.2), v.2, (v.3.0, v.3.2))
effect_into b e from to (inr d) = finish (λ e to. IsEffect e from to) d refl

effect_back : (b : Bool) (e : Option (List RegionName)) (from to : Tokens) → IsEffect e from to → Either InBraces (IsDone None) b e from to
effect_back b None from to w = inr (refl, w)
effect_back b (Some rs) from to w = inl (w.3.0, w.0, w.3.1, (w.4.0, w.1, w.4.1, (rs, w.2, w.5, (w.6.0, to, w.6.1, (refl, refl)))))

pub effect_exact : Exact Anything (Whole IsEffect) (always (is_sign sign_of.Semicolon)) effect
unfolding effect
effect_exact =
    exact_as Anything (Either InBraces (IsDone None)) (always (is_sign sign_of.Semicolon)) _
    (option_exact (is_sign sign_of.Semicolon) (always (is_sign sign_of.Semicolon)) InBraces _
    (ends_wider InBraces _ (then_exact _ _ (sign_exact sign_of.Semicolon) _ ends _ (λ _. then_exact _ _ (sign_exact sign_of.LeftBrace) _ ends _ (λ _.
    meets_exact _ _ _ may_be_listed_exact _ ends _ (λ rs. then_exact _ _ (sign_exact sign_of.RightBrace) _ ends _ (λ _. done_exact (Some rs)))
    (λ b rs e mid to w s. stops_at regions_on mid _ _ w.2.1 refl)))) (always (is_sign sign_of.Semicolon)))
    None (λ b e from to w. begins_with (is_sign sign_of.Semicolon) from _ _ w.2.1 refl) (λ k h. h))
    (Whole IsEffect) effect_into effect_back

-- ---- bounds

pub bound_exact : Exact Anything (Whole IsBound) ends bound
unfolding bound
bound_exact =
    exact_as Anything
    (Then (Whole IsRegion)
    (λ longer. Then (Whole (SignAt sign_of.Greater))
    (λ _. Then (Whole IsRegion) (λ shorter. IsDone (record { longer = longer; shorter = shorter })))))
    ends _
    (then_exact _ _ region_exact _ ends _ (λ longer. then_exact _ _ (sign_exact sign_of.Greater) _ ends _ (λ _.
    then_exact _ _ region_exact _ ends _ (λ shorter. done_exact (record { longer = longer; shorter = shorter })))))
    (Whole IsBound)
    (λ b x from to w. finish (λ x to. IsBound x from to) w.3.3.3 (w.1, w.3.1, w.2, (w.3.0, w.3.2), w.3.3.2))
    (λ b x from to w. (x.longer, w.0, w.2, (w.3.0, w.1, w.3.1, (x.shorter, to, w.4, (refl, refl)))))

abbrev pub bounds_on : TokenKind → Bool
bounds_on k = is_sign sign_of.Colon k || is_sign sign_of.Comma k

colon_bounds : (k : TokenKind) → is_sign sign_of.Colon k ≡ true → bounds_on k ≡ true
colon_bounds (kind.Sign sign_of.Colon) h = refl
colon_bounds _ h = absurd cc

comma_bounds : (k : TokenKind) → is_sign sign_of.Comma k ≡ true → bounds_on k ≡ true
comma_bounds (kind.Sign sign_of.Comma) h = refl
comma_bounds _ h = absurd cc

abbrev BehindColon : Bool → List Bound → Tokens → Tokens → Type 0
BehindColon = Then (Whole (SignAt sign_of.Colon)) (λ _. Whole (Listed IsBound))

some_bounds : (xs : List Bound) (from mid to : Tokens) → IsSign sign_of.Colon from mid → Listed IsBound xs mid to → AreBounds xs from to
some_bounds [] from mid to c w = absurd w
some_bounds (x ∷ xs) from mid to c w = (mid, c, w)

bounds_into : (b : Bool) (xs : List Bound) (from to : Tokens) → Either BehindColon (IsDone []) b xs from to → AreBounds xs from to
bounds_into b xs from to (inl w) = some_bounds xs from w.1 to (w.0, w.2) w.3
bounds_into b xs from to (inr d) = finish (λ xs to. AreBounds xs from to) d refl

bounds_back : (b : Bool) (xs : List Bound) (from to : Tokens) → AreBounds xs from to → Either BehindColon (IsDone []) b xs from to
bounds_back b [] from to w = inr (refl, w)
bounds_back b (x ∷ xs) from to w = inl (w.1.0, w.0, w.1.1, w.2)

pub bounds_exact : Exact Anything (Whole AreBounds) (always bounds_on) bounds
unfolding bounds
bounds_exact =
    exact_as Anything (Either BehindColon (IsDone [])) (always bounds_on) _
    (option_exact (is_sign sign_of.Colon) (always bounds_on) BehindColon _
    (then_exact _ _ (sign_exact sign_of.Colon) _ (always bounds_on) _ (λ _.
    exact_wider Anything (Whole (Listed IsBound)) (always (is_sign sign_of.Comma)) (always bounds_on) (listed bound)
    (listed_exact IsBound bound bound_exact) (λ xs. comma_bounds)))
    [] (λ b xs from to w. begins_with (is_sign sign_of.Colon) from _ _ w.2.1 refl) colon_bounds)
    (Whole AreBounds) bounds_into bounds_back
