-- The readers of regions are exact.
use Rattle.std.proofs.Common.{◌≡◌, ◌⊎◌, Bool, true, List, [], ◌∷◌, refl, inl, inr}
use Rattle.cyc_lexer.specs.declared.token.Sign.TheVariants as sign_of
use Rattle.cyc_tree.specs.Tree.{RegionName, Heap, Unique, Named}
use Rattle.source_grammar.specs.Phrases.{Tokens, SignAt, IsSign, IsRegion, Listed}
use Rattle.source_grammar.specs.TypeGrammar.{AreRegions, IsOneRegion}
use Rattle.cyc_parser.specs.Tests.{is_sign, is_region}
use Rattle.cyc_parser.specs.Reader.{next_is}
use Rattle.cyc_parser.specs.ReadTypes.{one_region, regions, region_list}
use Rattle.cyc_parser.specs.Exact.{Exact, Anything, ends, always, IsDone, Then, Either, Whole}
use Rattle.cyc_parser.proofs.Exact.{done_exact, exact_as}
use Rattle.cyc_parser.proofs.exactness.Composed.{begins_with, stops_at, then_exact, meets_exact, option_exact, finish, ends_wider}
use Rattle.cyc_parser.proofs.exactness.Tokens.{sign_exact, region_exact}
use Rattle.cyc_parser.proofs.exactness.Listed.{listed_exact, sign_begins}

pub region_begins : (r : RegionName) (from to : Tokens) → IsRegion r from to → next_is is_region from ≡ true
region_begins (Heap at) from to w = begins_with is_region from _ _ w refl
region_begins (Unique at) from to w = begins_with is_region from _ _ w refl
region_begins (Named n) from to w = begins_with is_region from _ _ w.1 refl

pub one_region_exact : Exact Anything (Whole IsOneRegion) ends one_region
unfolding one_region
one_region_exact =
    exact_as Anything _ ends _
    (then_exact _ _ (sign_exact sign_of.Less) _ ends _ (λ _.
    then_exact _ _ region_exact _ ends _ (λ r. then_exact _ _ (sign_exact sign_of.Greater) _ ends _ (λ _. done_exact r))))
    (Whole IsOneRegion)
    (λ b r from to w. finish (λ r to. IsOneRegion r from to) w.3.3.3 (w.1, w.3.1, (w.0, w.2), w.3.2, (w.3.3.0, w.3.3.2)))
    (λ b r from to w. (w.2.0, w.0, w.2.1, (r, w.1, w.3, (w.4.0, to, w.4.1, (refl, refl)))))

pub regions_exact : Exact Anything (Whole (Listed IsRegion)) (always (is_sign sign_of.Comma)) regions
unfolding regions
regions_exact = listed_exact IsRegion _ region_exact

some_regions : (rs : List RegionName) (from a b to : Tokens) → IsSign sign_of.Less from a → Listed IsRegion rs a b → IsSign sign_of.Greater b to
    → AreRegions rs from to
some_regions [] from a b to less w greater = absurd w
some_regions (r ∷ rs) from a b to less w greater = (a, b, less, w, greater)

abbrev InAngles : Bool → List RegionName → Tokens → Tokens → Type 0
InAngles = Then (Whole (SignAt sign_of.Less)) (λ _. Then (Whole (Listed IsRegion)) (λ rs. Then (Whole (SignAt sign_of.Greater)) (λ _. IsDone rs)))

regions_into : (b : Bool) (rs : List RegionName) (from to : Tokens) → Either InAngles (IsDone []) b rs from to → AreRegions rs from to
regions_into b rs from to (inl w) =
    finish (λ rs to. AreRegions rs from to) w.3.3.3 (some_regions w.3.0 from w.1 w.3.1 w.3.3.1 (w.0, w.2) w.3.2 (w.3.3.0, w.3.3.2))
regions_into b rs from to (inr d) = finish (λ rs to. AreRegions rs from to) d refl

regions_back : (b : Bool) (rs : List RegionName) (from to : Tokens) → AreRegions rs from to → Either InAngles (IsDone []) b rs from to
regions_back b [] from to w = inr (refl, w)
regions_back b (r ∷ rs) from to w = inl (w.2.0, w.0, w.2.1, (r ∷ rs, w.1, w.3, (w.4.0, to, w.4.1, (refl, refl))))

pub region_list_exact : Exact Anything (Whole AreRegions) (always (is_sign sign_of.Less)) region_list
unfolding region_list
region_list_exact =
    exact_as Anything (Either InAngles (IsDone [])) (always (is_sign sign_of.Less)) _
    (option_exact (is_sign sign_of.Less) (always (is_sign sign_of.Less)) InAngles _
    (ends_wider InAngles _ (then_exact _ _ (sign_exact sign_of.Less) _ ends _ (λ _.
    meets_exact _ _ _ regions_exact _ ends _ (λ rs. then_exact _ _ (sign_exact sign_of.Greater) _ ends _ (λ _. done_exact rs))
    (λ b rs c mid to w s. stops_at (is_sign sign_of.Comma) mid _ _ w.2.1 refl))) (always (is_sign sign_of.Less)))
    [] (λ b rs from to w. begins_with (is_sign sign_of.Less) from _ _ w.2.1 refl) (λ k h. h))
    (Whole AreRegions) regions_into regions_back

-- what begins with regions begins with `<`, or with what stands behind
pub regions_begin : (rs : List RegionName) (from to : Tokens) → AreRegions rs from to → (next_is (is_sign sign_of.Less) from ≡ true) ⊎ (from ≡ to)
regions_begin [] from to w = inr w
regions_begin (r ∷ rs) from to w = inl (sign_begins sign_of.Less from w.0 w.2)
