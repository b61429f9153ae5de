-- A type with its missing regions from another one, pointer by pointer.
use Rattle.std.proofs.Common.{◌≡◌, ◌<◌, ◌-◌, ◌+◌, ℕ, Bool, true, false, zero, suc, List, [], ◌∷◌, ◌++◌, drop, get_or, length, take, refl, sym, ap, ◌∙◌, arith}
use Rattle.std.specs.Prelude.{None, Option, Some, option_map, slice_get}
use Rattle.std.proofs.lemmas.List.{drop_more, length-take, take-take}
use Rattle.std.proofs.lemmas.Option.{slice_get-map}
use Rattle.source_typing.specs.Missing.{arguments_of, as_type, filled_arguments, filled_from, outer_region, pointee_of, settled}
use Rattle.source_typing.specs.Regions.{Region}
use Rattle.source_typing.specs.Written.{Found}
use Rattle.source_typing.specs.Types.{PartialType, StaticType}
use Rattle.cyc_types.proofs.Converting.{by_outer}
use Rattle.cyc_types.proofs.Outermost.{base_leads, base_outer}
use Rattle.cyc_types.specs.Bases.{base_type}
use Rattle.cyc_types.specs.Layers.{last_or, outermost, pointed, pointer_to}
use Rattle.cyc_types.specs.Regions.{region_of, regions_of}
use Rattle.cyc_types.specs.declared.base.BaseType.{BaseType}
use Rattle.cyc_types.specs.declared.layer.Layer.{Layer}
use Rattle.cyc_types.specs.declared.layer.Layer.TheVariants as pointer
use Rattle.cyc_types.specs.declared.region.RegionId.{RegionId}
use Rattle.check_faults.specs.Verdicts.{shortened}
use Rattle.check_types.specs.Settling.{all_from, argument_from, layer_from, outer_found, reached}
use Rattle.check_types.specs.Written.{partial_base, partial_regions, partial_to, partial_under}
use Rattle.check_types.specs.declared.base.WrittenBase.{WrittenBase}
use Rattle.check_types.specs.declared.layer.WrittenLayer.{WrittenLayer}
use Rattle.check_types.specs.declared.layer.WrittenLayer.TheVariants as code

-- ---- what a type leads to

pointer_leads : (l : Layer) (t : StaticType) → pointee_of (Some (pointer_to l t)) ≡ Some t
pointer_leads (pointer.Thin n r) t = refl
pointer_leads (pointer.Fat r) t = refl
pointer_leads (pointer.Unique n) t = refl

pointer_outer : (l : Layer) (t : StaticType) → outer_found (Some l) ≡ outer_region (Some (pointer_to l t))
pointer_outer (pointer.Thin n r) t = refl
pointer_outer (pointer.Fat r) t = refl
pointer_outer (pointer.Unique n) t = refl

pub none_reached : (n : ℕ) → reached n None ≡ None
none_reached zero = refl
none_reached (suc n) = none_reached n

reached_more : (n : ℕ) (s : Option StaticType) → pointee_of (reached n s) ≡ reached (suc n) s
reached_more zero s = refl
reached_more (suc n) s = reached_more n (pointee_of s)

none_taken : (n : ℕ) → take n (let ls : List Layer = [] in ls) ≡ []
none_taken zero = refl
none_taken (suc n) = refl

-- the outermost of the first pointers
pub last_taken : (n : ℕ) (ls : List Layer) → n < length ls → slice_get ls n ≡ outermost (take (suc n) ls)
last_taken n [] h = absurd (omega (arith, h))
last_taken zero (l ∷ ls) h = refl
last_taken (suc n) (l ∷ []) h = absurd (omega (arith, h))
last_taken (suc n) (l ∷ k ∷ ks) h = last_taken n (k ∷ ks) (omega (arith, h))

-- all but so many of all but the last
taken_less : (m : ℕ) (k : Layer) (ks : List Layer) → take (length (take (length ks) (k ∷ ks)) - m) (take (length ks) (k ∷ ks))
    ≡ take (length (k ∷ ks) - suc m) (k ∷ ks)
taken_less m k ks =
    let e : length (take (length ks) (k ∷ ks)) - m ≡ length (k ∷ ks) - suc m = omega (arith, length-take (length ks) (k ∷ ks)) in
    ap (λ n. take n (take (length ks) (k ∷ ks))) e
    ∙ take-take (length (k ∷ ks) - suc m) (length ks) (k ∷ ks) (omega arith)

-- what a pointer leads to has one pointer less
inner_leads : (k : Layer) (ks : List Layer) (t : StaticType) → pointee_of (Some (pointed t (k ∷ ks))) ≡ Some (pointed t (take (length ks) (k ∷ ks)))
inner_leads k ks t =
    let one : length (k ∷ ks) - 1 ≡ length ks = omega arith in
    ap (λ u. pointee_of (Some u)) (by_outer (k ∷ ks) t (last_or k ks) refl)
    ∙ ap (λ n. pointee_of (Some (pointer_to (last_or k ks) (pointed t (take n (k ∷ ks)))))) one
    ∙ pointer_leads (last_or k ks) (pointed t (take (length ks) (k ∷ ks)))

-- so many pointers lead to the base, and others to none
pub base_reached : (n : ℕ) (ks : List Layer) (t : StaticType) → length ks ≡ n → reached n (Some (pointed t ks)) ≡ Some t
base_reached zero [] t e = refl
base_reached zero (k ∷ ks) t e = absurd (omega (arith, e))
base_reached (suc n) [] t e = absurd (omega (arith, e))
base_reached (suc n) (k ∷ ks) t e =
    ap (reached n) (inner_leads k ks t) ∙ base_reached n (take (length ks) (k ∷ ks)) t (omega (arith, e, length-take (length ks) (k ∷ ks)))

no_arguments : (u : Bool) (tag : List ℕ) (l : Layer) (t : StaticType) → arguments_of u tag (Some (pointer_to l t)) ≡ []
no_arguments true tag (pointer.Thin n r) t = refl
no_arguments true tag (pointer.Fat r) t = refl
no_arguments true tag (pointer.Unique n) t = refl
no_arguments false tag (pointer.Thin n r) t = refl
no_arguments false tag (pointer.Fat r) t = refl
no_arguments false tag (pointer.Unique n) t = refl

pub none_of_none : (u : Bool) (tag : List ℕ) → arguments_of u tag None ≡ []
none_of_none true tag = refl
none_of_none false tag = refl

pub none_at : (u : Bool) (n : ℕ) (ks : List Layer) (b : BaseType) (tag : List ℕ) → (length ks ≡ n → ⊥)
    → arguments_of u tag (reached n (Some (pointed (base_type b) ks))) ≡ []
none_at u zero [] b tag h = absurd (h refl)
none_at u zero (k ∷ ks) b tag h =
    ap (λ t. arguments_of u tag (Some t)) (by_outer (k ∷ ks) (base_type b) (last_or k ks) refl) ∙ no_arguments u tag (last_or k ks) _
none_at u (suc n) [] b tag h = ap (λ s. arguments_of u tag s) (ap (reached n) (base_leads b) ∙ none_reached n) ∙ none_of_none u tag
none_at u (suc n) (k ∷ ks) b tag h =
    ap (λ s. arguments_of u tag (reached n s)) (inner_leads k ks (base_type b))
    ∙ none_at u n (take (length ks) (k ∷ ks)) b tag (λ e. h (omega (arith, e, length-take (length ks) (k ∷ ks))))

whole_taken : (ls : List Layer) → take (length ls) ls ≡ ls
whole_taken [] = refl
whole_taken (l ∷ ls) = ap (λ ks. l ∷ ks) (whole_taken ls)

-- the outermost pointer of what a type leads to through so many
pub outer_reached : (m : ℕ) (ks : List Layer) (b : BaseType)
    → outer_found (outermost (take (length ks - m) ks)) ≡ outer_region (reached m (Some (pointed (base_type b) ks)))
outer_reached zero [] b = ap (λ ls. outer_found (outermost ls)) (none_taken (length (let ls : List Layer = [] in ls) - 0)) ∙ sym (base_outer b)
outer_reached zero (k ∷ ks) b =
    let all : length (k ∷ ks) - 0 ≡ length (k ∷ ks) = omega arith in
    ap (λ n. outer_found (outermost (take n (k ∷ ks)))) all ∙ ap (λ ls. outer_found (outermost ls)) (whole_taken (k ∷ ks))
    ∙ pointer_outer (last_or k ks) (pointed (base_type b) (take (length (k ∷ ks) - 1) (k ∷ ks)))
    ∙ ap (λ t. outer_region (Some t)) (sym (by_outer (k ∷ ks) (base_type b) (last_or k ks) refl))
outer_reached (suc m) [] b =
    ap (λ ls. outer_found (outermost ls)) (none_taken (length (let ls : List Layer = [] in ls) - suc m))
    ∙ ap (λ s. outer_region s) (sym (ap (λ s. reached m s) (base_leads b) ∙ none_reached m))
outer_reached (suc m) (k ∷ ks) b =
    let one : length (k ∷ ks) - 1 ≡ length ks = omega arith in
    let inner : StaticType = pointed (base_type b) (take (length ks) (k ∷ ks)) in
    ap (λ ls. outer_found (outermost ls)) (sym (taken_less m k ks))
    ∙ outer_reached m (take (length ks) (k ∷ ks)) b
    ∙ ap (λ s. outer_region (reached m s)) (sym (pointer_leads (last_or k ks) inner))
    ∙ ap (λ n. outer_region (reached m (pointee_of (Some (pointer_to (last_or k ks) (pointed (base_type b) (take n (k ∷ ks)))))))) (sym one)
    ∙ ap (λ t. outer_region (reached m (pointee_of (Some t)))) (sym (by_outer (k ∷ ks) (base_type b) (last_or k ks) refl))

-- ---- a type with regions from another

pointer_filled : (l : WrittenLayer) (p : PartialType) (s : Option StaticType)
    → filled_from (partial_to l p) s ≡ layer_from l (outer_region s) (filled_from p (pointee_of s))
pointer_filled (code.Thin n r) p s = refl
pointer_filled (code.Fat r) p s = refl
pointer_filled (code.Unique n) p s = refl

pointers_filled : (ls : List WrittenLayer) (p : PartialType) (s : Option StaticType)
    → filled_from (partial_under p ls) s ≡ all_from ls s (filled_from p (reached (length ls) s))
pointers_filled [] p s = refl
pointers_filled (l ∷ ls) p s =
    pointers_filled ls (partial_to l p) s
    ∙ ap (all_from ls s) (pointer_filled l p (reached (length ls) s)
    ∙ ap (λ o. layer_from l (outer_region (reached (length ls) s)) (filled_from p o)) (reached_more (length ls) s))

pub none_from : (ls : List WrittenLayer) (s : Option StaticType) → all_from ls s None ≡ None
none_from [] s = refl
none_from (code.Thin n r ∷ ls) s = none_from ls s
none_from (code.Fat r ∷ ls) s = none_from ls s
none_from (code.Unique n ∷ ls) s = none_from ls s

-- one pointer more
pub next_filled : (ls : List WrittenLayer) (i : ℕ) (d : WrittenLayer) (s : Option StaticType) (u : StaticType) (f : Found) (o : Option StaticType)
    → i < length ls → f ≡ outer_region (reached (length (drop (i + 1) ls)) s) → o ≡ layer_from (get_or ls i d) f (Some u)
    → all_from (drop (i + 1) ls) s o ≡ all_from (drop i ls) s (Some u)
next_filled ls i d s u f o h from is =
    ap (all_from (drop (i + 1) ls) s) (is ∙ ap (λ g. layer_from (get_or ls i d) g (Some u)) from)
    ∙ ap (λ ks. all_from ks s (Some u)) (sym (drop_more ls i d h))

-- what is answered of a base under pointers, by the pointers that were found
pub settles : (b : WrittenBase) (ls : List WrittenLayer) (at : ℕ) (s found : Option StaticType) (t : StaticType)
    → Some t ≡ filled_from (partial_base b) (reached (length ls) s) → found ≡ all_from ls s (Some t)
    → shortened (as_type at found) ≡ shortened (settled at (partial_under (partial_base b) ls) s)
settles b ls at s found t filled e =
    ap (λ o. shortened (as_type at o)) (e ∙ ap (all_from ls s) filled ∙ sym (pointers_filled ls (partial_base b) s))

-- ---- arguments with regions from others

arguments_from : (a : Option Region) (rs : List (Option Region)) (others : List Region) (i : ℕ)
    → filled_arguments (a ∷ rs) (drop i others) ≡ argument_from a (slice_get others i) ∷ filled_arguments rs (drop (suc i) others)
arguments_from None rs [] zero = refl
arguments_from None rs [] (suc i) = refl
arguments_from (Some r) rs [] zero = refl
arguments_from (Some r) rs [] (suc i) = refl
arguments_from None rs (o ∷ others) zero = refl
arguments_from (Some r) rs (o ∷ others) zero = refl
arguments_from a rs (o ∷ others) (suc i) = arguments_from a rs others i

regions_more : (filled : List RegionId) (r : RegionId) (rest : List Region) → regions_of (filled ++ r ∷ []) ++ rest ≡ regions_of filled ++ region_of r ∷ rest
regions_more [] r rest = refl
regions_more (f ∷ filled) r rest = ap (λ rs. region_of f ∷ rs) (regions_more filled r rest)

-- one argument more
pub argument_filled : (rs : List (Option RegionId)) (i : ℕ) (a : Option RegionId) (others filled : List RegionId) (r : RegionId)
    → drop i rs ≡ a ∷ drop (i + 1) rs → region_of r ≡ argument_from (option_map region_of a) (option_map region_of (slice_get others i))
    → regions_of (filled ++ r ∷ []) ++ filled_arguments (partial_regions (drop (i + 1) rs)) (drop (i + 1) (regions_of others))
    ≡ regions_of filled ++ filled_arguments (partial_regions (drop i rs)) (drop i (regions_of others))
argument_filled rs i a others filled r e is =
    let rest = partial_regions (drop (i + 1) rs) in
    let left = drop (suc i) (regions_of others) in
    let one : i + 1 ≡ suc i = omega arith in
    ap (λ n. regions_of (filled ++ r ∷ []) ++ filled_arguments rest (drop n (regions_of others))) one
    ∙ regions_more filled r (filled_arguments rest left)
    ∙ ap (λ q. regions_of filled ++ q ∷ filled_arguments rest left)
    (is ∙ ap (λ o. argument_from (option_map region_of a) o) (sym (slice_get-map region_of others i)))
    ∙ ap (λ qs. regions_of filled ++ qs) (sym (arguments_from (option_map region_of a) rest (regions_of others) i))
    ∙ sym (ap (λ bs. regions_of filled ++ filled_arguments (partial_regions bs) (drop i (regions_of others))) e)
