-- How alike two types are under pointers.
use Rattle.std.proofs.Common.{◌≡◌, Bool, true, false, List, [], ◌∷◌, length, refl, sym, ap, ◌∙◌, arith, suc, ◌+◌}
use Rattle.std.specs.List.{fold, zip}
use Rattle.source_typing.specs.Regions.{same_id}
use Rattle.source_meaning.specs.Shapes.{same_bound, single}
use Rattle.source_typing.specs.Types.{ByRegions, Differs, Equals, Match, StaticType, compare, matched, only, same_bool}
use Rattle.cyc_types.specs.Bases.{base_type}
use Rattle.cyc_types.specs.Layers.{layers_match, next_alike, pointed, pointer_to}
use Rattle.cyc_types.specs.Likeness.{likeness_of, match_of}
use Rattle.cyc_types.specs.Reaches.{reach_of}
use Rattle.cyc_types.specs.Regions.{region_of}
use Rattle.cyc_types.specs.declared.base.BaseType.{BaseType}
use Rattle.cyc_types.specs.declared.base.BaseType.TheVariants as base
use Rattle.cyc_types.specs.declared.layer.Layer.{Layer}
use Rattle.cyc_types.specs.declared.layer.Layer.TheVariants as code

pub as_match : (m : Match) → match_of (likeness_of m) ≡ m
as_match Equals = refl
as_match ByRegions = refl
as_match Differs = refl

-- pointers on two types are as alike as the pointers and the types say
pub pointers_match : (l k : Layer) (t u : StaticType) → compare (pointer_to l t) (pointer_to k u) ≡ layers_match l k (compare t u)
pointers_match (code.Thin n r) (code.Thin m q) t u = refl
pointers_match (code.Thin n r) (code.Unique m) t u = refl
pointers_match (code.Thin n r) (code.Fat q) t u = refl
pointers_match (code.Fat r) (code.Thin m q) t u = refl
pointers_match (code.Fat r) (code.Unique m) t u = refl
pointers_match (code.Fat r) (code.Fat q) t u = refl
pointers_match (code.Unique n) (code.Thin m q) t u = refl
pointers_match (code.Unique n) (code.Unique m) t u = refl
pointers_match (code.Unique n) (code.Fat q) t u = refl

pub alike_under : (ls ks : List Layer) (t u : StaticType) → length ls ≡ length ks
    → likeness_of (compare (pointed t ls) (pointed u ks)) ≡ fold next_alike (likeness_of (compare t u)) (zip ls ks)
alike_under [] [] t u h = refl
alike_under [] (k ∷ ks) t u h = grind (arith, h)
alike_under (l ∷ ls) [] t u h = grind (arith, h)
alike_under (l ∷ ls) (k ∷ ks) t u h =
    alike_under ls ks (pointer_to l t) (pointer_to k u) (grind (arith, h))
    ∙ ap (λ m. fold next_alike m (zip ls ks))
    (ap likeness_of (pointers_match l k t u ∙ ap (layers_match l k) (sym (as_match (compare t u)))))

-- ---- as many pointers on each, or else the types are different

-- the outermost pointer first
abbrev over : List Layer → StaticType → StaticType
over [] t = t
over (l ∷ ls) t = pointer_to l (over ls t)

abbrev turned : List Layer → List Layer → List Layer
turned done [] = done
turned done (l ∷ ls) = turned (l ∷ done) ls

pointed_over : (ls done : List Layer) (t : StaticType) → pointed (over done t) ls ≡ over (turned done ls) t
pointed_over [] done t = refl
pointed_over (l ∷ ls) done t = pointed_over ls (l ∷ done) t

turned_length : (ls done : List Layer) → length (turned done ls) ≡ length ls + length done
turned_length [] done = omega arith
turned_length (l ∷ ls) done = omega (arith, turned_length ls (l ∷ done))

only_apart : (b : Bool) → only b Differs ≡ Differs
only_apart true = refl
only_apart false = refl

regions_apart : (b : Bool) → matched b Differs ≡ Differs
regions_apart true = refl
regions_apart false = refl

apart : (b c : Bool) → only b (matched c Differs) ≡ Differs
apart b c = ap (only b) (regions_apart c) ∙ only_apart b

layers_differ : (l k : Layer) → layers_match l k Differs ≡ Differs
layers_differ (code.Thin n r) (code.Thin m q) = apart (same_bound (reach_of n) (reach_of m)) (same_id (region_of r) (region_of q))
layers_differ (code.Thin n r) (code.Unique m) = only_apart (same_bound (reach_of n) (single m))
layers_differ (code.Thin n r) (code.Fat q) = refl
layers_differ (code.Fat r) (code.Thin m q) = refl
layers_differ (code.Fat r) (code.Unique m) = refl
layers_differ (code.Fat r) (code.Fat q) = regions_apart (same_id (region_of r) (region_of q))
layers_differ (code.Unique n) (code.Thin m q) = only_apart (same_bound (single n) (reach_of m))
layers_differ (code.Unique n) (code.Unique m) = only_apart (same_bool n m)
layers_differ (code.Unique n) (code.Fat q) = refl

base_differs : (b : BaseType) (l : Layer) (t : StaticType) → compare (base_type b) (pointer_to l t) ≡ Differs
base_differs base.Int (code.Thin n r) t = refl
base_differs base.Int (code.Fat r) t = refl
base_differs base.Int (code.Unique n) t = refl
base_differs base.Unsigned (code.Thin n r) t = refl
base_differs base.Unsigned (code.Fat r) t = refl
base_differs base.Unsigned (code.Unique n) t = refl
base_differs base.Char (code.Thin n r) t = refl
base_differs base.Char (code.Fat r) t = refl
base_differs base.Char (code.Unique n) t = refl
base_differs base.Void (code.Thin n r) t = refl
base_differs base.Void (code.Fat r) t = refl
base_differs base.Void (code.Unique n) t = refl
base_differs base.Null (code.Thin n r) t = refl
base_differs base.Null (code.Fat r) t = refl
base_differs base.Null (code.Unique n) t = refl
base_differs (base.Handle s) (code.Thin n r) t = refl
base_differs (base.Handle s) (code.Fat r) t = refl
base_differs (base.Handle s) (code.Unique n) t = refl
base_differs (base.Key s) (code.Thin n r) t = refl
base_differs (base.Key s) (code.Fat r) t = refl
base_differs (base.Key s) (code.Unique n) t = refl
base_differs (base.Struct tag rs) (code.Thin n r) t = refl
base_differs (base.Struct tag rs) (code.Fat r) t = refl
base_differs (base.Struct tag rs) (code.Unique n) t = refl
base_differs (base.Union tag rs) (code.Thin n r) t = refl
base_differs (base.Union tag rs) (code.Fat r) t = refl
base_differs (base.Union tag rs) (code.Unique n) t = refl

pointer_differs : (b : BaseType) (l : Layer) (t : StaticType) → compare (pointer_to l t) (base_type b) ≡ Differs
pointer_differs base.Int (code.Thin n r) t = refl
pointer_differs base.Int (code.Fat r) t = refl
pointer_differs base.Int (code.Unique n) t = refl
pointer_differs base.Unsigned (code.Thin n r) t = refl
pointer_differs base.Unsigned (code.Fat r) t = refl
pointer_differs base.Unsigned (code.Unique n) t = refl
pointer_differs base.Char (code.Thin n r) t = refl
pointer_differs base.Char (code.Fat r) t = refl
pointer_differs base.Char (code.Unique n) t = refl
pointer_differs base.Void (code.Thin n r) t = refl
pointer_differs base.Void (code.Fat r) t = refl
pointer_differs base.Void (code.Unique n) t = refl
pointer_differs base.Null (code.Thin n r) t = refl
pointer_differs base.Null (code.Fat r) t = refl
pointer_differs base.Null (code.Unique n) t = refl
pointer_differs (base.Handle s) (code.Thin n r) t = refl
pointer_differs (base.Handle s) (code.Fat r) t = refl
pointer_differs (base.Handle s) (code.Unique n) t = refl
pointer_differs (base.Key s) (code.Thin n r) t = refl
pointer_differs (base.Key s) (code.Fat r) t = refl
pointer_differs (base.Key s) (code.Unique n) t = refl
pointer_differs (base.Struct tag rs) (code.Thin n r) t = refl
pointer_differs (base.Struct tag rs) (code.Fat r) t = refl
pointer_differs (base.Struct tag rs) (code.Unique n) t = refl
pointer_differs (base.Union tag rs) (code.Thin n r) t = refl
pointer_differs (base.Union tag rs) (code.Fat r) t = refl
pointer_differs (base.Union tag rs) (code.Unique n) t = refl

over_differ : (ls ks : List Layer) (b c : BaseType) → (length ls ≡ length ks → ⊥)
    → compare (over ls (base_type b)) (over ks (base_type c)) ≡ Differs
over_differ [] [] b c h = absurd (h refl)
over_differ [] (k ∷ ks) b c h = base_differs b k (over ks (base_type c))
over_differ (l ∷ ls) [] b c h = pointer_differs c l (over ls (base_type b))
over_differ (l ∷ ls) (k ∷ ks) b c h =
    pointers_match l k (over ls (base_type b)) (over ks (base_type c))
    ∙ ap (layers_match l k) (over_differ ls ks b c (λ e. h (ap suc e)))
    ∙ layers_differ l k

pub different_under : (ls ks : List Layer) (b c : BaseType) → (length ls ≡ length ks → ⊥)
    → compare (pointed (base_type b) ls) (pointed (base_type c) ks) ≡ Differs
different_under ls ks b c h =
    rw (pointed_over ls [] (base_type b), pointed_over ks [] (base_type c))
    (over_differ (turned [] ls) (turned [] ks) b c (λ e. h (omega (arith, e, turned_length ls [], turned_length ks []))))
