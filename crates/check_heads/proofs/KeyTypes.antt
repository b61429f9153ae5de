-- Keys are no pointers, and are found one after another.
use Rattle.std.proofs.Common.{◌≡◌, Option, Some, None, List, [], ◌∷◌, append-nil, refl, sym, ap, ◌∙◌}
use Rattle.std.specs.Prelude.{◌++◌}
use Rattle.std.proofs.lemmas.List.{map-append}
use Rattle.cyc_types.proofs.Outermost.{by_outermost}
use Rattle.cyc_types.specs.Bases.{base_type}
use Rattle.cyc_types.specs.Layers.{outermost, pointed, pointer_to}
use Rattle.cyc_types.specs.Regions.{region_of, regions_of}
use Rattle.cyc_types.specs.Types.{static_type}
use Rattle.cyc_types.specs.declared.ctype.CType.{CType}
use Rattle.cyc_types.specs.declared.layer.Layer.{Layer}
use Rattle.cyc_types.specs.declared.layer.Layer.TheVariants as code
use Rattle.cyc_types.specs.declared.region.RegionId.{RegionId}
use Rattle.source_typing.specs.Regions.{Region}
use Rattle.source_typing.specs.Types.{StaticType}
use Rattle.check_heads.specs.Used.{key_of, listed}

no_pointer : (l : Layer) (t : StaticType) → key_of (pointer_to l t) ≡ None
no_pointer (code.Thin n r) t = refl
no_pointer (code.Fat r) t = refl
no_pointer (code.Unique n) t = refl

under_pointers : (ls : List Layer) (t : StaticType) (l : Layer) → outermost ls ≡ Some l → key_of (pointed t ls) ≡ None
under_pointers [] t l e = absurd cc
under_pointers (k ∷ ks) t l e = by_outermost key_of (λ m. None) no_pointer k ks t

without_pointers : (ls : List Layer) (t : StaticType) → outermost ls ≡ None → key_of (pointed t ls) ≡ key_of t
without_pointers [] t e = refl
without_pointers (k ∷ ks) t e = absurd cc

pub pointer_key : (t : CType) (l : Layer) → outermost t.layers.items ≡ Some l → key_of (static_type t) ≡ None
pointer_key t l e = under_pointers t.layers.items (base_type t.base) l e

pub base_key : (t : CType) → outermost t.layers.items ≡ None → key_of (static_type t) ≡ key_of (base_type t.base)
base_key t e = without_pointers t.layers.items (base_type t.base) e

-- one region more, or none
pub key_more : (rs new : List RegionId) (r : RegionId) (o : Option Region) → Some (region_of r) ≡ o → new ≡ rs ++ r ∷ []
    → regions_of new ≡ regions_of rs ++ listed o
key_more rs new r o e is = ap (λ qs. regions_of qs) is ∙ map-append region_of rs (r ∷ []) ∙ ap (λ p. regions_of rs ++ listed p) e

pub no_key_more : (rs : List RegionId) (o : Option Region) → None ≡ o → regions_of rs ≡ regions_of rs ++ listed o
no_key_more rs o e = sym (append-nil (regions_of rs)) ∙ ap (λ p. regions_of rs ++ listed p) e
