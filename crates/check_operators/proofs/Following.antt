-- What pointers lead to.
use Rattle.std.proofs.Common.{◌≡◌, ℕ, Bool, true, false, Option, Some, None, refl, sym, ap, ◌∙◌}
use Rattle.source_typing.specs.Faults.{type_rule}
use Rattle.source_typing.specs.Places.{contents_of, in_live}
use Rattle.source_typing.specs.Regions.{Region, Regions}
use Rattle.source_typing.specs.Scope.{Env, In, is_live, seated}
use Rattle.source_typing.specs.Types.{StaticType}
use Rattle.source_typing.specs.Verdicts.{refuse}
use Rattle.cyc_types.specs.Bases.{base_type}
use Rattle.cyc_types.specs.Conversions.{outer_ordered}
use Rattle.cyc_types.specs.Layers.{outermost, pointer_to}
use Rattle.cyc_types.specs.Regions.{region_of}
use Rattle.cyc_types.specs.Types.{static_type}
use Rattle.cyc_types.specs.declared.base.BaseType.{BaseType}
use Rattle.cyc_types.specs.declared.base.BaseType.TheVariants as base
use Rattle.cyc_types.specs.declared.ctype.CType.{CType}
use Rattle.cyc_types.specs.declared.layer.Layer.{Layer}
use Rattle.cyc_types.specs.declared.layer.Layer.TheVariants as code
use Rattle.cyc_types.proofs.Converting.{by_none}
use Rattle.check_operators.specs.Pointers.{followed, is_reached, region_outside, regions_ordered, seat_behind}

-- ---- regions in order

outer_regions : (g : Regions) (any : Bool) (l k : Option Layer) → outer_ordered g any l k ≡ regions_ordered g any (region_outside l) (region_outside k)
outer_regions g any None k = refl
outer_regions g any (Some (code.Thin n r)) None = refl
outer_regions g any (Some (code.Fat r)) None = refl
outer_regions g any (Some (code.Unique n)) None = refl
outer_regions g any (Some (code.Thin n r)) (Some (code.Thin m q)) = refl
outer_regions g any (Some (code.Thin n r)) (Some (code.Fat q)) = refl
outer_regions g any (Some (code.Thin n r)) (Some (code.Unique m)) = refl
outer_regions g any (Some (code.Fat r)) (Some (code.Thin m q)) = refl
outer_regions g any (Some (code.Fat r)) (Some (code.Fat q)) = refl
outer_regions g any (Some (code.Fat r)) (Some (code.Unique m)) = refl
outer_regions g any (Some (code.Unique n)) (Some (code.Thin m q)) = refl
outer_regions g any (Some (code.Unique n)) (Some (code.Fat q)) = refl
outer_regions g any (Some (code.Unique n)) (Some (code.Unique m)) = refl

pub in_order : (g : Regions) (o : Bool) (l k : Option Layer) → regions_ordered g o (region_outside l) (region_outside k) ≡ o → outer_ordered g o l k ≡ o
in_order g o l k h = outer_regions g o l k ∙ h

-- ---- what a pointer leads to

in_region : (b : Bool) (at : ℕ) (l : Layer) (t : StaticType) (r : Region) → seat_behind l ≡ In r → in_live b at t r ≡ followed at l b t
in_region true at l t r e = ap (seated at t) (sym e)
in_region false at l t r e = refl

pub pointer_led : (g : Env) (at : ℕ) (l : Layer) (t : StaticType) → contents_of g at (pointer_to l t) ≡ followed at l (is_reached g l) t
pointer_led g at (code.Thin n r) t = in_region (is_live g (region_of r)) at (code.Thin n r) t (region_of r) refl
pointer_led g at (code.Fat r) t = in_region (is_live g (region_of r)) at (code.Fat r) t (region_of r) refl
pointer_led g at (code.Unique n) t = refl

base_led : (g : Env) (at : ℕ) (b : BaseType) → contents_of g at (base_type b) ≡ refuse type_rule at
base_led g at base.Int = refl
base_led g at base.Unsigned = refl
base_led g at base.Char = refl
base_led g at base.Void = refl
base_led g at base.Null = refl
base_led g at (base.Handle r) = refl
base_led g at (base.Key r) = refl
base_led g at (base.Struct tag rs) = refl
base_led g at (base.Union tag rs) = refl

pub plain_led : (g : Env) (at : ℕ) (t : CType) → outermost t.layers.items ≡ None → contents_of g at (static_type t) ≡ refuse type_rule at
plain_led g at t h = ap (contents_of g at) (by_none t.layers.items (base_type t.base) h) ∙ base_led g at t.base
