-- Unique pointers by the outermost pointer.
use Rattle.std.proofs.Common.{◌≡◌, false, List, Option, Some, None, refl, ap, ◌∙◌}
use Rattle.source_typing.specs.Declarations.{key_region}
use Rattle.source_typing.specs.Regions.{TheHeap}
use Rattle.source_typing.specs.Types.{StaticType, is_unique}
use Rattle.cyc_types.specs.Bases.{base_type}
use Rattle.cyc_types.specs.Layers.{outermost, pointed, pointer_to}
use Rattle.cyc_types.specs.Types.{static_type}
use Rattle.cyc_types.specs.declared.base.BaseType.{BaseType}
use Rattle.cyc_types.specs.declared.base.BaseType.TheVariants as base
use Rattle.cyc_types.specs.declared.ctype.CType.{CType}
use Rattle.cyc_types.specs.declared.layer.Layer.{Layer}
use Rattle.cyc_types.specs.declared.layer.Layer.TheVariants as code
use Rattle.cyc_types.proofs.Converting.{by_none, by_outer}
use Rattle.check_declarations.specs.Operands.{outside_unique}

base_not_unique : (b : BaseType) → is_unique (base_type b) ≡ false
base_not_unique base.Int = refl
base_not_unique base.Unsigned = refl
base_not_unique base.Char = refl
base_not_unique base.Void = refl
base_not_unique base.Null = refl
base_not_unique (base.Handle r) = refl
base_not_unique (base.Key r) = refl
base_not_unique (base.Struct tag rs) = refl
base_not_unique (base.Union tag rs) = refl

pointer_unique : (l : Layer) (t : StaticType) → is_unique (pointer_to l t) ≡ outside_unique (Some l)
pointer_unique (code.Thin n r) t = refl
pointer_unique (code.Fat r) t = refl
pointer_unique (code.Unique n) t = refl

pub unique_kind : (t : CType) → is_unique (static_type t) ≡ outside_unique (outermost t.layers.items)
unique_kind t = by (outermost t.layers.items) refl
  where
    by : (o : Option Layer) → outermost t.layers.items ≡ o → is_unique (static_type t) ≡ outside_unique o
    by None e = ap is_unique (by_none t.layers.items (base_type t.base) e) ∙ base_not_unique t.base
    by (Some l) e = ap is_unique (by_outer t.layers.items (base_type t.base) l e) ∙ pointer_unique l _

-- ---- the region of a key

pub plain_key : (ls : List Layer) (t : StaticType) → outermost ls ≡ None → key_region (pointed t ls) ≡ key_region t
plain_key ls t e = ap key_region (by_none ls t e)

pointer_no_key : (l : Layer) (t : StaticType) → key_region (pointer_to l t) ≡ TheHeap
pointer_no_key (code.Thin n r) t = refl
pointer_no_key (code.Fat r) t = refl
pointer_no_key (code.Unique n) t = refl

pub pointer_key : (ls : List Layer) (t : StaticType) (l : Layer) → outermost ls ≡ Some l → key_region (pointed t ls) ≡ TheHeap
pointer_key ls t l e = ap key_region (by_outer ls t l e) ∙ pointer_no_key l _
