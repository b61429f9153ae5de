-- Aliases, by what was judged of their parts.
use Rattle.std.proofs.Common.{◌≡◌, Bool, false, Option, Some, None, refl, sym, ap, ◌∙◌}
use Rattle.cyc_tree.specs.Tree as tree
use Rattle.cyc_types.proofs.Converting.{by_none, by_outer}
use Rattle.cyc_types.specs.Bases.{base_type}
use Rattle.cyc_types.specs.Layers.{outermost, pointer_to}
use Rattle.cyc_types.specs.Reaches.{reach_of}
use Rattle.cyc_types.specs.Regions.{region_of}
use Rattle.cyc_types.specs.Types.{static_type}
use Rattle.cyc_types.specs.declared.base.BaseType.{BaseType}
use Rattle.cyc_types.specs.declared.base.BaseType.TheVariants as base
use Rattle.cyc_types.specs.declared.ctype.CType.{CType}
use Rattle.cyc_types.specs.declared.layer.Layer.{Layer}
use Rattle.cyc_types.specs.declared.layer.Layer.TheVariants as layer
use Rattle.cyc_types.specs.declared.reach.Reach.{Reach}
use Rattle.cyc_types.specs.declared.region.RegionId.{RegionId}
use Rattle.source_typing.specs.Declarations.{aliased, with_region}
use Rattle.source_typing.specs.Regions.{Region, Regions}
use Rattle.source_typing.specs.Scope.{Env, in_scope}
use Rattle.source_meaning.specs.Shapes.{single}
use Rattle.source_typing.specs.Types.{StaticType, Thin}
use Rattle.check_declarations.specs.Operands.{outside_unique}

-- ---- a region that begins hides no name

pub begun_tables : (g : Env) (r : tree.RegionName) (next : Regions → Regions) → in_scope (with_region r next g) ≡ in_scope g
begun_tables g (tree.Named n) next = refl
begun_tables g (tree.Heap at) next = refl
begun_tables g (tree.Unique at) next = refl

-- ---- the type of an alias

-- of a unique pointer
pub unique_aliased : (r : RegionId) (t u : StaticType) (n : Bool) (b : Reach) → reach_of b ≡ single n → t ≡ pointer_to (layer.Unique n) u
    → pointer_to (layer.Thin b r) u ≡ aliased (region_of r) t
unique_aliased r t u n b h e = ap (λ bound. Thin bound (region_of r) u) h ∙ ap (aliased (region_of r)) (sym e)

base_aliased : (r : Region) (b : BaseType) → base_type b ≡ aliased r (base_type b)
base_aliased r base.Int = refl
base_aliased r base.Unsigned = refl
base_aliased r base.Char = refl
base_aliased r base.Void = refl
base_aliased r base.Null = refl
base_aliased r (base.Handle q) = refl
base_aliased r (base.Key q) = refl
base_aliased r (base.Struct tag rs) = refl
base_aliased r (base.Union tag rs) = refl

pointer_aliased : (r : Region) (l : Layer) (u : StaticType) → outside_unique (Some l) ≡ false → pointer_to l u ≡ aliased r (pointer_to l u)
pointer_aliased r (layer.Thin n q) u e = refl
pointer_aliased r (layer.Fat q) u e = refl
pointer_aliased r (layer.Unique n) u e = absurd cc

-- of any other type
pub other_aliased : (r : Region) (t : CType) (o : Option Layer) → outermost t.layers.items ≡ o → outside_unique o ≡ false
    → static_type t ≡ aliased r (static_type t)
other_aliased r t None e h =
    let is = by_none t.layers.items (base_type t.base) e in
    is ∙ base_aliased r t.base ∙ ap (aliased r) (sym is)
other_aliased r t (Some l) e h =
    let is = by_outer t.layers.items (base_type t.base) l e in
    is ∙ pointer_aliased r l _ h ∙ ap (aliased r) (sym is)
