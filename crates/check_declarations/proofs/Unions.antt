-- The union of a `switch`, by its place and its type.
use Rattle.std.proofs.Common.{◌≡◌, List, Some, None, refl, ap, ◌∙◌}
use Rattle.cyc_types.proofs.Converting.{by_none, by_outer}
use Rattle.cyc_types.specs.Layers.{outermost, pointed, pointer_to}
use Rattle.cyc_types.specs.declared.layer.Layer.{Layer}
use Rattle.cyc_types.specs.declared.layer.Layer.TheVariants as layer
use Rattle.source_typing.specs.Regions.{Region}
use Rattle.source_typing.specs.Scope.{In, InBlock}
use Rattle.source_typing.specs.Statements.{chosen_of}
use Rattle.source_typing.specs.Types.{Char, Fat, Handle, Int, Key, Null, StaticType, Struct, Thin, Union, Unique, Unsigned, Void}
use Rattle.check_declarations.specs.Switching.{union_in}

pub in_region_union : (t : StaticType) (r : Region) → chosen_of t (In r) ≡ union_in t
in_region_union (Union tag rs) r = refl
in_region_union Int r = refl
in_region_union Unsigned r = refl
in_region_union Char r = refl
in_region_union Void r = refl
in_region_union Null r = refl
in_region_union (Thin n q t) r = refl
in_region_union (Fat q t) r = refl
in_region_union (Unique n t) r = refl
in_region_union (Handle q) r = refl
in_region_union (Key q) r = refl
in_region_union (Struct tag rs) r = refl

pub in_block_union : (t : StaticType) → chosen_of t InBlock ≡ union_in t
in_block_union (Union tag rs) = refl
in_block_union Int = refl
in_block_union Unsigned = refl
in_block_union Char = refl
in_block_union Void = refl
in_block_union Null = refl
in_block_union (Thin n q t) = refl
in_block_union (Fat q t) = refl
in_block_union (Unique n t) = refl
in_block_union (Handle q) = refl
in_block_union (Key q) = refl
in_block_union (Struct tag rs) = refl

pub plain_union : (ls : List Layer) (t : StaticType) → outermost ls ≡ None → union_in (pointed t ls) ≡ union_in t
plain_union ls t e = ap union_in (by_none ls t e)

pointer_no_union : (l : Layer) (t : StaticType) → union_in (pointer_to l t) ≡ None
pointer_no_union (layer.Thin n r) t = refl
pointer_no_union (layer.Fat r) t = refl
pointer_no_union (layer.Unique n) t = refl

pub pointer_union : (ls : List Layer) (t : StaticType) (l : Layer) → outermost ls ≡ Some l → union_in (pointed t ls) ≡ None
pointer_union ls t l e = ap union_in (by_outer ls t l e) ∙ pointer_no_union l _
