-- View of code: how many bytes types have, up to the most that any may have, by what is known of structs and unions once they are declared.
use Rattle.std.specs.Prelude.{Bool, List, None, Option, Some, false, max, nat_eq, option_map, true, ℕ, ◌&&◌, ◌+◌, if◌then◌else◌, [], ◌∷◌}
use Rattle.source_meaning.specs.Sizes.{Extent, extent_by, largest, no_extent, rounded_up, struct_extent, union_extent}
use Rattle.source_typing.specs.Extents.{fits_bytes, known_shape, layouts_of, part_shapes}
use Rattle.source_typing.specs.Tables.{Part}
use Rattle.source_typing.specs.Types.{Char, Fat, StaticType, Struct, Union, Void, shape_of}
use Rattle.cyc_types.specs.Known.{Entry, found}
use Rattle.cyc_types.specs.Tags.{members_of}
use Rattle.cyc_types.specs.declared.extent.Alignment.{Alignment}
use Rattle.cyc_types.specs.declared.extent.Alignment.TheVariants.{Byte, Word}
use Rattle.cyc_types.specs.declared.layer.Layer.{Layer}
use Rattle.cyc_types.specs.declared.layer.Layer.TheVariants as pointer
use Rattle.cyc_types.specs.declared.tag.Known.{Known}
use Rattle.cyc_types.specs.declared.tag.Tag.{Tag}
use Rattle.cyc_types.specs.declared.extent.Extent as code
use Rattle.source_typing.specs.Tables as rules

-- the bytes of a type, by the rules
abbrev pub extent_in : rules.Tables → StaticType → Extent
extent_in g t = extent_by (struct_extent (layouts_of true g) (layouts_of false g)) (union_extent (layouts_of true g)) (shape_of t)

abbrev pub bytes_and : ℕ → ℕ → Extent
bytes_and size align = record { size = size; align = align }

-- bytes in code, as the rules say them
abbrev pub align_of : Alignment → ℕ
align_of Byte = 1
align_of Word = 4

abbrev pub extent_of : code.Extent → Extent
extent_of e = bytes_and e.size (align_of e.align)

abbrev pub measured : Option code.Extent → Option Extent
measured e = option_map extent_of e

-- None: too many bytes
abbrev pub limited : Extent → Option Extent
limited e = (if fits_bytes e.size then Some e else None)

-- a tag used as a struct's, and as a union's; one of the other kind is that of none
abbrev pub struct_if : (Known → Option Extent) → Option Known → Option Extent
struct_if stored None = Some (bytes_and 0 1)
struct_if stored (Some k) = (if k.tag.is_union then Some (bytes_and 0 1) else stored k)

abbrev pub union_if : (Known → Option Extent) → Option Known → Option Extent
union_if stored None = Some (bytes_and 4 4)
union_if stored (Some k) = (if k.tag.is_union then stored k else Some (bytes_and 4 4))

abbrev pub quick_extent : (Known → Option Extent) → List Entry → StaticType → Option Extent
quick_extent stored es Char = Some (bytes_and 1 1)
quick_extent stored es (Fat r t) = Some (bytes_and 12 4)
quick_extent stored es Void = Some (bytes_and 0 1)
quick_extent stored es (Struct tag rs) = struct_if stored (found es tag)
quick_extent stored es (Union tag rs) = union_if stored (found es tag)
quick_extent stored es t = Some (bytes_and 4 4)

-- a member of no known type counts as nothing
abbrev pub part_extent : (StaticType → Option Extent) → Option StaticType → Option Extent
part_extent of None = Some (bytes_and 0 1)
part_extent of (Some t) = of t

-- one member after others
abbrev pub placed_after : Extent → Option Extent → Option Extent
placed_after s None = None
placed_after s (Some e) = limited (bytes_and (rounded_up s.size e.align + e.size) (max s.align e.align))

-- the whole rounded up
abbrev pub padded : Extent → Option Extent
padded s = limited (bytes_and (rounded_up s.size s.align) s.align)

-- a struct's members, and the whole rounded up
abbrev pub quick_laid : (StaticType → Option Extent) → Option Extent → List Part → Option Extent
quick_laid of None ps = None
quick_laid of (Some s) [] = padded s
quick_laid of (Some s) (p ∷ ps) = quick_laid of (placed_after s (part_extent of p.type)) ps

-- the bytes of a scalar; a struct or union, which no union holds, counts as nothing
abbrev pub scalar_bytes : Option StaticType → ℕ
scalar_bytes t = (extent_by no_extent no_extent (known_shape t)).size

-- a union's bytes, by its largest member
abbrev pub bytes_with : ℕ → Extent
bytes_with most = bytes_and (rounded_up (4 + most) 4) 4

abbrev pub union_bytes : List Part → Extent
union_bytes ps = bytes_with (largest (extent_by no_extent no_extent) 0 (part_shapes ps))

-- ---- what is stored

abbrev pub stored : Known → Option Extent
stored k = measured k.extent

abbrev pub quick_measure : List Entry → StaticType → Option Extent
quick_measure es t = quick_extent stored es t

abbrev pub layer_extent : Layer → Extent
layer_extent (pointer.Thin n r) = bytes_and 4 4
layer_extent (pointer.Fat r) = bytes_and 12 4
layer_extent (pointer.Unique n) = bytes_and 4 4

-- the bytes of a struct or union with members that are declared
abbrev pub struct_measure : List Entry → List Part → Option Extent
struct_measure es ps = quick_laid (quick_measure es) (Some (bytes_and 0 1)) ps

abbrev pub quick_tag : List Entry → Tag → Option Extent
quick_tag es t = (if t.is_union then Some (union_bytes (members_of t.members.items)) else struct_measure es (members_of t.members.items))

abbrev pub same_measure : Option Extent → Option Extent → Bool
same_measure None None = true
same_measure (Some a) (Some b) = nat_eq a.size b.size && nat_eq a.align b.align
same_measure a b = false
