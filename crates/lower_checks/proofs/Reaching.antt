-- Members that are reached.
use Rattle.std.proofs.Common.{◌≡◌, ◌∙◌, ℕ, ◌+◌, ap, false, List}
use Rattle.source_meaning.proofs.Layouts.{no_parts}
use Rattle.source_meaning.specs.Shapes.{Shape, VoidShape, Part, Layout, has_tag, parts_of, part_shape}
use Rattle.source_meaning.specs.Sizes.{Extent, cells_before}
use Rattle.source_meaning.specs.Steps.{World}
use Rattle.source_meaning.specs.Conversions.{cells_of}
use Rattle.source_meaning.specs.Places.{struct_parts}
use Rattle.source_lowering.specs.Layouts.{bytes_before, extent_of}
use Rattle.source_lowering.specs.Lowered.{member_shape}
use Rattle.lower_checks.specs.Reaching.{Place, member_place, reached_place}
use Rattle.lower_checks.specs.Views.{shape_tree}
use Rattle.lower_checks.specs.declared.member.Reached.{Reached}

abbrev place : Shape → ℕ → ℕ → Place
place s cells bytes = record { shape = s; cells = cells; bytes = bytes }

pub reached_member : (w : World) (from further : Reached) (f : List ℕ) → shape_tree further.shape ≡ member_shape w (shape_tree from.shape) f
    → further.cells ≡ from.cells + cells_before (cells_of w) (struct_parts w (shape_tree from.shape)) f
    → further.bytes ≡ from.bytes + bytes_before (extent_of w) 0 (struct_parts w (shape_tree from.shape)) f
    → reached_place further ≡ member_place w (reached_place from) f
reached_member w from further f shape_is cells_is bytes_is =
    let member = member_place w (reached_place from) f in
    ap (λ x. place x further.cells further.bytes) shape_is ∙ ap (λ x. place member.shape x further.bytes) cells_is
    ∙ ap (λ x. place member.shape member.cells x) bytes_is

-- ---- where no struct has a tag, it has no members

pub no_member : (structs : List Layout) (tag f : List ℕ) → has_tag structs tag ≡ false → part_shape (parts_of structs tag) f ≡ VoidShape
no_member structs tag f none = ap (λ (ps : List Part). part_shape ps f) (no_parts structs tag none)

pub none_before : (cells : Shape → List Shape) (structs : List Layout) (tag f : List ℕ) → has_tag structs tag ≡ false
    → cells_before cells (parts_of structs tag) f ≡ 0
none_before cells structs tag f none = ap (λ (ps : List Part). cells_before cells ps f) (no_parts structs tag none)

pub no_bytes_before : (extent : Shape → Extent) (structs : List Layout) (tag f : List ℕ) → has_tag structs tag ≡ false
    → bytes_before extent 0 (parts_of structs tag) f ≡ 0
no_bytes_before extent structs tag f none = ap (λ (ps : List Part). bytes_before extent 0 ps f) (no_parts structs tag none)
