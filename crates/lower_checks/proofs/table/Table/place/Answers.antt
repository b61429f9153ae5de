use Rattle.std.proofs.Common.{◌≡◌, subst}
use Rattle.cyc_tree.specs.Tree as tree
use Rattle.source_meaning.specs.Programs.{world_of}
use Rattle.source_meaning.specs.Shapes.{part_shape, parts_of}
use Rattle.source_meaning.specs.Sizes.{cells_before}
use Rattle.source_meaning.specs.Conversions.{cells_of}
use Rattle.source_lowering.specs.Layouts.{bytes_before, extent_of}
use Rattle.lower_checks.specs.MemberPlaces.{ArePlaces, places_at}
use Rattle.lower_checks.specs.Views.{shape_tree}
use Rattle.lower_checks.specs.declared.member.Reached.{Reached}
use Rattle.lower_checks.proofs.MemberPlaces.{IsPlaced, if_found, placed}
use Rattle.lower_checks.proofs.table.Table.place.Goals as goal

pub returns-clause-shape : goal.returns-clause-shape
returns-clause-shape c =
    let w = world_of c.args.self.now in
    let tag = c.args.tag.now in
    let name = c.args.name.now in
    let are = subst (λ (t : tree.Program). ArePlaces (world_of t) c.self.inside.places) c.self.view_is c.self.invariant.places_are in
    if_found (λ (r : Reached). IsPlaced w (parts_of w.structs tag) name r) (λ (r : Reached). shape_tree r.shape ≡ part_shape (parts_of w.structs tag) name)
    c.of.result (λ r is. is.shape) (placed w tag name (places_at c.self.inside.places tag) c.of.result (are tag) c.of.ensures)

pub returns-clause-cells : goal.returns-clause-cells
returns-clause-cells c =
    let w = world_of c.args.self.now in
    let tag = c.args.tag.now in
    let name = c.args.name.now in
    let are = subst (λ (t : tree.Program). ArePlaces (world_of t) c.self.inside.places) c.self.view_is c.self.invariant.places_are in
    if_found (λ (r : Reached). IsPlaced w (parts_of w.structs tag) name r) (λ (r : Reached). r.cells ≡ cells_before (cells_of w) (parts_of w.structs tag) name)
    c.of.result (λ r is. is.cells) (placed w tag name (places_at c.self.inside.places tag) c.of.result (are tag) c.of.ensures)

pub returns-clause-bytes : goal.returns-clause-bytes
returns-clause-bytes c =
    let w = world_of c.args.self.now in
    let tag = c.args.tag.now in
    let name = c.args.name.now in
    let are = subst (λ (t : tree.Program). ArePlaces (world_of t) c.self.inside.places) c.self.view_is c.self.invariant.places_are in
    if_found (λ (r : Reached). IsPlaced w (parts_of w.structs tag) name r)
    (λ (r : Reached). r.bytes ≡ bytes_before (extent_of w) 0 (parts_of w.structs tag) name)
    c.of.result (λ r is. is.bytes) (placed w tag name (places_at c.self.inside.places tag) c.of.result (are tag) c.of.ensures)
