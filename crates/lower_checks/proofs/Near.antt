-- Structs of a table are small: their cells begin within 4,096 bytes, and so does what is laid of the next one's members.
use Rattle.std.proofs.Common.{◌≡◌, ◌∙◌, ℕ, ◌≤◌, Bool, List, [], ◌∷◌, map, refl, sym, ap, subst, arith, Option, Some, None, if◌then◌else◌}
use Rattle.std.specs.Prelude.{IfSome}
use Rattle.std.proofs.lemmas.List.Elements.{All-cons, All-nil}
use Rattle.std.proofs.lemmas.Slice.Eq.{bytes_eq-Decides}
use Rattle.source_meaning.specs.Shapes.{Layout, StructShape}
use Rattle.source_meaning.specs.Sizes.{Extent, laid_out, no_extent, struct_extent}
use Rattle.source_meaning.specs.Placing.{Placed, struct_placed}
use Rattle.source_lowering.specs.Layouts.{bytes_through, next_at}
use Rattle.source_lowering.specs.Lowerable.{AreStructs, AreUnions}
use Rattle.source_lowering.specs.ObjectCells.{extent_in}
use Rattle.source_lowering.proofs.Sizes.{through_laid}
use Rattle.source_lowering.proofs.Structs.{struct_made}
use Rattle.source_lowering.proofs.memory.Ordered.{AreOrdered, object_ordered}
use Rattle.lower_checks.specs.Structs.{AreNear, CellAt, IsFound, IsNear, IsNext, bytes_and, laid_cell, placed_cell, room_in, struct_in}
use Rattle.lower_checks.specs.declared.layouts.Known.{Known}
use Rattle.lower_checks.specs.declared.layouts.Structs.{Structs}
use Rattle.lower_checks.proofs.Structs.{members_laid, rooms_same}
use Rattle.cyc_core.specs.declared.layout.CellLayout.{CellLayout}

-- ---- cells

-- the first of cells that lie one after the other begins before their end
begins_within : (unions : List Layout) (end : ℕ) (ps : List Placed) → AreOrdered unions end ps → next_at end ps ≤ end
begins_within unions end [] ordered = omega arith
begins_within unions end (p ∷ ps) ordered =
    let one = ordered.0 in let more = begins_within unions end ps ordered.1 in omega (arith, one, more)

-- so does each
cells_near : (unions : List Layout) (end : ℕ) (ps : List Placed) (cs : List CellLayout) → end ≤ 4096 → AreOrdered unions end ps
    → map (placed_cell unions) ps ≡ map laid_cell cs → AreNear cs
cells_near unions end [] [] small ordered is = All-nil (λ (c : CellLayout). c.offset ≤ 4096)
cells_near unions end [] (c ∷ cs) small ordered is = absurd cc is
cells_near unions end (p ∷ ps) [] small ordered is = absurd cc is
cells_near unions end (p ∷ ps) (c ∷ cs) small ordered is =
    let first : placed_cell unions p ≡ laid_cell c = cc is in
    let others : map (placed_cell unions) ps ≡ map laid_cell cs = cc is in
    let at_is : c.offset ≡ p.offset = ap (λ (x : CellAt). x.offset) (sym first) in
    let begins : p.offset ≤ end = begins_within unions end (p ∷ ps) ordered in
    All-cons (λ (x : CellLayout). x.offset ≤ 4096) c cs (omega (arith, at_is, begins, small))
    (cells_near unions end ps cs small ordered.1 others)

found_near : (unions structs : List Layout) (tag : List ℕ) (found : Option Known) → AreUnions unions → AreStructs unions structs
    → IsFound unions structs tag found → IfSome found (λ k. AreNear k.layout.value.cells.items)
found_near unions structs tag None values are is = tt
found_near unions structs tag (Some k) values are is =
    cells_near unions (struct_extent unions structs tag).size (struct_placed unions structs tag) k.layout.value.cells.items
    (struct_made unions structs tag are).small (object_ordered unions structs (StructShape tag) values are is.has).ordered is.cells

-- ---- the next struct

pub next_near : (table : Structs) (l : Layout) → IsNext table l → IsNear table
next_near table l next = λ tag. found_near next.unions next.structs tag (struct_in table tag) next.values next.earlier (next.knows.knows tag)

-- its members end within 4,096 bytes, as the table counts them
pub next_small : (table : Structs) (l : Layout) → IsNext table l → bytes_through (room_in table) 0 l.parts ≤ 4096
next_small table l next =
    let unions : List Layout = next.unions in
    let structs : List Layout = next.structs in
    let laid = members_laid table unions structs l next.knows next.next in
    let same : laid_out (extent_in unions structs) (bytes_and 0 1) l.parts ≡ laid_out (room_in table) (bytes_and 0 1) l.parts =
    rooms_same table unions structs next.knows (bytes_and 0 1) l.parts laid in
    let own : struct_extent unions (l ∷ structs) l.tag ≡ laid_out (extent_in unions structs) (no_extent l.tag) l.parts =
    ap (λ (b : Bool). if b then laid_out (extent_in unions structs) (no_extent l.tag) l.parts else struct_extent unions structs l.tag)
    ((bytes_eq-Decides l.tag l.tag).1 refl) in
    let whole : (laid_out (room_in table) (bytes_and 0 1) l.parts).size ≤ 4096 =
    subst (λ (e : Extent). e.size ≤ 4096) (own ∙ same) next.next.small in
    let ends : bytes_through (room_in table) 0 l.parts ≤ (laid_out (room_in table) (bytes_and 0 1) l.parts).size =
    through_laid (room_in table) (bytes_and 0 1) l.parts in
    omega (arith, ends, whole)
