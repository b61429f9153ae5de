use Rattle.std.specs.Prelude.{if◌then◌else◌, slice_get, slice_set}
use Rattle.std.proofs.Common.{◌≡◌, Bool, List, Some, None, ap, ◌∙◌, sym}
use Rattle.std.specs.Box.{with_value}
use Rattle.core_eval.specs.declared.value.Object.{Object}
use Rattle.core_eval.specs.declared.value.Object.TheVariants as object
use Rattle.core_eval.specs.declared.value.Slot.{Slot}
use Rattle.core_eval.specs.Values.{put_cell}
use Rattle.core_eval.specs.Elements.{cells_of}
use Rattle.core_eval.proofs.Lists.{get_within, put_cell_some}
use Rattle.core_eval.proofs.value.Object.put.Goals as goal

pub returns-then-is_put-clause-put : goal.returns-then-is_put-clause-put
returns-then-is_put-clause-put c =
    let cells = c.in-Whole.slots.items in
    let found = c.in-Some.ensures.lookup.3 in
    let there : slice_get c.in-Whole.slots.items c.args.part.cell ≡ Some c.in-Some.slot.now =
    ap (λ (l : List Slot). slice_get l c.args.part.cell) (sym c.deref.ensures.value)
    ∙ get_within c.deref.result.now c.args.part.cell c.in-Some.slot.now found.0 (found.1 c.in-Some.slot.now) in
    ap (λ (o : Object). put_cell (cells_of o) c.args.part.cell c.args.part.byte c.args.part.number c.args.part.width c.args.value) c.in-Whole.is
    ∙ put_cell_some cells c.args.part.cell c.args.part.byte c.args.part.number c.args.part.width c.args.value c.in-Some.slot.now
    c.put-is_put.new.self c.put-is_put.result there
    c.put-is_put.ensures.put

pub returns-else-is_put-clause-put : goal.returns-else-is_put-clause-put
returns-else-is_put-clause-put c =
    let cells = c.in-Whole.slots.items in
    let new = slice_set cells c.args.part.cell c.put-is_put.new.self in
    let found = c.in-Some.ensures.lookup.3 in
    let there : slice_get c.in-Whole.slots.items c.args.part.cell ≡ Some c.in-Some.slot.now =
    ap (λ (l : List Slot). slice_get l c.args.part.cell) (sym c.deref.ensures.value)
    ∙ get_within c.deref.result.now c.args.part.cell c.in-Some.slot.now found.0 (found.1 c.in-Some.slot.now) in
    ap (λ (o : Object). put_cell (cells_of o) c.args.part.cell c.args.part.byte c.args.part.number c.args.part.width c.args.value) c.in-Whole.is
    ∙ put_cell_some cells c.args.part.cell c.args.part.byte c.args.part.number c.args.part.width c.args.value c.in-Some.slot.now
    c.put-is_put.new.self c.put-is_put.result there
    c.put-is_put.ensures.put
    ∙ ap (λ (b : Bool). if b then Some new else None) c.if-is_put.false
    ∙ sym (ap (λ (b : Bool). if b then Some cells else None) c.if-is_put.false)

pub returns-then-part-eq0-clause-kept : goal.returns-then-part-eq0-clause-kept
returns-then-part-eq0-clause-kept c =
    λ unput. ap (λ (s : Slot). object.Scalar (with_value c.in-Scalar.slot s)) (c.put.ensures.kept unput ∙ c.deref_mut.ensures.value) ∙ sym c.in-Scalar.is
