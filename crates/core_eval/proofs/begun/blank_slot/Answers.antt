use Rattle.std.specs.Prelude.{slice_get}
use Rattle.std.proofs.Common.{◌≡◌, ◌-◌, ◌/◌, ◌%◌, ◌<◌, ◌≤◌, Some, None, List, length, ap, ◌∙◌, sym, arith}
use Rattle.cyc_core.specs.declared.layout.CellLayout.{CellLayout}
use Rattle.core_eval.proofs.Unmade.{blank_nowhere, blank_past, blank_here}
use Rattle.core_eval.proofs.begun.blank_slot.Goals as goal

pub returns-then-size-eq0 : goal.returns-then-size-eq0
returns-then-size-eq0 c =
    let l = c.args.layout.now in
    let counted : length c.deref-cells.result.now ≡ length l.cells.items = ap (λ (xs : List CellLayout). length xs) c.deref-cells.ensures.value in
    blank_nowhere l.cells.items l.bytes c.args.first (c.args.count - c.args.first) c.args.before (length c.deref-cells.result.now) counted c.if-size-eq0.true

pub returns-then-later-from : goal.returns-then-later-from
returns-then-later-from c =
    let l = c.args.layout.now in
    let size = length c.deref-cells.result.now in
    let counted : size ≡ length l.cells.items = ap (λ (xs : List CellLayout). length xs) c.deref-cells.ensures.value in
    let past : c.args.count - c.args.first ≤ c.args.before / size = omega arith in
    blank_past l.cells.items l.bytes c.args.first (c.args.count - c.args.first) c.args.before size counted c.if-size-eq0.false past

pub returns-in-Some : goal.returns-in-Some
returns-in-Some c =
    let l = c.args.layout.now in
    let size = length c.deref-cells.result.now in
    let counted : size ≡ length l.cells.items = ap (λ (xs : List CellLayout). length xs) c.deref-cells.ensures.value in
    let less : c.args.before / size < c.args.count - c.args.first = omega arith in
    let at : slice_get l.cells.items (c.args.before % size) ≡ Some c.in-Some.cell =
    ap (λ (xs : List CellLayout). slice_get xs (c.args.before % size)) (sym c.deref-cells.ensures.value) ∙ sym c.cell_at.ensures ∙ c.in-Some.is in
    ap Some c.slot_from.ensures
    ∙ blank_here l.cells.items l.bytes c.args.first (c.args.count - c.args.first) c.args.before size counted c.if-size-eq0.false (Some c.in-Some.cell) less at

pub returns-in-None : goal.returns-in-None
returns-in-None c =
    let l = c.args.layout.now in
    let size = length c.deref-cells.result.now in
    let counted : size ≡ length l.cells.items = ap (λ (xs : List CellLayout). length xs) c.deref-cells.ensures.value in
    let less : c.args.before / size < c.args.count - c.args.first = omega arith in
    let at : slice_get l.cells.items (c.args.before % size) ≡ None =
    ap (λ (xs : List CellLayout). slice_get xs (c.args.before % size)) (sym c.deref-cells.ensures.value) ∙ sym c.cell_at.ensures ∙ c.in-None.is in
    blank_here l.cells.items l.bytes c.args.first (c.args.count - c.args.first) c.args.before size counted c.if-size-eq0.false None less at
