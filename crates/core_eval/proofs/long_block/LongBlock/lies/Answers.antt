use Rattle.std.specs.Prelude.{slice_get, nat_eq}
use Rattle.std.proofs.Common.{◌≡◌, ◌<◌, ◌≤◌, ◌/◌, ◌%◌, Some, None, List, length, ap, ◌∙◌, sym, arith}
use Rattle.cyc_core.specs.declared.layout.CellLayout.{CellLayout}
use Rattle.core_eval.proofs.LongBlocks.{lies_none, lies_past, lies_missing, lies_here}
use Rattle.core_eval.proofs.long_block.LongBlock.lies.Goals as goal

pub returns-then-size-eq0 : goal.returns-then-size-eq0
returns-then-size-eq0 c =
    let b = c.args.self.now in
    lies_none b.cells.items b.bytes b.count c.args.cell c.args.byte
    (sym (ap (λ (xs : List CellLayout). length xs) c.deref-cells.ensures.value) ∙ c.if-size-eq0.true)

pub returns-in_default : goal.returns-in_default
returns-in_default c =
    let b = c.args.self.now in
    let size = length c.deref-cells.result.now in
    let counted : size ≡ length b.cells.items = ap (λ (xs : List CellLayout). length xs) c.deref-cells.ensures.value in
    let past : b.count ≤ c.args.cell / size = (let over : c.args.cell / size < 4294967296 → ⊥ = c.in_default.ensures in omega (arith, over)) in
    lies_past b.cells.items b.bytes b.count c.args.cell c.args.byte size counted c.if-size-eq0.false past

pub returns-in-Some : goal.returns-in-Some
returns-in-Some c =
    let b = c.args.self.now in
    let size = length c.deref-cells.result.now in
    let counted : size ≡ length b.cells.items = ap (λ (xs : List CellLayout). length xs) c.deref-cells.ensures.value in
    let at : slice_get b.cells.items (c.args.cell % size) ≡ Some c.in-Some.layout =
    ap (λ (xs : List CellLayout). slice_get xs (c.args.cell % size)) (sym c.deref-cells.ensures.value) ∙ sym c.cell_at.ensures ∙ c.in-Some.is in
    let element : c.in-Ok.element ≡ c.args.cell / size = omega arith in
    ap (λ n. nat_eq n c.args.byte) c.offset_in.ensures
    ∙ lies_here b.cells.items b.bytes b.count c.args.cell c.args.byte size counted c.if-size-eq0.false c.in-Ok.element
    c.in-Some.layout element c.if-element-count.true at

pub returns-in_default-cell_at : goal.returns-in_default-cell_at
returns-in_default-cell_at c =
    let b = c.args.self.now in
    let size = length c.deref-cells.result.now in
    let counted : size ≡ length b.cells.items = ap (λ (xs : List CellLayout). length xs) c.deref-cells.ensures.value in
    let past : b.count ≤ c.args.cell / size = omega arith in
    lies_past b.cells.items b.bytes b.count c.args.cell c.args.byte size counted c.if-size-eq0.false past

pub returns-in_default-cell_at-2 : goal.returns-in_default-cell_at-2
returns-in_default-cell_at-2 c =
    let b = c.args.self.now in
    let size = length c.deref-cells.result.now in
    let counted : size ≡ length b.cells.items = ap (λ (xs : List CellLayout). length xs) c.deref-cells.ensures.value in
    let none : slice_get b.cells.items (c.args.cell % size) ≡ None =
    ap (λ (xs : List CellLayout). slice_get xs (c.args.cell % size)) (sym c.deref-cells.ensures.value) ∙ sym c.cell_at.ensures ∙ c.in_default-cell_at.is in
    lies_missing b.cells.items b.bytes b.count c.args.cell c.args.byte size counted c.if-size-eq0.false none
