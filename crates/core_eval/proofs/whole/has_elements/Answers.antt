use Rattle.std.specs.Prelude.{◌&&◌}
use Rattle.std.proofs.Common.{◌≡◌, ◌<◌, true, false, ap, ◌∙◌, sym, rules}
use Rattle.core_eval.specs.declared.value.Place.{Place}
use Rattle.core_eval.specs.Blocks.{stored_of}
use Rattle.core_eval.specs.Whole.{are_alike, are_cells, are_elements, slots_of}
use Rattle.core_eval.proofs.WholeParts.{alike_passed, element_passed, element_failed}
use Rattle.core_eval.proofs.Lent.{all_cells}
use Rattle.core_eval.proofs.whole.has_elements.Goals as goal

pub returns-then-not-branch-clause-laid : goal.returns-then-not-branch-clause-laid
returns-then-not-branch-clause-laid c =
    let p = c.args.place in
    let at = c.each.at in
    let slots = slots_of (stored_of c.args.memory.now) p in
    let cells = c.deref-cells.result.now in
    let l = c.args.layout.now in
    let within : c.each.counter < c.args.count = search rules in
    let unlaid : c.in_ok-are_cells.field-0 ≡ false = search rules in
    let held : c.is_held.result ≡ true = search rules in
    λ d. element_failed slots cells l.bytes at.cell at.byte c.each.counter c.args.count _ within (c.each.invariant.whole d)
    (ap (λ s. are_cells s at.cell at.byte cells) (all_cells _ _ (c.object-object.ensures d)) ∙ sym c.in_ok-are_cells.ensures.laid ∙ unlaid)
    ∙ ap (λ cs. are_elements slots p.cell p.byte cs l.bytes c.args.count) c.deref-cells.ensures.value
    ∙ ap (λ b. b && are_elements slots p.cell p.byte l.cells.items l.bytes c.args.count) (sym held ∙ c.is_held.ensures d)

pub each-preserved : goal.each-preserved
each-preserved c =
    let p = c.args.place in
    let at = c.each.at in
    let slots = slots_of (stored_of c.args.memory.now) p in
    let cells = c.deref-cells.result.now in
    let l = c.args.layout.now in
    let within : c.each.counter < c.args.count = search rules in
    let laid : c.in_ok-are_cells.field-0 ≡ true = search rules in
    record {
      whole = λ d. element_passed slots cells l.bytes at.cell at.byte c.each.counter c.args.count _ within (c.each.invariant.whole d) c.in_ok-at.at.cell
          c.in_ok-at.at.byte
          (ap (λ s. are_cells s at.cell at.byte cells) (all_cells _ _ (c.object-object.ensures d)) ∙ sym c.in_ok-are_cells.ensures.laid ∙ laid)
          (ap (λ (q : Place). q.cell) c.in_ok-at.ensures) (ap (λ (q : Place). q.byte) c.in_ok-at.ensures);
      alike = λ d. alike_passed slots cells at.cell c.each.counter c.args.count _ within (c.each.invariant.alike d) c.in_ok-at.at.cell
          (ap (λ s. are_alike s at.cell cells) (all_cells _ _ (c.object-object.ensures d)) ∙ c.in_ok-are_cells.ensures.alike laid)
          (ap (λ (q : Place). q.cell) c.in_ok-at.ensures);
    }
