use Rattle.std.proofs.Common.{◌≡◌, ◌*◌, ◌++◌, ◌<◌, false, List, length, map, ap, ◌∙◌, sym, rules}
use Rattle.cyc_core.specs.declared.layout.CellLayout.{CellLayout}
use Rattle.cyc_core.specs.declared.layout.Layout.{Layout}
use Rattle.core_eval.specs.Elements.{slot_from}
use Rattle.core_eval.proofs.Elements.{element_pushed}
use Rattle.core_eval.proofs.Unmade.{none_made}
use Rattle.core_eval.proofs.begun.Begun.make_up_to.Goals as goal

pub returns-then-is_empty-clause-all : goal.returns-then-is_empty-clause-all
returns-then-is_empty-clause-all c = λ past.
    let none : length c.deref.result.now.cells.items ≡ 0 = search rules in
    none_made c.args.self.now (ap (λ (l : Layout). length l.cells.items) (sym c.deref.ensures) ∙ none)

pub elements-preserved : goal.elements-preserved
elements-preserved c =
    let b = c.elements.self in
    let within : b.made < b.count = search rules in
    let pushed = c.in_ok-push_element.ensures
    ∙ ap (λ (l : Layout). b.slots.items ++ map (slot_from false (b.made * l.bytes)) c.deref-in-elements-3.result.now) c.deref-in-elements.ensures
    ∙ ap (λ (cs : List CellLayout). b.slots.items ++ map (slot_from false (b.made * b.layout.value.bytes)) cs)
    (c.deref-in-elements-3.ensures.value ∙ ap (λ (l : Layout). l.cells.items) c.deref-in-elements-2.ensures) in
    record {
      same = element_pushed (λ n. slot_from false (n * b.layout.value.bytes)) b.layout.value.cells.items b.made b.count b.slots.items _ _ within
          pushed c.elements.invariant.same;
      layout = c.elements.invariant.layout;
    }
