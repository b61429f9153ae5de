use Rattle.std.specs.Prelude.{option_map}
use Rattle.std.proofs.Common.{◌+◌, ◌++◌, [], ◌∷◌, ap, sym, ◌∙◌, drop, get_or, Bor}
use Rattle.std.proofs.lemmas.List.{append_assoc, drop_more}
use Rattle.cyc_core.specs.declared.layout.CellLayout.{CellLayout}
use Rattle.cyc_core.specs.declared.operation.Cell.TheVariants as cell
use Rattle.core_eval.specs.declared.value.Object.{Object}
use Rattle.core_eval.specs.Values.{cell_in}
use Rattle.core_eval.specs.Elements.{cells_of}
use Rattle.core_eval.specs.Whole.{held_by, values_from}
use Rattle.core_eval.proofs.whole.values_from.Goals as goal

pub each-preserved : goal.each-preserved
each-preserved c =
    let xs = c.args.cells.now in
    let i = c.each.cell-index in
    let x : CellLayout = get_or xs i record { offset = 0; cell = cell.Byte; padding = 0 } in
    let slots = cell_in (option_map (λ (o : Bor Object). cells_of o.now) c.args.object) in
    let values = c.each.values.items in
    let rest = drop (i + 1) xs in
    record {
      whole =
          let is = c.held_by.ensures ∙ ap (held_by x) c.cell_of-slot.ensures in
          (λ k. c.in_ok-push.ensures.items k ++ values_from slots (c.in_ok-at.ensures k) rest)
          ∙ append_assoc values (c.held_by.result ∷ []) (values_from slots (c.each.at + 1) rest)
          ∙ (λ k. values ++ is k ∷ values_from slots (c.each.at + 1) rest)
          ∙ ap (λ cs. values ++ values_from slots c.each.at cs) (sym (drop_more xs i _ c.each-test.true))
          ∙ c.each.invariant.whole;
    }
