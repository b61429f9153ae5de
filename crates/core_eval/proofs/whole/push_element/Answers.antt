use Rattle.std.proofs.Common.{◌+◌, ◌++◌, [], ◌∷◌, ap, sym, ◌∙◌, drop, map}
use Rattle.std.proofs.lemmas.List.{append_assoc, drop_more}
use Rattle.core_eval.specs.Whole.{begins_as}
use Rattle.core_eval.proofs.whole.push_element.Goals as goal

pub each-preserved : goal.each-preserved
each-preserved c =
    let xs = c.args.cells.now in
    let i = c.each.cell-index in
    let values = c.each.values.items in
    let rest = map begins_as (drop (i + 1) xs) in
    record {
      whole =
          ap (λ vs. vs ++ rest) c.in_ok-push.ensures.items
          ∙ append_assoc values (c.first.result ∷ []) rest
          ∙ ap (λ v. values ++ v ∷ rest) c.first.ensures
          ∙ ap (λ cs. values ++ map begins_as cs) (sym (drop_more xs i _ c.each-test.true))
          ∙ c.each.invariant.whole;
    }
