use Rattle.std.specs.Prelude.{◌&&◌}
use Rattle.std.proofs.Common.{◌≡◌, true, ap, ◌∙◌, sym, rules}
use Rattle.std.proofs.lemmas.Result.{IfOk-weaker}
use Rattle.core_eval.specs.Blocks.{stored_of}
use Rattle.core_eval.specs.Whole.{are_alike, are_cells, slots_of}
use Rattle.core_eval.proofs.Lent.{all_cells}
use Rattle.core_eval.proofs.whole.are_laid.Goals as goal

pub returns-then-is_held-clause-laid : goal.returns-then-is_held-clause-laid
returns-then-is_held-clause-laid c =
    let p = c.args.place in
    let cells = c.args.cells.now in
    let slots = slots_of (stored_of c.args.memory.now) p in
    let held : c.is_held.result ≡ true = search rules in
    IfOk-weaker c.are_cells.result _ _
    (λ laid is d. is ∙ ap (λ s. are_cells s p.cell p.byte cells) (sym (all_cells _ _ (c.object.ensures d)))
    ∙ ap (λ b. b && are_cells slots p.cell p.byte cells) (sym held ∙ c.is_held.ensures d))
    c.are_cells.ensures.laid

pub returns-then-is_held-clause-alike : goal.returns-then-is_held-clause-alike
returns-then-is_held-clause-alike c =
    let p = c.args.place in
    let cells = c.args.cells.now in
    IfOk-weaker c.are_cells.result _ _
    (λ laid alike is d. ap (λ s. are_alike s p.cell cells) (all_cells _ _ (c.object.ensures d)) ∙ alike is)
    c.are_cells.ensures.alike
