use Rattle.std.proofs.Common.{◌≡◌, ◌∙◌, [], List, ap, sym, arith, drop}
use Rattle.std.proofs.lemmas.List.{drop_all}
use Rattle.cyc_tree.specs.View.{program_tree}
use Rattle.cyc_tree.specs.declared.item.Item as code_item
use Rattle.source_meaning.specs.Places.{bound_to, or_else}
use Rattle.source_meaning.specs.Programs.{globals_from}
use Rattle.lower_checks.specs.Tables.{global_in}
use Rattle.source_meaning.proofs.Firsts.{nothing_more}
use Rattle.lower_checks.proofs.table.first_globals.Goals as goal

-- no item is left
pub returns : goal.returns
returns c = record {
  first =
      λ name.
      let items = c.args.items.now in
      let all = global_in c.each.globals name in
      let done : drop c.each.item-index items ≡ [] = drop_all c.each.item-index items (omega (arith, c.each-test.false)) in
      sym (nothing_more all)
      ∙ ap (λ (rest : List code_item.Item). or_else all (bound_to (globals_from (program_tree rest) c.each.object) name)) (sym done)
      ∙ c.each.invariant.first name;
}
