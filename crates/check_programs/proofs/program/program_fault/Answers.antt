use Rattle.std.proofs.Common.{◌++◌, ◌∷◌, [], ap, ◌∙◌}
use Rattle.std.specs.Prelude.{codes}
use Rattle.cyc_tree.specs.View.{program_tree}
use Rattle.cyc_tree.specs.Tree.{Program}
use Rattle.source_typing.specs.Faults.{earliest}
use Rattle.source_typing.specs.Programs.{all_tag_faults, items_from, judged_tags, main_found, second_names, size_faults, tables_of, typing_faults}
use Rattle.check_programs.proofs.Items.{both_found}
use Rattle.check_tables.proofs.TagTables.{knows_all}
use Rattle.check_programs.proofs.program.program_fault.Goals as goal

pub returns : goal.returns
returns c =
    let p = program_tree c.items-items.result.now in
    let l = c.args.lenient in
    let g = tables_of l p in
    let seconds = second_names (codes "getchar" ∷ codes "putchar" ∷ []) p in
    let bodies = items_from l g 0 p in
    let two = both_found c.sooner.result c.in_ok-seconds.seconds c.in_ok-bodies.bodies seconds bodies c.sooner.ensures c.in_ok-seconds.ensures
    (c.in_ok-bodies.ensures (record { names = c.in_ok-tags.ensures.names; tables = c.in_ok-tags.ensures.tables }))
    in
    let three = both_found c.sooner-found.result c.sooner.result c.main_found.result (seconds ++ bodies) (main_found p) c.sooner-found.ensures two
    c.main_found.ensures
    in
    let four = both_found c.sooner-2.result c.sooner-found.result c.in_ok-sizes.sizes (seconds ++ bodies ++ main_found p) (size_faults l g p)
    c.sooner-2.ensures three
    (c.in_ok-sizes.ensures l g (knows_all _ l p (record { names = c.in_ok-tags.ensures.names; tables = c.in_ok-tags.ensures.tables })))
    in
    both_found c.sooner-3.result c.in_ok-tags.tags.fault c.sooner-2.result (all_tag_faults (judged_tags p))
    (seconds ++ bodies ++ main_found p ++ size_faults l g p) c.sooner-3.ensures c.in_ok-tags.ensures.fault four
    ∙ ap (λ (q : Program). earliest (typing_faults l q)) c.items-items.ensures.same
