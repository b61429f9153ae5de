use Rattle.std.proofs.Common.{ap, sym, ◌∙◌}
use Rattle.std.specs.Prelude.{is_some}
use Rattle.cyc_tree.specs.View.{name_tree, region_tree}
use Rattle.cyc_types.specs.Regions.{region_of}
use Rattle.source_typing.specs.Declarations.{name_added, with_region}
use Rattle.source_typing.specs.Scope.{next_region}
use Rattle.source_typing.specs.Written.{find_region}
use Rattle.check_declarations.proofs.Blocks.{kept_added}
use Rattle.check_declarations.specs.Contexts.{kept_to}
use Rattle.check_declarations.proofs.regions.add_region.Goals as goal

pub returns-in_ok-add-in-Named-clause-added : goal.returns-in_ok-add-in-Named-clause-added
returns-in_ok-add-in-Named-clause-added c g next known id =
    let n = name_tree c.in-Named.name in
    let old = c.args.names.now in
    c.in_ok-add-in-Named.ensures.added n (sym c.deref.ensures.value)
    ∙ ap (λ q. name_added (is_some (find_region old n.text)) n q old) id
    ∙ ap (λ ns. name_added (is_some (find_region ns n.text)) n (next_region g) ns) known
    ∙ ap (λ r. (with_region (region_tree r) next g).names) (sym c.in-Named.is)

pub returns-in_ok-add-in-Named-clause-kept : goal.returns-in_ok-add-in-Named-clause-kept
returns-in_ok-add-in-Named-clause-kept c count within =
    let n = name_tree c.in-Named.name in
    let old = c.args.names.now in
    ap (kept_to count) (c.in_ok-add-in-Named.ensures.added n (sym c.deref.ensures.value))
    ∙ kept_added count (is_some (find_region old n.text)) n (region_of c.args.id) old within
