use Rattle.std.proofs.Common.{◌∙◌, ap, map}
use Rattle.cyc_tree.specs.View.{item_tree, items_of}
use Rattle.source_meaning.specs.Programs.{functions_of}
use Rattle.source_meaning.specs.Callees.{items_callees}
use Rattle.stack_needs.specs.Numbers.{numbers_among}
use Rattle.stack_needs.proofs.calls.calls_in.Goals as goal
use Rattle.tree_walk.specs.Listing.{name_of}

-- what was listed are the body's callees
pub returns : goal.returns
returns c =
    let names_are =
    ap (λ all. map name_of all) c.as_slice.ensures.value ∙ c.in_ok-callees.ensures
    ∙ ap (λ items. items_callees (items_of (map item_tree items))) c.deref.ensures.value in
    c.in_ok-found.ensures ∙ ap (λ names. numbers_among (functions_of c.args.functions.now) names) names_are
