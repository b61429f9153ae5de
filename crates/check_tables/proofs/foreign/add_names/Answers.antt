use Rattle.std.proofs.Common.{◌+◌, ◌++◌, List, ap, arith, drop, false, map, sym, ◌∙◌}
use Rattle.std.proofs.lemmas.List.{drop_all}
use Rattle.cyc_tree.specs.View.{region_tree}
use Rattle.cyc_tree.specs.declared.name.RegionName.{RegionName}
use Rattle.source_typing.specs.Written.{find_region}
use Rattle.check_types.specs.Arguments.{named_spots}
use Rattle.check_tables.specs.Globals.{foreign_in, or_region}
use Rattle.check_tables.proofs.Items.{next_of}
use Rattle.check_tables.proofs.foreign.add_names.Goals as goal

pub each-preserved : goal.each-preserved
each-preserved c ss x =
    let rs = c.args.arguments.now in
    let i = c.each.argument-index in
    c.in_ok-add_name.ensures false (named_spots (map region_tree (drop (i + 1) rs)) ++ ss) x
    ∙ ap (λ (l : List RegionName). or_region (find_region c.each.names x) (foreign_in (named_spots (map region_tree l) ++ ss) x))
    (sym (next_of rs i c.argument-item.result c.each-test.true c.argument-item.is))
    ∙ c.each.invariant ss x

pub returns : goal.returns
returns c ss x =
    let rs = c.args.arguments.now in
    let i = c.each.argument-index in
    ap (λ (l : List RegionName). or_region (find_region c.each.names x) (foreign_in (named_spots (map region_tree l) ++ ss) x))
    (sym (drop_all i rs (omega (arith, c.each-test.false))))
    ∙ c.each.invariant ss x
