use Rattle.std.proofs.Common.{◌++◌, ap, map, ◌∙◌}
use Rattle.cyc_tree.specs.View.{pointer_tree, region_tree, type_tree}
use Rattle.source_typing.specs.Written.{find_region}
use Rattle.check_types.specs.Arguments.{named_spots}
use Rattle.check_tables.specs.Globals.{foreign_in, or_region, spots_in}
use Rattle.check_tables.proofs.foreign.foreign_names.Goals as goal

pub returns : goal.returns
returns c x =
    let others = spots_in (type_tree c.args.of.now).pointers in
    let arguments = named_spots (map region_tree c.base_regions.result.now) in
    c.in_ok-add_regions.ensures x
    ∙ ap (λ ps. or_region (find_region c.add_names.new.names x) (foreign_in (spots_in (map pointer_tree ps)) x)) c.deref.ensures.value
    ∙ c.in_ok-add_names.ensures others x
    ∙ ap (λ l. or_region (find_region l x) (foreign_in (arguments ++ others) x)) c.new-names.ensures
    ∙ ap (λ rs. foreign_in (named_spots rs ++ others) x) c.base_regions.ensures
