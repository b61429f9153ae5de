use Rattle.std.proofs.Common.{◌∙◌, ap, map, subst, ◌++◌, []}
use Rattle.std.specs.Prelude.{◌&&◌}
use Rattle.cyc_tree.specs.View.{member_tree, region_tree, structure_tree}
use Rattle.source_typing.specs.Faults.{is_clean}
use Rattle.source_typing.specs.Tags.{head_faults, repeated}
use Rattle.check_structs.proofs.HeadTypes.{none_told, own_named, own_tables, tag_head}
use Rattle.check_structs.specs.Members.{scoped}
use Rattle.check_structs.specs.Parameters.{AreParameters}
use Rattle.check_structs.proofs.heads.head_of_structure.Goals as goal

pub returns : goal.returns
returns c g i bare =
    let s = structure_tree c.args.structure.now in
    let region = c.in_ok-parameters.parameters in
    let read = subst (λ rs. AreParameters (map region_tree rs) region) c.deref.ensures c.in_ok-parameters.ensures in
    let own = own_tables g i c.args.is_union s in
    let named = own_named g i c.args.is_union s c.args.tags.now c.deref-2.result.now region.count c.deref-2.ensures.value read.count bare in
    c.tag_name.ensures
    ∙ tag_head c.args.is_union g i s region.names region.fault c.are_both.result c.in_ok-clean.clean region.count
    read.names read.fault read.count
    (c.in_ok-clean.ensures own i named
    ∙ ap (λ ms. is_clean (head_faults (scoped own i region.names) c.args.is_union (map member_tree ms)
    ++ repeated [] (map member_tree ms)))
    c.deref-3.ensures.value)
    (c.are_both.ensures ∙ ap (λ b. b && c.in_ok-clean.clean) (none_told region.fault c.is_none.result c.is_none.ensures))
