use Rattle.std.proofs.Common.{List, [], ◌∙◌, ap, map, refl, subst, sym}
use Rattle.cyc_tree.specs.View.{member_tree, region_tree, structure_tree}
use Rattle.cyc_types.specs.Tables.{tables_of}
use Rattle.cyc_types.specs.Tags.{members_of}
use Rattle.source_typing.specs.Faults.{earliest}
use Rattle.source_typing.specs.Tables.{Part}
use Rattle.source_typing.specs.Tags.{member_faults, parts_by, repeated, struct_sized}
use Rattle.check_faults.specs.Faults.{faults_of, sooner_found}
use Rattle.check_structs.proofs.HeadTypes.{none_told}
use Rattle.check_structs.proofs.Judging.{tag_fault, tag_is}
use Rattle.check_structs.specs.Members.{scoped}
use Rattle.check_structs.specs.Parameters.{AreParameters}
use Rattle.check_structs.specs.Tags.{or_own}
use Rattle.check_structs.proofs.structure.judged_structure.Goals as goal

pub returns : goal.returns
returns c g stands =
    let s = structure_tree c.args.structure.now in
    let i = c.args.order in
    let u = c.args.is_union in
    let region = c.in_ok-parameters.parameters in
    let e = scoped g i region.names in
    let here = tables_of c.args.known.tables.now in
    let members = c.in_ok-judged.judged.members in
    let fault = c.in_ok-judged.judged.fault in
    let second = c.in_ok-second.second in
    let read = subst (λ rs. AreParameters (map region_tree rs) region) c.deref.ensures c.in_ok-parameters.ensures in
    let parts = c.in_ok-judged.ensures.parts g i stands ∙ ap (λ xs. parts_by e u (map member_tree xs)) c.deref-2.ensures.value in
    let of_members =
    c.in_ok-judged.ensures.fault g i stands ∙ ap (λ xs. earliest (member_faults e u (map member_tree xs))) c.deref-2.ensures.value
    in
    let of_second = c.in_ok-second.ensures ∙ ap (λ xs. earliest (repeated [] (map member_tree xs))) c.deref-3.ensures.value in
    let sized = λ (ps : List Part). earliest (struct_sized here u s ps) in
    let is =
    c.or_size-fault.ensures s refl
    ∙ ap (λ xs. or_own (faults_of c.sooner-parts.result) (sized (members_of xs))) c.deref-4.ensures.value
    ∙ ap (λ o. or_own (faults_of o) (sized (members_of members.items)))
    (c.sooner-parts.ensures ∙ ap (sooner_found region.fault) c.sooner.ensures)
    in
    let found = c.or_size-fault.result in
    record {
      entry = tag_is u g here i s region.names (members_of members.items) region.fault fault second found read.names read.fault parts of_members
          of_second stands.bytes is c.is_none.result region.count (none_told found c.is_none.result c.is_none.ensures) read.count;
      fault = tag_fault u g here i s region.names (members_of members.items) region.fault fault second found read.names read.fault parts of_members
          of_second stands.bytes is;
    }
