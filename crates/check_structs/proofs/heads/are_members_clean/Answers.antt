use Rattle.std.proofs.Common.{[], ap, map, sym, ◌∙◌}
use Rattle.std.specs.Prelude.{◌&&◌}
use Rattle.cyc_tree.specs.View.{member_tree}
use Rattle.source_typing.specs.Faults.{earliest, is_clean}
use Rattle.source_typing.specs.Tags.{head_faults, repeated}
use Rattle.check_structs.proofs.HeadTypes.{clean_none, clean_of_both, none_told}
use Rattle.check_structs.specs.Members.{scoped}
use Rattle.check_structs.proofs.heads.are_members_clean.Goals as goal

pub returns : goal.returns
returns c g i heads =
    let ms = map member_tree c.args.members.now in
    let all = head_faults (scoped g i c.args.names.now) c.args.is_union ms in
    c.are_both.ensures
    ∙ ap (λ b. b && c.is_none.result) (c.in_ok-clean.ensures g i heads)
    ∙ ap (λ b. is_clean all && b)
    (none_told c.in_ok-second.second c.is_none.result c.is_none.ensures
    ∙ clean_none c.in_ok-second.second (repeated [] ms) c.in_ok-second.ensures)
    ∙ sym (clean_of_both all (repeated [] ms))
