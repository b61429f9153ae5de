use Rattle.std.proofs.Common.{ap, ◌∙◌}
use Rattle.cyc_tree.specs.View.{type_tree}
use Rattle.source_typing.specs.Declarations.{tags_in_scope}
use Rattle.source_typing.specs.Written.{written}
use Rattle.check_faults.specs.Verdicts.{shortened}
use Rattle.check_declarations.proofs.local_types.unset_type.Goals as goal

pub returns : goal.returns
returns c g known suits =
    let t = type_tree c.args.of.now in
    let w = written (tags_in_scope g) g.names t in
    let e = c.in_ok-written.ensures (tags_in_scope g) (c.local_tag-tag.ensures g known) ∙ ap (λ n. shortened (written (tags_in_scope g) n t)) suits.names in
    c.local_type.ensures g w known suits.item e
