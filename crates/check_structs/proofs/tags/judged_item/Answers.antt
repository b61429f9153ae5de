use Rattle.std.proofs.Common.{subst, sym}
use Rattle.std.specs.Prelude.{Some}
use Rattle.cyc_tree.specs.View.{program_item_tree}
use Rattle.source_typing.specs.Programs.{judged_tag}
use Rattle.check_structs.specs.Tags.{IsFound}
use Rattle.check_structs.proofs.tags.judged_item.Goals as goal

pub returns-in_ok-judged-in-Struct : goal.returns-in_ok-judged-in-Struct
returns-in_ok-judged-in-Struct c g stands =
    let found = c.in_ok-judged-in-Struct.ensures g stands in
    subst (λ x. IsFound (judged_tag g c.args.order (program_item_tree x)) (Some c.in_ok-judged-in-Struct.judged))
    (sym c.in-Struct.is) (sym found.entry, found.fault)

pub returns-in_ok-judged-in-Union : goal.returns-in_ok-judged-in-Union
returns-in_ok-judged-in-Union c g stands =
    let found = c.in_ok-judged-in-Union.ensures g stands in
    subst (λ x. IsFound (judged_tag g c.args.order (program_item_tree x)) (Some c.in_ok-judged-in-Union.judged))
    (sym c.in-Union.is) (sym found.entry, found.fault)
