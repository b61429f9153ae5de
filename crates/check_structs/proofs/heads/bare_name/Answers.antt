use Rattle.std.proofs.Common.{IfOk, subst, sym, ◌≡◌}
use Rattle.std.specs.Prelude.{Some}
use Rattle.cyc_tree.specs.View.{program_item_tree}
use Rattle.source_typing.specs.Programs.{bare_entry}
use Rattle.check_types.specs.Tagged.{tag_name_of}
use Rattle.check_structs.proofs.heads.bare_name.Goals as goal

pub returns-in-Struct : goal.returns-in-Struct
returns-in-Struct c i =
    subst (λ x. IfOk c.bare_structure.result (λ n. n ≡ tag_name_of (Some (bare_entry i (program_item_tree x)))))
    (sym c.in-Struct.is) (c.bare_structure.ensures i)

pub returns-in-Union : goal.returns-in-Union
returns-in-Union c i =
    subst (λ x. IfOk c.bare_structure-in-Union.result (λ n. n ≡ tag_name_of (Some (bare_entry i (program_item_tree x)))))
    (sym c.in-Union.is) (c.bare_structure-in-Union.ensures i)
